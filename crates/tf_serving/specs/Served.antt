-- What the calls of a store leave that store nothing.
use Rattle.std.specs.Prelude.{◌≡◌, ◌⊎◌, ◌+◌, ◌≤◌, ℕ, List, Option, Result, IfErr, OnOk, true}
use Rattle.std.specs.Io.KnownBytes.{Appends}
use Rattle.tf_records.specs.declared.refusal.Refusal.{Refusal}
use Rattle.tf_records.specs.declared.refusal.Refusal.TheVariants as refusal
use Rattle.tf_manifest.specs.declared.row.Row.{Row}
use Rattle.tf_forest.specs.Forest.{View}
use Rattle.tf_compaction.specs.Compaction.{IsMergedOut}
use Rattle.tf_script.specs.Command.{Command, publish, compact}
use Rattle.tf_main.specs.declared.fault.RunFault.{RunFault}
use Rattle.tf_main.specs.Engine.{IsServed}
use Rattle.tf_main.specs.Line.{refusal_line}
use Rattle.tf_main.specs.Run.{IsCommandRun}

-- memory was refused, or the registry is full, which takes 20,000 publishes
abbrev pub IsRefused : ℕ → Refusal → Type 0
IsRefused publishes refusal.NoMemory = Unit {0}
IsRefused publishes refusal.RegistryFull = 20000 ≤ publishes
IsRefused publishes refusal.BatchTooLarge = ⊥
IsRefused publishes refusal.ClockExhausted = ⊥
IsRefused publishes refusal.Stale = ⊥
IsRefused publishes (refusal.BadLine line column) = ⊥
IsRefused publishes (refusal.BadRecord length) = ⊥

-- a publish, or what begins with one: journal, clock and limit are as they were, and at most one publish more is counted
pub record IsRead {X : Type 0} (old new : View) (result : Result X Refusal) : Type 0 where
  pub journal : new.journal ≡ old.journal
  pub clock : new.clock ≡ old.clock
  pub limit : new.sealed.tables.pushed.limit ≡ old.sealed.tables.pushed.limit
  pub publishes : new.sealed.counts.publishes ≤ old.sealed.counts.publishes + 1
  pub refused : IfErr result (IsRefused old.sealed.counts.publishes)

-- what a publish and a compaction are for: nothing waits, and no row has a run to merge
abbrev pub IsDone : Command → View → Type 0
IsDone publish forest = forest.waiting ≡ 0
IsDone compact forest = (row : Row) → IsMergedOut forest row
IsDone command forest = Unit {0}

-- a command did what it is for, or that the registry is full was printed
abbrev pub IsDoneOrFull : {X : Type 0} → Command → View → Option (List ℕ) → Option (List ℕ) → Result X RunFault → Type 0
IsDoneOrFull command forest before after result = OnOk result (Appends before after (refusal_line refusal.RegistryFull) ⊎ IsDone command forest)

-- a command that stores nothing was answered over sealed tables
abbrev pub Serves : {X : Type 0} → View → View → Command → Result X Refusal → Type 0
Serves old new command result = IsServed true (λ (f : View). f.journal) (λ (f : View). f.clock) (λ (f : View). f.sealed.counts.publishes) old new command result

-- one command was run over sealed tables and its answer printed, or the run ends
abbrev pub IsCommandServed : {X : Type 0} → View → View → Option (List ℕ) → Option (List ℕ) → Command → Result X RunFault → Type 0
IsCommandServed old new before after command result =
    IsCommandRun true (λ (f : View). f.journal) (λ (f : View). f.clock) (λ (f : View). f.sealed.counts.publishes) old new before after command result
