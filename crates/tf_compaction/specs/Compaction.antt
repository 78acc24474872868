-- What merges of a store's sealed tables leave.
use Rattle.std.specs.Prelude.{◌≡◌, ◌<◌, ℕ, Result, IfErr}
use Rattle.tf_records.specs.declared.refusal.Refusal.{Refusal}
use Rattle.tf_records.specs.declared.refusal.Refusal.TheVariants as refusal
use Rattle.tf_manifest.specs.declared.row.Row.{Row}
use Rattle.tf_manifest.specs.Kinds.{kind_of}
use Rattle.tf_manifest.specs.View.{tables_by}
use Rattle.tf_registry.specs.Run.{count_at}
use Rattle.tf_forest.specs.Forest.{View}
use Rattle.tf_store.specs.Store as store

-- memory was refused, or as many tables were pushed as there is room for
abbrev pub IsFull : View → Refusal → Type 0
IsFull forest refusal.NoMemory = Unit {0}
IsFull forest refusal.RegistryFull = forest.sealed.tables.pushed.count ≡ forest.sealed.tables.pushed.limit
IsFull forest refusal.BatchTooLarge = ⊥
IsFull forest refusal.ClockExhausted = ⊥
IsFull forest refusal.Stale = ⊥
IsFull forest (refusal.BadLine line column) = ⊥
IsFull forest (refusal.BadRecord length) = ⊥

-- journal, clock, the limit of pushes and the number of publishes are as they were
pub record Stays (old new : View) : Type 0 where
  pub journal : new.journal ≡ old.journal
  pub clock : new.clock ≡ old.clock
  pub limit : new.sealed.tables.pushed.limit ≡ old.sealed.tables.pushed.limit
  pub publishes : new.sealed.counts.publishes ≡ old.sealed.counts.publishes

-- what no merge touches: the receipts that wait, what readers can see, and the entries that wait for a publish
pub record KeepsRest (old new : store.View) : Type 0 where
  pub receipts : new.waiting ≡ old.waiting
  pub readable : new.readable ≡ old.readable
  pub fresh : new.forest.fresh ≡ old.forest.fresh
  pub waiting : new.forest.waiting ≡ old.forest.waiting
  pub kept : new.forest.kept ≡ old.forest.kept

-- sealed tables were merged. A full registry is told only where as many tables were pushed as there is room for
pub record IsCompacted {X : Type 0} (old new : View) (result : Result X Refusal) : Type 0 where
  pub stays : Stays old new
  pub refused : IfErr result (IsFull new)

-- a row has no run to merge: fewer than four tables of each level
abbrev pub IsMergedOut : View → Row → Type 0
IsMergedOut forest row = (level : ℕ) → count_at level (tables_by forest.sealed.tables (kind_of row)) < 4
