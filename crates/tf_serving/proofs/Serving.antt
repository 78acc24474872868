-- What a store's calls leave, as what a script's commands ask for.
use Rattle.std.proofs.Common.{arith, ◌≡◌, ◌≢◌, ◌<◌, ◌≤◌, ◌+◌, ◌&&◌, ◌==◌, ℕ, Bool, true, false, Option, Some, None, List, Result, Ok, Err, IfErr, OnOk, MatchOption, ap, subst, sym, refl, inl, inr}
use Rattle.std.specs.Prelude.{if◌then◌else◌, nat_le}
use Rattle.std.proofs.lemmas.Bool.{le-leb}
use Rattle.tf_records.specs.declared.refusal.Refusal.{Refusal}
use Rattle.tf_records.specs.declared.refusal.Refusal.TheVariants as refusal
use Rattle.tf_script.specs.Command.{Command, accounts, transfers, pulse, publish, compact, query, lookup_accounts, lookup_transfers}
use Rattle.tf_rows.specs.Counts.{AreBounded}
use Rattle.tf_forest.specs.Forest.{View}
use Rattle.tf_store.specs.Publish.{IsPublish, IsTaken}
use Rattle.tf_main.specs.declared.fault.RunFault.{RunFault}
use Rattle.tf_main.specs.Engine.{MayBeRefused}
use Rattle.tf_main.specs.Run.{IsPrinted}
use Rattle.tf_main.specs.Script.{asks_memory, publishes, pushes, refusal_of}
use Rattle.tf_compaction.specs.Compaction.{IsCompacted, IsFull}
use Rattle.tf_serving.specs.Served.{IsDone, IsDoneOrFull, IsRead, IsRefused, Serves}

-- over sealed tables every command may ask for memory
pub all_ask : (command : Command) → asks_memory true command ≡ true
all_ask (accounts now events) = refl
all_ask (transfers now events) = refl
all_ask (pulse now most) = refl
all_ask publish = refl
all_ask compact = refl
all_ask (query asked) = refl
all_ask (lookup_accounts ids) = refl
all_ask (lookup_transfers ids) = refl

-- a registry is full after 20,000 publishes
can_be_full_then : (published : ℕ) (pushing : Bool) → pushing ≡ true → 20000 ≤ published → (true && (pushing && nat_le 20000 published)) ≡ true
can_be_full_then published true is enough = le-leb 20000 published enough
can_be_full_then published false is enough = cc

may_be_refused : (published : ℕ) (command : Command) (r : Refusal) → pushes command ≡ true → IsRefused published r → MayBeRefused true published command r
may_be_refused published command refusal.NoMemory pushing refused = all_ask command
may_be_refused published command refusal.RegistryFull pushing refused = can_be_full_then published (pushes command) pushing refused
may_be_refused published command refusal.BatchTooLarge pushing refused = absurd refused
may_be_refused published command refusal.ClockExhausted pushing refused = absurd refused
may_be_refused published command refusal.Stale pushing refused = absurd refused
may_be_refused published command (refusal.BadLine line column) pushing refused = absurd refused
may_be_refused published command (refusal.BadRecord length) pushing refused = absurd refused

one_more : (quiet : Bool) (old new : ℕ) → quiet ≡ true → new ≤ old + 1 → new ≤ old + (if quiet then 1 else 0)
one_more true old new is more = more
one_more false old new is more = cc

none_due : {X : Type 0} (due : Option Refusal) (result : Result X Refusal) (P : Refusal → Type 0) → due ≡ None → IfErr result P → MatchOption due (IfErr result P) (λ (s : Refusal). result ≡ Err s)
none_due None result P none p = p
none_due (Some s) result P none p = cc

-- a command whose publish was refused
pub read_refused : {X Y : Type 0} (old new : View) (command : Command) (r : Refusal) → publishes command ≡ true → pushes command ≡ true
    → refusal_of old.journal old.clock command ≡ None
    → IsRead {X = Y} old new (Err r) → Serves {X = X} old new command (Err r)
read_refused {X = X} old new command r publishing pushing none read = record {
  journal = read.journal;
  clock = read.clock;
  published = one_more (publishes command) _ _ publishing read.publishes;
  refused = none_due {X = X} _ (Err r) (MayBeRefused true old.sealed.counts.publishes command) none (may_be_refused _ command r pushing read.refused);
}

for_memory : {X : Type 0} (published : ℕ) (command : Command) (outcome : Result X Refusal) → IfErr outcome (λ r. r ≡ refusal.NoMemory) → IfErr outcome (MayBeRefused true published command)
for_memory published command (Ok x) is = tt
for_memory published command (Err r) is = rw is (all_ask command)

-- a command that was answered after a publish
pub read_answered : {X Y : Type 0} (old new : View) (command : Command) (outcome : Result X Refusal) (y : Y) → publishes command ≡ true
    → refusal_of old.journal old.clock command ≡ None
    → IsRead old new (Ok y) → IfErr outcome (λ r. r ≡ refusal.NoMemory) → Serves old new command outcome
read_answered old new command outcome y publishing none read is = record {
  journal = read.journal;
  clock = read.clock;
  published = one_more (publishes command) _ _ publishing read.publishes;
  refused = none_due _ outcome (MayBeRefused true old.sealed.counts.publishes command) none (for_memory _ command outcome is);
}

-- sealed tables were merged
compaction_refused : (old new : View) (r : Refusal) → new.sealed.counts.publishes ≡ old.sealed.counts.publishes
    → AreBounded new.sealed → new.sealed.tables.pushed.limit ≡ 1048576 → IsFull new r
    → MayBeRefused true old.sealed.counts.publishes compact r
compaction_refused old new refusal.NoMemory publishes bounded limit full = refl
compaction_refused old new refusal.RegistryFull same bounded limit full =
    let many = bounded.tables in
    let enough : 20000 ≤ old.sealed.counts.publishes = omega (arith, same, limit, full, many) in
    can_be_full_then _ true refl enough
compaction_refused old new refusal.BatchTooLarge same bounded limit full = absurd full
compaction_refused old new refusal.ClockExhausted same bounded limit full = absurd full
compaction_refused old new refusal.Stale same bounded limit full = absurd full
compaction_refused old new (refusal.BadLine line column) same bounded limit full = absurd full
compaction_refused old new (refusal.BadRecord length) same bounded limit full = absurd full

same_or_more : (old new : ℕ) → new ≡ old → new ≤ old + 0
same_or_more old new is = omega (arith, is)

pub compacted : {X : Type 0} (old new : View) (result : Result X Refusal) → IsCompacted old new result
    → AreBounded new.sealed → new.sealed.tables.pushed.limit ≡ 1048576 → Serves old new compact result
compacted old new (Ok x) merged bounded limit = record {
  journal = merged.stays.journal;
  clock = merged.stays.clock;
  published = same_or_more _ _ merged.stays.publishes;
  refused = tt;
}
compacted old new (Err r) merged bounded limit = record {
  journal = merged.stays.journal;
  clock = merged.stays.clock;
  published = same_or_more _ _ merged.stays.publishes;
  refused = compaction_refused old new r merged.stays.publishes bounded limit merged.refused;
}

-- one publish at most is counted
at_most_one : (none : Bool) → (if none then 0 else 1) ≤ 1
at_most_one true = omega arith
at_most_one false = omega arith

one_publish : (old new : ℕ) (none : Bool) → new ≡ old + (if none then 0 else 1) → new ≤ old + 1
one_publish old new none is = omega (arith, is, at_most_one none)

publish_refused : (old new : View) (r : Refusal) → AreBounded old.sealed → old.needed ≤ 42 → old.sealed.tables.pushed.limit ≡ 1048576
    → (r ≡ refusal.RegistryFull → (new ≡ old) × (old.sealed.tables.pushed.limit < old.sealed.tables.pushed.count + old.needed))
    → (r ≢ refusal.RegistryFull → (r ≡ refusal.NoMemory) × (old.sealed.tables.pushed.count + old.needed ≤ old.sealed.tables.pushed.limit))
    → IsRefused old.sealed.counts.publishes r
publish_refused old new refusal.NoMemory bounded few limit full refused = tt
publish_refused old new refusal.RegistryFull bounded few limit full refused =
    let past = (full refl).1 in
    let many = bounded.tables in
    omega (arith, past, many, few, limit)
publish_refused old new refusal.BatchTooLarge bounded few limit full refused = let is = (refused (λ is. cc)).0 in cc
publish_refused old new refusal.ClockExhausted bounded few limit full refused = let is = (refused (λ is. cc)).0 in cc
publish_refused old new refusal.Stale bounded few limit full refused = let is = (refused (λ is. cc)).0 in cc
publish_refused old new (refusal.BadLine line column) bounded few limit full refused = let is = (refused (λ is. cc)).0 in cc
publish_refused old new (refusal.BadRecord length) bounded few limit full refused = let is = (refused (λ is. cc)).0 in cc

-- a publish of a store under the greatest limit
pub read_of_publish : {X : Type 0} (old new : View) (result : Result X Refusal) → AreBounded old.sealed → old.needed ≤ 42 → old.sealed.tables.pushed.limit ≡ 1048576
    → IsPublish old new result → IsRead old new result
read_of_publish old new (Ok x) bounded few limit published = record {
  journal = published.journal;
  clock = published.clock;
  limit = published.limit;
  publishes = one_publish _ _ (old.needed == 0) published.publishes;
  refused = tt;
}
read_of_publish old new (Err r) bounded few limit published = record {
  journal = published.journal;
  clock = published.clock;
  limit = published.limit;
  publishes = one_publish _ _ (published.err.loses.tables == 0) (ap (λ s. s.counts.publishes) published.err.loses.is);
  refused = publish_refused old new r bounded few limit (λ is. published.full (ap Err is)) published.refused;
}

-- and of one that gives a version
pub read_of_take : {X : Type 0} (old new : View) (result : Result X Refusal) → AreBounded old.sealed → old.needed ≤ 42 → old.sealed.tables.pushed.limit ≡ 1048576
    → IsTaken old new result → IsRead old new result
read_of_take old new result bounded few limit (inl published) = read_of_publish old new result bounded few limit published
read_of_take old new result bounded few limit (inr (is, idle)) = record {
  journal = ap (λ (v : View). v.journal) idle.same;
  clock = ap (λ (v : View). v.clock) idle.same;
  limit = ap (λ (v : View). v.sealed.tables.pushed.limit) idle.same;
  publishes = omega (arith, ap (λ (v : View). v.sealed.counts.publishes) idle.same);
  refused = subst (λ r. IfErr r (IsRefused old.sealed.counts.publishes)) (sym is) tt;
}

-- a publish that was done left nothing waiting
pub none_waits : {X : Type 0} (old new : View) (result : Result X Refusal) → IsPublish old new result → OnOk result (new.waiting ≡ 0)
none_waits old new (Ok x) published = published.all.1
none_waits old new (Err r) published = tt

-- a command that isn't for that has nothing to do
pub nothing_to_do : {Y : Type 0} (command : Command) (forest : View) (before after : Option (List ℕ)) (result : Result Y RunFault) → IsDone command forest → IsDoneOrFull command forest before after result
nothing_to_do command forest before after (Ok y) done = inr done
nothing_to_do command forest before after (Err fault) done = tt

no_due : (due : Option Refusal) (P : Type 0) (Q : Refusal → Type 0) → due ≡ None → MatchOption due P Q → P
no_due None P Q none p = p
no_due (Some s) P Q none q = cc

-- the outcome of a publish or of a compaction was printed
pub done_or_full : {X Y : Type 0} (old new : View) (command : Command) (lines : X → List ℕ) (outcome : Result X Refusal) (before after : Option (List ℕ)) (result : Result Y RunFault)
    → refusal_of old.journal old.clock command ≡ None → Serves old new command outcome → IsPrinted lines outcome before after result → OnOk outcome (IsDone command new)
    → IsDoneOrFull command new before after result
done_or_full old new command lines outcome before after (Err fault) none served printed done = tt
done_or_full old new command lines (Ok x) before after (Ok y) none served printed done = inr done
done_or_full old new command lines (Err refusal.NoMemory) before after (Ok y) none served printed done = absurd (printed.served refl)
done_or_full old new command lines (Err refusal.RegistryFull) before after (Ok y) none served printed done = inl printed.written
done_or_full old new command lines (Err refusal.BatchTooLarge) before after (Ok y) none served printed done = absurd (no_due (refusal_of old.journal old.clock command) _ _ none served.refused)
done_or_full old new command lines (Err refusal.ClockExhausted) before after (Ok y) none served printed done = absurd (no_due (refusal_of old.journal old.clock command) _ _ none served.refused)
done_or_full old new command lines (Err refusal.Stale) before after (Ok y) none served printed done = absurd (no_due (refusal_of old.journal old.clock command) _ _ none served.refused)
done_or_full old new command lines (Err (refusal.BadLine line column)) before after (Ok y) none served printed done = absurd (no_due (refusal_of old.journal old.clock command) _ _ none served.refused)
done_or_full old new command lines (Err (refusal.BadRecord length)) before after (Ok y) none served printed done = absurd (no_due (refusal_of old.journal old.clock command) _ _ none served.refused)
