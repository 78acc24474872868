-- What a publish of a store leaves.
use Rattle.std.specs.Prelude.{◌≡◌, ◌≢◌, ◌⊎◌, ◌+◌, ◌<◌, ◌≤◌, ◌==◌, Result, Err, OnOk, OnErr, IfErr, IsOk, if◌then◌else◌}
use Rattle.tf_records.specs.declared.refusal.Refusal.{Refusal}
use Rattle.tf_records.specs.declared.refusal.Refusal.TheVariants.{NoMemory, RegistryFull}
use Rattle.tf_manifest.specs.View.{ShowsJournal}
use Rattle.tf_rows.specs.Counts.{counted}
use Rattle.tf_publish.specs.Tables.{Publishes, by_name, nothing_fresh}
use Rattle.tf_forest.specs.Forest.{View}
use Rattle.tf_forest.specs.Unpublished.{IsUnpublished}

-- a forest was published, or the publish was refused. Journal, clock and the limit of pushes stay. Published, the sealed
-- tables alone show the journal, each row's are those that a publish of what its mutable table had leaves, and nothing waits.
-- A full registry is the refusal exactly where the tables needed don't fit, and changes nothing; else there is only want of
-- memory, which changes the counts of what was pushed alone. Where nothing waits there is no refusal, and all stays as it was
pub record IsPublish {X : Type 0} (old new : View) (result : Result X Refusal) : Type 0 where
  pub journal : new.journal ≡ old.journal
  pub clock : new.clock ≡ old.clock
  pub kept : new.kept ≡ old.kept
  pub limit : new.sealed.tables.pushed.limit ≡ old.sealed.tables.pushed.limit
  pub shows : OnOk result (ShowsJournal new.sealed.tables new.journal)
  pub rows : OnOk result (Publishes (by_name old.fresh) (counted old.sealed) (counted new.sealed))
  pub empty : OnOk result (new.fresh ≡ nothing_fresh)
  pub all : OnOk result ((new.needed ≡ 0) × (new.waiting ≡ 0))
  pub pushed : OnOk result (new.sealed.tables.pushed.count ≡ old.sealed.tables.pushed.count + old.needed)
  pub sealed : OnOk result (new.sealed.counts.rows_sealed ≡ old.sealed.counts.rows_sealed + old.waiting)
  pub publishes : OnOk result (new.sealed.counts.publishes ≡ old.sealed.counts.publishes + (if old.needed == 0 then 0 else 1))
  pub fits : OnOk result (old.sealed.tables.pushed.count + old.needed ≤ old.sealed.tables.pushed.limit)
  pub err : OnErr result (IsUnpublished old new)
  pub idle : old.waiting ≡ 0 → IsOk result
  pub still : old.waiting ≡ 0 → new ≡ old
  pub full : result ≡ Err RegistryFull → (new ≡ old) × (old.sealed.tables.pushed.limit < old.sealed.tables.pushed.count + old.needed)
  pub refused : IfErr result (λ refusal. refusal ≢ RegistryFull → (refusal ≡ NoMemory) × (old.sealed.tables.pushed.count + old.needed ≤ old.sealed.tables.pushed.limit))

-- nothing waited, and nothing happened
pub record IsIdle (old new : View) : Type 0 where
  pub none : old.waiting ≡ 0
  pub same : new ≡ old

-- a forest was published and a version of it was given, or the publish was refused; or nothing waited, and the version was
-- refused, since it has as many owners as can be counted
abbrev pub IsTaken : {X : Type 0} → View → View → Result X Refusal → Type 0
IsTaken old new result = IsPublish old new result ⊎ ((result ≡ Err NoMemory) × IsIdle old new)
