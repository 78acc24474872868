-- What a publish has pushed, be it that it was refused in the middle.
use Rattle.std.specs.Prelude.{◌≡◌, ◌≢◌, ◌⊎◌, ℕ, ◌+◌, ◌-◌, List, [], length, Option}
use Rattle.tf_table.specs.declared.key.Key.{Key}
use Rattle.tf_manifest.specs.declared.row.Row.{Row}
use Rattle.tf_manifest.specs.declared.value.Value.{Value}
use Rattle.tf_manifest.specs.Kinds.{kind_of}
use Rattle.tf_manifest.specs.RowNames.{rows_in_order}
use Rattle.tf_registry.specs.Table.{Shown}
use Rattle.tf_manifest.specs.View.{tables_by, value_by}
use Rattle.tf_rows.specs.Counts.{Counted, Sealed, counted, with_lost}
use Rattle.tf_rows.specs.Parts.{Entries}
use Rattle.tf_publish.specs.Publish.{needed_for}
use Rattle.tf_publish.specs.Tables.{KeepsOthers, MergesInPlace, PublishesTables, sum_of}

-- how far a row was published, for which so many tables were pushed, with so many entries: not at all, until there was room
-- in a full row whose mutable table has an entry, or wholly
abbrev pub PublishesPart : {V : Type 0} → (V → Value) → List (Key × Option Value) → List (Shown V) → List (Shown V) → ℕ → ℕ → Type 0
PublishesPart seen fresh old new tables entries =
    ((new ≡ old) × (tables ≡ 0) × (entries ≡ 0))
    ⊎ (((fresh ≢ []) × (length old ≡ 64) × MergesInPlace old new entries × (tables ≡ 1))
    ⊎ (PublishesTables seen fresh old new entries × (tables ≡ needed_for fresh (length old))))

-- one row was published in part, and what was pushed for it is counted
pub record PublishesPartIn (fresh : Entries) (r : Row) (old new : Counted) : Type 0 where
  pub tables : ℕ
  pub entries : ℕ
  pub part : PublishesPart (value_by (kind_of r)) (fresh r) (tables_by old.tables (kind_of r)) (tables_by new.tables (kind_of r)) tables entries
  pub others : KeepsOthers r old.tables new.tables
  pub pushed : new.tables.pushed.count ≡ old.tables.pushed.count + tables
  pub held : new.held ≡ old.held + entries

-- each row was published in part, and what was pushed for all is counted
pub record PublishesParts (fresh : Entries) (old new : Counted) : Type 0 where
  pub tables : Row → ℕ
  pub entries : Row → ℕ
  pub part : (r : Row) → PublishesPart (value_by (kind_of r)) (fresh r) (tables_by old.tables (kind_of r)) (tables_by new.tables (kind_of r)) (tables r) (entries r)
  pub pushed : new.tables.pushed.count ≡ old.tables.pushed.count + sum_of tables rows_in_order
  pub held : new.held ≡ old.held + sum_of entries rows_in_order

-- on a copy each row was published in part, and the tables that were pushed for that are counted, with their entries, and
-- nothing else happened
pub record CountsParts (fresh : Entries) (old new : Sealed) : Type 0 where
  pub copy : Counted
  pub parts : PublishesParts fresh (counted old) copy
  pub is : new ≡ with_lost (copy.tables.pushed.count - old.tables.pushed.count) (copy.held - old.counts.rows_held) old
