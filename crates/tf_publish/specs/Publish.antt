-- What a publish pushes, and what it leaves.
use Rattle.std.specs.Prelude.{◌≡◌, ◌≢◌, ℕ, ◌+◌, ◌≤◌, ◌==◌, List, [], ◌∷◌, length, Option, if◌then◌else◌}
use Rattle.tf_table.specs.declared.key.Key.{Key}
use Rattle.tf_manifest.specs.declared.row.Row.{Row}
use Rattle.tf_manifest.specs.declared.value.Value.{Value}
use Rattle.tf_manifest.specs.RowNames.{rows_in_order}
use Rattle.tf_manifest.specs.View.{View, content_in, references_in}
use Rattle.tf_rows.specs.Counts.{all_references}
use Rattle.tf_rows.specs.Parts.{Entries, parts_of, value_of_part}

-- how many tables a row with these entries in its mutable table pushes, where it has so many sealed ones: none where there
-- is no entry, two where the row is full
abbrev pub needed_for : List (Key × Option Value) → ℕ → ℕ
needed_for [] references = 0
needed_for (entry ∷ entries) references = if references == 64 then 2 else 1

-- how many some rows push
abbrev pub needed_by : Entries → View → List Row → ℕ
needed_by fresh view [] = 0
needed_by fresh view (r ∷ rows) = needed_for (fresh r) (references_in view r) + needed_by fresh view rows

-- how many all rows push
abbrev pub tables_needed : Entries → View → ℕ
tables_needed fresh view = needed_by fresh view rows_in_order

-- how many entries the mutable tables of some rows have
abbrev pub waiting_in : Entries → List Row → ℕ
waiting_in fresh [] = 0
waiting_in fresh (r ∷ rows) = length (fresh r) + waiting_in fresh rows

-- how many entries all mutable tables have
abbrev pub entries_waiting : Entries → ℕ
entries_waiting fresh = waiting_in fresh rows_in_order

-- other rows have the content and as many tables as before
pub record LeavesOthers (r : Row) (old new : View) : Type 0 where
  pub content : (other : Row) (key : Key) → other ≢ r → content_in new other key ≡ content_in old other key
  pub references : (other : Row) → other ≢ r → references_in new other ≡ references_in old other

-- the sealed tables of one row have what its mutable table had in front of them, and the tables that it needs were pushed
pub record PublishesRow (fresh : Entries) (r : Row) (old new : View) : Type 0 where
  pub here : (key : Key) → content_in new r key ≡ value_of_part (parts_of fresh old r) key
  pub others : LeavesOthers r old new
  pub count : new.pushed.count ≡ old.pushed.count + needed_for (fresh r) (references_in old r)
  pub few : new.pushed.count + all_references new ≤ old.pushed.count + all_references old + 2
  pub added : all_references new + old.pushed.count ≤ all_references old + new.pushed.count
  pub limit : new.pushed.limit ≡ old.pushed.limit

-- a row has room for a table, and what rows have is as it was. A full row took a push for that
pub record MakesRoom (r : Row) (old new : View) : Type 0 where
  pub content : (other : Row) (key : Key) → content_in new other key ≡ content_in old other key
  pub references : (other : Row) → other ≢ r → references_in new other ≡ references_in old other
  pub count : new.pushed.count ≡ old.pushed.count + (if references_in old r == 64 then 1 else 0)
  pub few : new.pushed.count + all_references new ≤ old.pushed.count + all_references old
  pub added : all_references new + old.pushed.count ≤ all_references old + new.pushed.count
  pub limit : new.pushed.limit ≡ old.pushed.limit
