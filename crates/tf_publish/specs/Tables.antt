-- What a publish leaves of the sealed tables of each row, and what it counts for them.
use Rattle.std.specs.Prelude.{◌≡◌, ◌≢◌, ℕ, ◌+◌, List, [], ◌∷◌, length, map, replicate, slice_index_or, Option}
use Rattle.tf_table.specs.declared.key.Key.{Key}
use Rattle.tf_manifest.specs.declared.row.Row.{Row}
use Rattle.tf_manifest.specs.declared.value.Value.{Value}
use Rattle.tf_manifest.specs.Kinds.{kind_of}
use Rattle.tf_registry.specs.Row.{is_nil}
use Rattle.tf_manifest.specs.RowNames.{rows_in_order}
use Rattle.tf_registry.specs.Run.{IsMergeOf, IsPicked, Replaces, Run}
use Rattle.tf_registry.specs.Table.{Shown, Table, shown}
use Rattle.tf_manifest.specs.View.{View, tables_by, value_by}
use Rattle.tf_rows.specs.Counts.{Counted}
use Rattle.tf_rows.specs.Parts.{Entries, place_of, seen_rows}
use Rattle.tf_publish.specs.Publish.{entries_waiting, tables_needed}

-- a new table of level 0, with these entries, stands in front of the others
pub record AddsInFront {V : Type 0} (seen : V → Value) (entries : List (Key × Option Value)) (old new : List (Shown V)) : Type 0 where
  pub number : ℕ
  pub rows : List (Key × Option V)
  pub has : seen_rows seen rows ≡ entries
  pub is : new ≡ shown number (record { rows = rows; level = 0; oldest = is_nil old }) ∷ old

-- the run that the levels name was merged in place, into a table of so many entries
pub record MergesInPlace {V : Type 0} (old new : List (Shown V)) (entries : ℕ) : Type 0 where
  pub run : Run V
  pub out : Table V
  pub picked : IsPicked old run
  pub merges : IsMergeOf run out
  pub replaces : Replaces old run out new
  pub count : entries ≡ length out.rows

-- there is room for a table: nothing changed where there were fewer than 64, and else their run was merged in place, into a
-- table of so many entries
pub record MakesPlace {V : Type 0} (old new : List (Shown V)) (entries : ℕ) : Type 0 where
  pub free : length old ≢ 64 → (new ≡ old) × (entries ≡ 0)
  pub full : length old ≡ 64 → MergesInPlace old new entries

-- once there was room, a table with the entries of the mutable table was put in front. The tables pushed have so many entries
pub record PutsInFront {V : Type 0} (seen : V → Value) (entries : List (Key × Option Value)) (old new : List (Shown V)) (pushed : ℕ) : Type 0 where
  pub below : List (Shown V)
  pub merged : ℕ
  pub place : MakesPlace old below merged
  pub front : AddsInFront seen entries below new
  pub count : pushed ≡ merged + length entries

-- the tables of a row after a publish, for which tables of so many entries were pushed: the same where its mutable table had no
-- entry, and else these with a new one in front
abbrev pub PublishesTables : {V : Type 0} → (V → Value) → List (Key × Option Value) → List (Shown V) → List (Shown V) → ℕ → Type 0
PublishesTables seen [] old new pushed = (new ≡ old) × (pushed ≡ 0)
PublishesTables seen (entry ∷ entries) old new pushed = PutsInFront seen (entry ∷ entries) old new pushed

-- the tables of all rows but this one are as they were
abbrev pub KeepsOthers : Row → View → View → Type 0
KeepsOthers r old new = (other : Row) → other ≢ r → tables_by new (kind_of other) ≡ tables_by old (kind_of other)

-- one row has room for a table, and the entries of what was pushed for that are held
pub record MakesPlaceIn (r : Row) (old new : Counted) : Type 0 where
  pub entries : ℕ
  pub place : MakesPlace (tables_by old.tables (kind_of r)) (tables_by new.tables (kind_of r)) entries
  pub others : KeepsOthers r old.tables new.tables
  pub held : new.held ≡ old.held + entries

-- one row is published, and the entries of what was pushed for it are held
pub record PublishesIn (fresh : Entries) (r : Row) (old new : Counted) : Type 0 where
  pub entries : ℕ
  pub tables : PublishesTables (value_by (kind_of r)) (fresh r) (tables_by old.tables (kind_of r)) (tables_by new.tables (kind_of r)) entries
  pub others : KeepsOthers r old.tables new.tables
  pub held : new.held ≡ old.held + entries

-- a number for each row, over some rows
abbrev pub sum_of : (Row → ℕ) → List Row → ℕ
sum_of number [] = 0
sum_of number (r ∷ rows) = number r + sum_of number rows

-- all rows are published: each row's tables are those that a publish of its mutable table's entries leaves, the tables that
-- were needed were pushed, the entries of those are held, and those of the mutable tables sealed
pub record Publishes (fresh : Entries) (old new : Counted) : Type 0 where
  pub entries : Row → ℕ
  pub tables : (r : Row) → PublishesTables (value_by (kind_of r)) (fresh r) (tables_by old.tables (kind_of r)) (tables_by new.tables (kind_of r)) (entries r)
  pub pushed : new.tables.pushed.count ≡ old.tables.pushed.count + tables_needed fresh old.tables
  pub limit : new.tables.pushed.limit ≡ old.tables.pushed.limit
  pub held : new.held ≡ old.held + sum_of entries rows_in_order
  pub sealed : new.sealed ≡ old.sealed + entries_waiting fresh

-- the entries of all mutable tables, row by row
abbrev pub listed : Entries → List (List (Key × Option Value))
listed fresh = map fresh rows_in_order

-- the entries of a row among those of all
abbrev pub by_name : List (List (Key × Option Value)) → Entries
by_name lists r = slice_index_or lists (place_of r) []

-- no entry in any row
abbrev pub nothing_fresh : List (List (Key × Option Value))
nothing_fresh = replicate 21 []

-- the entries of all mutable tables in front of these sealed ones, how many tables a publish of them needs, and how many
-- entries it seals
pub record Waits (fresh : List (List (Key × Option Value))) (sealed : View) (tables entries : ℕ) : Type 0 where
  pub rows : listed (by_name fresh) ≡ fresh
  pub needed : tables ≡ tables_needed (by_name fresh) sealed
  pub waiting : entries ≡ entries_waiting (by_name fresh)
