-- A row's mutable table, sealed, and what it leaves where it stands in front of its row's sealed tables.
use Rattle.std.specs.Prelude.{◌≡◌, ℕ, ◌<◌, length, List, [], ◌∷◌, Option, slice_index_or, slice_set}
use Rattle.tf_table.specs.declared.key.Key.{Key}
use Rattle.tf_manifest.specs.declared.kind.Kind.{Kind}
use Rattle.tf_manifest.specs.declared.kind.Kind.TheVariants as kind
use Rattle.tf_manifest.specs.declared.row.Row.{Row}
use Rattle.tf_manifest.specs.Kinds.{kind_of}
use Rattle.tf_registry.specs.Limit.{one_more}
use Rattle.tf_registry.specs.Row.{is_nil}
use Rattle.tf_registry.specs.Table.{Shown, shown}
use Rattle.tf_manifest.specs.View.{StoredBy, View, place_by, rows_by, value_by, with_rows}
use Rattle.tf_rows.specs.declared.sealed_row.SealedRow.{SealedRow}
use Rattle.tf_rows.specs.declared.sealed_row.SealedRow.TheVariants as sealed
use Rattle.tf_rows.specs.Parts.{Entries, seen_rows}

-- one of several rows has a new table in front of its others, of level 0 and with these entries
pub record AddsAt {V : Type 0} (old : List (List (Shown V))) (at : ℕ) (entries : List (Key × Option V)) (new : List (List (Shown V))) : Type 0 where
  pub number : ℕ
  pub within : at < length old
  pub is : new ≡ slice_set old at (shown number (record { rows = entries; level = 0; oldest = is_nil (slice_index_or old at []) }) ∷ slice_index_or old at [])

module _ {A : Type 0} where
  -- its row
  abbrev pub kind_of_sealed : SealedRow A → Kind
  kind_of_sealed (sealed.Stamp row table) = kind.Stamp row
  kind_of_sealed (sealed.Account table) = kind.Account
  kind_of_sealed (sealed.Transfer table) = kind.Transfer
  kind_of_sealed (sealed.Id table) = kind.Id
  kind_of_sealed (sealed.Unit row table) = kind.Unit row
  kind_of_sealed (sealed.State table) = kind.State
  kind_of_sealed (sealed.Sums table) = kind.Sums
  kind_of_sealed (sealed.Status table) = kind.Status

  -- its entries
  abbrev pub entries_of_sealed : (s : SealedRow A) → List (Key × Option (StoredBy (kind_of_sealed s)))
  entries_of_sealed (sealed.Stamp row table) = table
  entries_of_sealed (sealed.Account table) = table
  entries_of_sealed (sealed.Transfer table) = table
  entries_of_sealed (sealed.Id table) = table
  entries_of_sealed (sealed.Unit row table) = table
  entries_of_sealed (sealed.State table) = table
  entries_of_sealed (sealed.Sums table) = table
  entries_of_sealed (sealed.Status table) = table

  -- it has the entries of a row's mutable table
  pub record IsSealedOf (fresh : Entries) (r : Row) (s : SealedRow A) : Type 0 where
    pub of : kind_of_sealed s ≡ kind_of r
    pub entries : seen_rows (value_by (kind_of_sealed s)) (entries_of_sealed s) ≡ fresh r

  -- it stands in front of the tables of its row, all others are as they were, and one push more is counted
  pub record PushesIn (old : View) (s : SealedRow A) (new : View) : Type 0 where
    pub rows : List (List (Shown (StoredBy (kind_of_sealed s))))
    pub adds : AddsAt (rows_by old (kind_of_sealed s)) (place_by (kind_of_sealed s)) (entries_of_sealed s) rows
    pub is : new ≡ with_rows (record old { pushed = one_more old.pushed }) (kind_of_sealed s) rows
