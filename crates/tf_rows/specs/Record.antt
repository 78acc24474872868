-- What a transfer's record alone puts into rows: its object, and a key in each of its seven indexes. Its id, its status and what it
-- changes of its accounts are no part of that.
use Rattle.std.specs.Prelude.{◌≡◌, ℕ, List, [], ◌∷◌, Bool, true, false, Option, Some, None, IsSome, ⊤}
use Rattle.std.specs.List.{flat_map}
use Rattle.std.specs.Option.{option_map, option_to_list}
use Rattle.tf_records.specs.declared.transfer.Transfer.{Transfer}
use Rattle.tf_sorted.specs.Rows.{with_row, without_row}
use Rattle.tf_table.specs.declared.key.Key.{Key}
use Rattle.tf_table.specs.Content.{entry_at}
use Rattle.tf_table.specs.Key.{key_cmp}
use Rattle.tf_manifest.specs.declared.row.Row.{Row}
use Rattle.tf_manifest.specs.declared.row.Row.TheVariants as row
use Rattle.tf_manifest.specs.declared.value.Value.{Value}
use Rattle.tf_manifest.specs.declared.value.Value.TheVariants as value
use Rattle.tf_manifest.specs.Rows.{key_of}
use Rattle.tf_rows.specs.declared.change.Change.{Change}
use Rattle.tf_rows.specs.Edits.{Edit, put}
use Rattle.tf_rows.specs.Next.{change_of}
use Rattle.tf_rows.specs.Parts.{Entries}

-- the rows that have something of it
abbrev pub record_rows : List Row
record_rows =
    row.TransferObjects
    ∷ row.TransferDebit
    ∷ row.TransferCredit
    ∷ row.TransferUserData128
    ∷ row.TransferUserData64
    ∷ row.TransferUserData32
    ∷ row.TransferLedger
    ∷ row.TransferCode
    ∷ []

-- whether a row is one of them
abbrev pub is_of_record : Row → Bool
is_of_record row.TransferObjects = true
is_of_record row.TransferDebit = true
is_of_record row.TransferCredit = true
is_of_record row.TransferUserData128 = true
is_of_record row.TransferUserData64 = true
is_of_record row.TransferUserData32 = true
is_of_record row.TransferLedger = true
is_of_record row.TransferCode = true
is_of_record _ = false

-- the key of a field, with the record's timestamp
abbrev pub field_edit : ℕ → Transfer → Option Edit
field_edit field t = Some (put (key_of field t.timestamp) value.Unit)

-- what a row has of it
abbrev pub record_edit : Transfer → Row → Option Edit
record_edit t row.TransferObjects = Some (put (key_of 0 t.timestamp) (value.Transfer t))
record_edit t row.TransferDebit = field_edit t.debit_account_id t
record_edit t row.TransferCredit = field_edit t.credit_account_id t
record_edit t row.TransferUserData128 = field_edit t.user_data_128 t
record_edit t row.TransferUserData64 = field_edit t.user_data_64 t
record_edit t row.TransferUserData32 = field_edit t.user_data_32 t
record_edit t row.TransferLedger = field_edit t.ledger t
record_edit t row.TransferCode = field_edit t.code t
record_edit t _ = None

-- as changes of rows, one after another
abbrev pub record_changes : Transfer → List Change
record_changes t = flat_map (λ r. option_to_list (option_map (change_of r) (record_edit t r))) record_rows

-- entries with an edit, if there is one, and without its key
abbrev pub with_edit : Option Edit → List (Key × Option Value) → List (Key × Option Value)
with_edit None rows = rows
with_edit (Some edit) rows = with_row key_cmp edit.0 edit.1 rows

abbrev pub without_edit : Option Edit → List (Key × Option Value) → List (Key × Option Value)
without_edit None rows = rows
without_edit (Some edit) rows = without_row key_cmp edit.0 rows

-- entries have none for its key, and have one
abbrev pub IsFree : Option Edit → List (Key × Option Value) → Type 0
IsFree None rows = ⊤
IsFree (Some edit) rows = entry_at edit.0 rows ≡ None

abbrev pub IsThere : Option Edit → List (Key × Option Value) → Type 0
IsThere None rows = ⊤
IsThere (Some edit) rows = IsSome (entry_at edit.0 rows)

-- a transfer's record was put into rows that had none of its keys
pub record PutsTransfer (t : Transfer) (old new : Entries) : Type 0 where
  pub puts : (r : Row) → new r ≡ with_edit (record_edit t r) (old r)
  pub there : (r : Row) → IsThere (record_edit t r) (new r)
  pub restores : (r : Row) → without_edit (record_edit t r) (new r) ≡ old r
