-- What filters ask of indexes, and whether a timestamp meets it.
use Rattle.std.specs.Prelude.{ℕ, ◌==◌, Bool, true, List, [], ◌∷◌, Option, Some, None, is_some, if◌then◌else◌}
use Rattle.std.specs.List.{list_all}
use Rattle.tf_manifest.specs.declared.kind.UnitRow.{UnitRow}
use Rattle.tf_manifest.specs.declared.kind.UnitRow.TheVariants as unit
use Rattle.tf_manifest.specs.Rows.{key_of}
use Rattle.tf_manifest.specs.View.{View}
use Rattle.tf_records.specs.declared.account_filter.AccountFilter.{AccountFilter}
use Rattle.tf_records.specs.declared.query_filter.QueryFilter.{QueryFilter}
use Rattle.tf_registry.specs.Row.{content_at}
use Rattle.tf_registry.specs.Table.{Shown}
use Rattle.tf_scan.specs.Sequence.{Sequence}
use Rattle.tf_scan.specs.Sets.{is_among}
use Rattle.tf_query.specs.declared.condition.Condition.{Condition}
use Rattle.tf_query.specs.Asked.{meets_at}

abbrev pub condition : UnitRow → ℕ → Condition
condition row value = record { row = row; value = value }

-- whether a condition asks for nothing
abbrev pub asks_nothing : Condition → Bool
asks_nothing condition = condition.value == 0

-- whether a timestamp meets each condition
abbrev pub meets_all : View → List Condition → ℕ → Bool
meets_all view conditions t = list_all (λ c. meets_at view c.row c.value t) conditions

-- whether the record with a timestamp meets conditions; where they ask for nothing, whether the row of its kind has it
abbrev pub fields_at : {V : Type 0} → View → List (Shown V) → List Condition → ℕ → Bool
fields_at view objects conditions t = if list_all asks_nothing conditions then is_some (content_at (key_of 0 t) objects) else meets_all view conditions t

-- whether a timestamp is left in a scan. Where there is no scan, all are
abbrev pub is_left : ℕ → Option Sequence → Bool
is_left t None = true
is_left t (Some scan) = is_among t scan.left

-- what a filter asks of the fields of accounts
abbrev pub account_conditions : QueryFilter → List Condition
account_conditions filter =
    condition unit.AccountUserData128 filter.user_data_128
    ∷ condition unit.AccountUserData64 filter.user_data_64
    ∷ condition unit.AccountUserData32 filter.user_data_32
    ∷ condition unit.AccountLedger filter.ledger
    ∷ condition unit.AccountCode filter.code
    ∷ []

-- of transfers
abbrev pub transfer_conditions : QueryFilter → List Condition
transfer_conditions filter =
    condition unit.TransferUserData128 filter.user_data_128
    ∷ condition unit.TransferUserData64 filter.user_data_64
    ∷ condition unit.TransferUserData32 filter.user_data_32
    ∷ condition unit.TransferLedger filter.ledger
    ∷ condition unit.TransferCode filter.code
    ∷ []

-- what a filter of an account's transfers asks of their fields
abbrev pub field_conditions : AccountFilter → List Condition
field_conditions filter =
    condition unit.TransferUserData128 filter.user_data_128
    ∷ condition unit.TransferUserData64 filter.user_data_64
    ∷ condition unit.TransferUserData32 filter.user_data_32
    ∷ condition unit.TransferCode filter.code
    ∷ []
