-- Which field of a record each index is made of.
use Rattle.std.specs.Prelude.{ℕ, ◌==◌, Bool, false, Option, Some, None}
use Rattle.std.specs.Option.{option_map_or}
use Rattle.tf_records.specs.declared.account.Account.{Account}
use Rattle.tf_records.specs.declared.transfer.Transfer.{Transfer}
use Rattle.tf_manifest.specs.declared.kind.UnitRow.{UnitRow}
use Rattle.tf_manifest.specs.declared.kind.UnitRow.TheVariants as unit

-- the field of accounts that a row indexes, if it does
abbrev pub account_field : UnitRow → Option (Account → ℕ)
account_field unit.AccountUserData128 = Some (λ a. a.user_data_128)
account_field unit.AccountUserData64 = Some (λ a. a.user_data_64)
account_field unit.AccountUserData32 = Some (λ a. a.user_data_32)
account_field unit.AccountLedger = Some (λ a. a.ledger)
account_field unit.AccountCode = Some (λ a. a.code)
account_field _ = None

-- the field of transfers that a row indexes, if it does
abbrev pub transfer_field : UnitRow → Option (Transfer → ℕ)
transfer_field unit.TransferDebit = Some (λ t. t.debit_account_id)
transfer_field unit.TransferCredit = Some (λ t. t.credit_account_id)
transfer_field unit.TransferUserData128 = Some (λ t. t.user_data_128)
transfer_field unit.TransferUserData64 = Some (λ t. t.user_data_64)
transfer_field unit.TransferUserData32 = Some (λ t. t.user_data_32)
transfer_field unit.TransferLedger = Some (λ t. t.ledger)
transfer_field unit.TransferCode = Some (λ t. t.code)
transfer_field _ = None

-- whether the field that a row indexes has a value in a record
abbrev pub has_value : {X : Type 0} → Option (X → ℕ) → ℕ → X → Bool
has_value {X} field value x = option_map_or (λ (f : X → ℕ). f x == value) field false
