-- What the indexes of a manifest that shows a journal have.
use Rattle.std.proofs.Common.{◌≡◌, ℕ, true, false, sym, ◌∙◌, ap}
use Rattle.std.specs.Prelude.{◌==◌, List, is_some}
use Rattle.std.specs.Option.{option_map}
use Rattle.tf_sorted.specs.Rows.{value_at}
use Rattle.tf_records.specs.declared.account.Account.{Account}
use Rattle.tf_records.specs.declared.transfer.Transfer.{Transfer}
use Rattle.tf_journal.specs.declared.entry.Entry.{Entry}
use Rattle.tf_journal.specs.Journal.{accounts_of, transfers_of}
use Rattle.tf_table.specs.declared.key.Key.{Key}
use Rattle.tf_table.specs.Key.{key_cmp}
use Rattle.tf_manifest.specs.declared.kind.Kind.TheVariants as kind
use Rattle.tf_manifest.specs.declared.kind.UnitRow.{UnitRow}
use Rattle.tf_manifest.specs.declared.kind.UnitRow.TheVariants as unit
use Rattle.tf_manifest.specs.declared.row.Row.TheVariants as row
use Rattle.tf_manifest.specs.declared.value.Value.TheVariants as value
use Rattle.tf_registry.specs.Row.{content_at}
use Rattle.tf_manifest.specs.Rows.{account_index, key_of, transfer_index}
use Rattle.tf_manifest.specs.View.{ShowsJournal, View, tables_by, value_by}
use Rattle.tf_query.specs.Fields.{account_field, has_value, transfer_field}
use Rattle.tf_query.specs.Matches.{AreDated, account_timestamp, holds_at, transfer_timestamp}
use Rattle.tf_look_ups.specs.Reads.{has_entry}
use Rattle.tf_query.proofs.Dated.{any_held}
use Rattle.tf_query.proofs.Keyed.{has_keyed, some_mapped}

none : {P : Type 0} → false ≡ true → P
none e = absurd (cc)

module _ (view : View) (journal : List Entry) where
  -- an index whose pairs are those of a field
  account_row : AreDated account_timestamp (accounts_of journal) → (indexed : UnitRow) (field : Account → ℕ)
      → ((key : Key) → option_map (value_by (kind.Unit indexed)) (content_at key (tables_by view (kind.Unit indexed))) ≡ value_at key_cmp key (account_index journal field))
      → (n t : ℕ) → has_entry view indexed n t ≡ holds_at account_timestamp (λ a. field a == n) (accounts_of journal) t
  account_row dated indexed field same n t =
      sym (some_mapped (value_by (kind.Unit indexed)) (content_at (key_of n t) (tables_by view (kind.Unit indexed))))
      ∙ ap is_some (same (key_of n t))
      ∙ has_keyed account_timestamp (λ a. value.Unit) field n t (accounts_of journal)
      ∙ any_held account_timestamp (accounts_of journal) dated t (λ a. field a == n)

  transfer_row : AreDated transfer_timestamp (transfers_of journal) → (indexed : UnitRow) (field : Transfer → ℕ)
      → ((key : Key) → option_map (value_by (kind.Unit indexed)) (content_at key (tables_by view (kind.Unit indexed))) ≡ value_at key_cmp key (transfer_index journal field))
      → (n t : ℕ) → has_entry view indexed n t ≡ holds_at transfer_timestamp (λ x. field x == n) (transfers_of journal) t
  transfer_row dated indexed field same n t =
      sym (some_mapped (value_by (kind.Unit indexed)) (content_at (key_of n t) (tables_by view (kind.Unit indexed))))
      ∙ ap is_some (same (key_of n t))
      ∙ has_keyed transfer_timestamp (λ x. value.Unit) field n t (transfers_of journal)
      ∙ any_held transfer_timestamp (transfers_of journal) dated t (λ x. field x == n)

  module _ (shows : ShowsJournal view journal) where
    pub accounts_indexed : AreDated account_timestamp (accounts_of journal) → (indexed : UnitRow) → is_some (account_field indexed) ≡ true
        → (n t : ℕ) → has_entry view indexed n t ≡ holds_at account_timestamp (has_value (account_field indexed) n) (accounts_of journal) t
    accounts_indexed dated unit.AccountUserData128 is = account_row dated unit.AccountUserData128 (λ a. a.user_data_128) (shows row.AccountUserData128)
    accounts_indexed dated unit.AccountUserData64 is = account_row dated unit.AccountUserData64 (λ a. a.user_data_64) (shows row.AccountUserData64)
    accounts_indexed dated unit.AccountUserData32 is = account_row dated unit.AccountUserData32 (λ a. a.user_data_32) (shows row.AccountUserData32)
    accounts_indexed dated unit.AccountLedger is = account_row dated unit.AccountLedger (λ a. a.ledger) (shows row.AccountLedger)
    accounts_indexed dated unit.AccountCode is = account_row dated unit.AccountCode (λ a. a.code) (shows row.AccountCode)
    accounts_indexed dated unit.TransferDebit is = none is
    accounts_indexed dated unit.TransferCredit is = none is
    accounts_indexed dated unit.TransferUserData128 is = none is
    accounts_indexed dated unit.TransferUserData64 is = none is
    accounts_indexed dated unit.TransferUserData32 is = none is
    accounts_indexed dated unit.TransferLedger is = none is
    accounts_indexed dated unit.TransferCode is = none is
    accounts_indexed dated unit.Expiry is = none is

    pub transfers_indexed : AreDated transfer_timestamp (transfers_of journal) → (indexed : UnitRow) → is_some (transfer_field indexed) ≡ true
        → (n t : ℕ) → has_entry view indexed n t ≡ holds_at transfer_timestamp (has_value (transfer_field indexed) n) (transfers_of journal) t
    transfers_indexed dated unit.TransferDebit is = transfer_row dated unit.TransferDebit (λ x. x.debit_account_id) (shows row.TransferDebit)
    transfers_indexed dated unit.TransferCredit is = transfer_row dated unit.TransferCredit (λ x. x.credit_account_id) (shows row.TransferCredit)
    transfers_indexed dated unit.TransferUserData128 is = transfer_row dated unit.TransferUserData128 (λ x. x.user_data_128) (shows row.TransferUserData128)
    transfers_indexed dated unit.TransferUserData64 is = transfer_row dated unit.TransferUserData64 (λ x. x.user_data_64) (shows row.TransferUserData64)
    transfers_indexed dated unit.TransferUserData32 is = transfer_row dated unit.TransferUserData32 (λ x. x.user_data_32) (shows row.TransferUserData32)
    transfers_indexed dated unit.TransferLedger is = transfer_row dated unit.TransferLedger (λ x. x.ledger) (shows row.TransferLedger)
    transfers_indexed dated unit.TransferCode is = transfer_row dated unit.TransferCode (λ x. x.code) (shows row.TransferCode)
    transfers_indexed dated unit.AccountUserData128 is = none is
    transfers_indexed dated unit.AccountUserData64 is = none is
    transfers_indexed dated unit.AccountUserData32 is = none is
    transfers_indexed dated unit.AccountLedger is = none is
    transfers_indexed dated unit.AccountCode is = none is
    transfers_indexed dated unit.Expiry is = none is
