-- What a filter asks of a record apart from its timestamp, read from a manifest's indexes.
use Rattle.std.specs.Prelude.{ℕ, ◌==◌, ◌&&◌, ◌||◌, Bool, is_some, if◌then◌else◌}
use Rattle.tf_records.specs.declared.account_filter.AccountFilter.{AccountFilter}
use Rattle.tf_records.specs.declared.query_filter.QueryFilter.{QueryFilter}
use Rattle.tf_journal.specs.Filter.{asks_credits, asks_debits}
use Rattle.tf_manifest.specs.declared.kind.UnitRow.{UnitRow}
use Rattle.tf_manifest.specs.declared.kind.UnitRow.TheVariants as unit
use Rattle.tf_manifest.specs.View.{View}
use Rattle.tf_look_ups.specs.Reads.{account_in, has_entry, transfer_in}

-- whether an index has what is asked for at a timestamp: 0 asks nothing
abbrev pub meets_at : View → UnitRow → ℕ → ℕ → Bool
meets_at view row asked t = asked == 0 || has_entry view row asked t

-- whether the account is on a side that is asked for
abbrev pub side_at : View → AccountFilter → ℕ → Bool
side_at view filter t =
    (asks_debits filter && has_entry view unit.TransferDebit filter.account_id t)
    || (asks_credits filter && has_entry view unit.TransferCredit filter.account_id t)

-- whether a transfer has what a filter of an account's transfers asks for
abbrev pub account_filter_at : View → AccountFilter → ℕ → Bool
account_filter_at view filter t =
    side_at view filter t
    && meets_at view unit.TransferUserData128 filter.user_data_128 t
    && meets_at view unit.TransferUserData64 filter.user_data_64 t
    && meets_at view unit.TransferUserData32 filter.user_data_32 t
    && meets_at view unit.TransferCode filter.code t

-- whether a filter asks for no field
abbrev pub asks_no_field : QueryFilter → Bool
asks_no_field filter =
    filter.user_data_128 == 0 && filter.user_data_64 == 0 && filter.user_data_32 == 0 && filter.ledger == 0 && filter.code == 0

-- whether a transfer has the fields that a filter asks for; where it asks for none, whether there is a transfer
abbrev pub transfer_fields_at : View → QueryFilter → ℕ → Bool
transfer_fields_at view filter t =
    if asks_no_field filter then is_some (transfer_in view t)
    else meets_at view unit.TransferUserData128 filter.user_data_128 t
    && meets_at view unit.TransferUserData64 filter.user_data_64 t
    && meets_at view unit.TransferUserData32 filter.user_data_32 t
    && meets_at view unit.TransferLedger filter.ledger t
    && meets_at view unit.TransferCode filter.code t

-- the same of accounts
abbrev pub account_fields_at : View → QueryFilter → ℕ → Bool
account_fields_at view filter t =
    if asks_no_field filter then is_some (account_in view t)
    else meets_at view unit.AccountUserData128 filter.user_data_128 t
    && meets_at view unit.AccountUserData64 filter.user_data_64 t
    && meets_at view unit.AccountUserData32 filter.user_data_32 t
    && meets_at view unit.AccountLedger filter.ledger t
    && meets_at view unit.AccountCode filter.code t
