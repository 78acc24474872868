-- Where balances of an account in the past are asked for, and where the row of sums has them.
use Rattle.std.specs.Prelude.{ℕ, ◌==◌, ◌&&◌, ◌||◌, Bool, is_some, if◌then◌else◌}
use Rattle.tf_records.specs.declared.account_filter.AccountFilter.{AccountFilter}
use Rattle.tf_records.specs.declared.transfer.Transfer.{Transfer}
use Rattle.tf_journal.specs.Filter.{asks_credits, asks_debits}
use Rattle.tf_manifest.specs.declared.kind.Kind.TheVariants as kind
use Rattle.tf_registry.specs.Row.{content_at}
use Rattle.tf_manifest.specs.Rows.{key_of}
use Rattle.tf_manifest.specs.View.{View, tables_by}
use Rattle.tf_query.specs.Asked.{account_filter_at}

-- whether a filter asks for both sides of its account, and for no field: for all transfers of the account
abbrev pub asks_whole_account : AccountFilter → Bool
asks_whole_account filter =
    asks_debits filter
    && asks_credits filter
    && filter.user_data_128 == 0
    && filter.user_data_64 == 0
    && filter.user_data_32 == 0
    && filter.code == 0

-- whether an account is on a side of a transfer
abbrev pub is_on_side : ℕ → Transfer → Bool
is_on_side id transfer = transfer.debit_account_id == id || transfer.credit_account_id == id

-- whether the row of sums has something of an account at a timestamp
abbrev pub has_sums : View → ℕ → ℕ → Bool
has_sums view id timestamp = is_some (content_at (key_of id timestamp) (tables_by view kind.Sums))

-- whether a filter asks for the balances of its account at a timestamp: read from the row of sums where it asks for all
-- transfers of the account
abbrev pub history_at : View → AccountFilter → ℕ → Bool
history_at view filter t = if asks_whole_account filter then has_sums view filter.account_id t else account_filter_at view filter t
