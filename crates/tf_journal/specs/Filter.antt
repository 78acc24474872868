-- Filters: what a query asks of records.
use Rattle.std.specs.Prelude.{ℕ, ◌-◌, ◌^◌, ◌==◌, nat_lt, nat_le, not, ◌&&◌, ◌||◌, Bool, List}
use Rattle.std.specs.List.{list_all}
use Rattle.tf_records.specs.declared.account.Account.{Account}
use Rattle.tf_records.specs.declared.account_filter.AccountFilter.{AccountFilter}
use Rattle.tf_records.specs.declared.query_filter.QueryFilter.{QueryFilter}
use Rattle.tf_records.specs.declared.transfer.Transfer.{Transfer}
use Rattle.tf_journal.specs.Flags.{has_flag}
use Rattle.tf_journal.specs.Verdict.{greatest_id}

-- the timestamp bound that no filter may have
abbrev pub bound_max : ℕ
bound_max = 2 ^ 64 - 1

abbrev pub asks_debits : AccountFilter → Bool
asks_debits filter = has_flag filter.flags 1

abbrev pub asks_credits : AccountFilter → Bool
asks_credits filter = has_flag filter.flags 2

-- neither bound is the greatest number, and an upper bound isn't below the lower one. 0 is no bound
abbrev pub are_valid_bounds : ℕ → ℕ → Bool
are_valid_bounds low high = not (low == bound_max) && not (high == bound_max) && (high == 0 || nat_le low high)

abbrev pub are_zero : List ℕ → Bool
are_zero bytes = list_all (λ byte. byte == 0) bytes

-- whether a filter of an account's transfers is valid: it names an account, its bounds are valid, its limit
-- isn't 0, it asks for a side, and nothing reserved is set
abbrev pub is_valid_account_filter : AccountFilter → Bool
is_valid_account_filter filter =
    not (filter.account_id == 0) && not (filter.account_id == greatest_id)
    && are_valid_bounds filter.timestamp_min filter.timestamp_max
    && not (filter.limit == 0)
    && (asks_debits filter || asks_credits filter)
    && are_zero filter.reserved
    && nat_lt filter.flags 8

-- whether a filter of all accounts or transfers is valid: the same, without account and sides
abbrev pub is_valid_query_filter : QueryFilter → Bool
is_valid_query_filter filter =
    are_valid_bounds filter.timestamp_min filter.timestamp_max
    && not (filter.limit == 0)
    && are_zero filter.reserved
    && nat_lt filter.flags 2

-- whether a field meets what a filter asks of it: 0 asks nothing
abbrev pub meets : ℕ → ℕ → Bool
meets asked field = asked == 0 || field == asked

-- whether a timestamp is within a filter's bounds, both inclusive: 0 is no bound
abbrev pub is_within : ℕ → ℕ → ℕ → Bool
is_within low high timestamp = nat_le low timestamp && (high == 0 || nat_le timestamp high)

-- whether a transfer has the filter's account on a side that is asked for
abbrev pub is_on_asked_side : AccountFilter → Transfer → Bool
is_on_asked_side filter transfer =
    (asks_debits filter && transfer.debit_account_id == filter.account_id)
    || (asks_credits filter && transfer.credit_account_id == filter.account_id)

-- whether a transfer matches a valid filter of an account's transfers
abbrev pub matches_account_filter : AccountFilter → Transfer → Bool
matches_account_filter filter transfer =
    meets filter.user_data_128 transfer.user_data_128
    && meets filter.user_data_64 transfer.user_data_64
    && meets filter.user_data_32 transfer.user_data_32
    && meets filter.code transfer.code
    && is_within filter.timestamp_min filter.timestamp_max transfer.timestamp
    && is_on_asked_side filter transfer

-- the fields of a record by which it is searched
pub record Searched : Type 0 where
  pub user_data_128 : ℕ
  pub user_data_64 : ℕ
  pub user_data_32 : ℕ
  pub ledger : ℕ
  pub code : ℕ
  pub timestamp : ℕ

abbrev pub searched_account : Account → Searched
searched_account account = record {
  user_data_128 = account.user_data_128;
  user_data_64 = account.user_data_64;
  user_data_32 = account.user_data_32;
  ledger = account.ledger;
  code = account.code;
  timestamp = account.timestamp;
}

abbrev pub searched_transfer : Transfer → Searched
searched_transfer transfer = record {
  user_data_128 = transfer.user_data_128;
  user_data_64 = transfer.user_data_64;
  user_data_32 = transfer.user_data_32;
  ledger = transfer.ledger;
  code = transfer.code;
  timestamp = transfer.timestamp;
}

-- whether a record matches a valid filter of all accounts or transfers
abbrev pub matches_query_filter : QueryFilter → Searched → Bool
matches_query_filter filter fields =
    meets filter.user_data_128 fields.user_data_128
    && meets filter.user_data_64 fields.user_data_64
    && meets filter.user_data_32 fields.user_data_32
    && meets filter.ledger fields.ledger
    && meets filter.code fields.code
    && is_within filter.timestamp_min filter.timestamp_max fields.timestamp

-- what a filter asks of records of a kind: none where it isn't valid, else those that it accepts, the newest first
-- where it is reversed, and no more than its limit
pub record Search (X : Type 0) : Type 0 where
  pub is_valid : Bool
  pub accepts : X → Bool
  pub is_reversed : Bool
  pub limit : ℕ

-- the search of an account's transfers
abbrev pub account_search : AccountFilter → Search Transfer
account_search filter = record {
  is_valid = is_valid_account_filter filter;
  accepts = matches_account_filter filter;
  is_reversed = has_flag filter.flags 4;
  limit = filter.limit;
}

-- the search of all records of a kind, which has these fields
abbrev pub query_search : {X : Type 0} → (X → Searched) → QueryFilter → Search X
query_search fields filter = record {
  is_valid = is_valid_query_filter filter;
  accepts = λ x. matches_query_filter filter (fields x);
  is_reversed = has_flag filter.flags 1;
  limit = filter.limit;
}
