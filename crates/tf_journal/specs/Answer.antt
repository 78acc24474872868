-- Answers of filters and look-ups.
use Rattle.std.specs.Prelude.{ℕ, min, List, [], map, reverse, take, replicate, nat_lt, nat_le, Option, Some, None, false, if◌then◌else◌}
use Rattle.std.specs.List.{filter as keep, filter_map}
use Rattle.std.specs.Option.{option_map_or}
use Rattle.tf_records.specs.declared.account.Account.{Account}
use Rattle.tf_records.specs.declared.account_balance.AccountBalance.{AccountBalance}
use Rattle.tf_records.specs.declared.account_filter.AccountFilter.{AccountFilter}
use Rattle.tf_records.specs.declared.query_filter.QueryFilter.{QueryFilter}
use Rattle.tf_records.specs.declared.refusal.Refusal.{Refusal}
use Rattle.tf_records.specs.declared.refusal.Refusal.TheVariants.{BatchTooLarge}
use Rattle.tf_records.specs.declared.transfer.Transfer.{Transfer}
use Rattle.tf_journal.specs.declared.entry.Entry.{Entry}
use Rattle.tf_journal.specs.Balances.{balances_of}
use Rattle.tf_journal.specs.Filter.{Search, account_search, query_search, searched_account, searched_transfer}
use Rattle.tf_journal.specs.Flags.{keeps_history}
use Rattle.tf_journal.specs.Journal.{accounts_of, transfers_of, timestamp_of}
use Rattle.tf_journal.specs.Lookup.{shown_with_id, shown, account_with_id, transfer_with_id}

-- the greatest number of rows of an answer, and of ids of a look-up
abbrev pub answer_max : ℕ
answer_max = 8190

-- the records that a search accepts, in their order, backwards where it is reversed
abbrev pub accepted_by : {X : Type 0} → Search X → List X → List X
accepted_by search rows =
    if search.is_reversed then reverse (keep search.accepts rows) else keep search.accepts rows

-- the answer of a search: nothing for an invalid filter, else the first of the records that it accepts
abbrev pub answer_of : {X : Type 0} → Search X → List X → List X
answer_of search rows =
    if search.is_valid then take (min search.limit answer_max) (accepted_by search rows) else []

-- the answer of get_account_transfers
abbrev pub account_transfers_of : List Entry → AccountFilter → List Transfer
account_transfers_of journal filter = answer_of (account_search filter) (transfers_of journal)

-- the answer of query_transfers
abbrev pub found_transfers_of : List Entry → QueryFilter → List Transfer
found_transfers_of journal filter = answer_of (query_search searched_transfer filter) (transfers_of journal)

-- the answer of query_accounts: each account with its balances after the journal, and closed where it is
abbrev pub found_accounts_of : List Entry → QueryFilter → List Account
found_accounts_of journal filter =
    map (shown journal) (answer_of (query_search searched_account filter) (accounts_of journal))

-- a journal up to and with this timestamp
abbrev pub cut_after : List Entry → ℕ → List Entry
cut_after journal timestamp = keep (λ e. nat_le (timestamp_of e) timestamp) journal

-- the balances of an account right after a transfer
abbrev pub balance_after : List Entry → ℕ → Transfer → AccountBalance
balance_after journal id transfer =
    let sums = balances_of (cut_after journal transfer.timestamp) id in
    record {
      debits_pending = sums.debits_pending;
      debits_posted = sums.debits_posted;
      credits_pending = sums.credits_pending;
      credits_posted = sums.credits_posted;
      timestamp = transfer.timestamp;
      reserved = replicate 56 0;
    }

-- the answer of get_account_balances: for an account with history, its balances right after each transfer that
-- get_account_transfers gives
abbrev pub history_of : List Entry → AccountFilter → List AccountBalance
history_of journal filter =
    if option_map_or keeps_history (account_with_id journal filter.account_id) false
    then map (balance_after journal filter.account_id) (account_transfers_of journal filter)
    else []

-- the answer of a look-up: for each id in turn, what is found under it
abbrev pub lookup_of : {X : Type 0} → (ℕ → Option X) → List ℕ → List X
lookup_of find ids = filter_map find ids

-- the answer of lookup_accounts
abbrev pub looked_up_accounts : List Entry → List ℕ → List Account
looked_up_accounts journal ids = lookup_of (shown_with_id journal) ids

-- the answer of lookup_transfers
abbrev pub looked_up_transfers : List Entry → List ℕ → List Transfer
looked_up_transfers journal ids = lookup_of (transfer_with_id journal) ids

-- why a look-up of so many ids is refused
abbrev pub lookup_refusal : ℕ → Option Refusal
lookup_refusal count = if nat_lt answer_max count then Some BatchTooLarge else None
