-- The answers of filters, by what the tables of a manifest that shows a journal have.
use Rattle.std.proofs.Common.{◌≡◌, ℕ, min, Bool, true, false, ◌&&◌, ◌||◌, cond, List, [], map, take, Some, refl, sym, ◌∙◌, ap}
use Rattle.std.specs.Prelude.{◌==◌, is_some}
use Rattle.std.specs.List.{filter as keep, filter_map}
use Rattle.std.specs.Option.{option_and_then, option_map, option_map_or}
use Rattle.std.proofs.lemmas.Bool.{and_parts}
use Rattle.std.proofs.lemmas.List.{map-id}
use Rattle.tf_records.specs.declared.account_filter.AccountFilter.{AccountFilter}
use Rattle.tf_records.specs.declared.query_filter.QueryFilter.{QueryFilter}
use Rattle.tf_records.specs.declared.transfer.Transfer.{Transfer}
use Rattle.tf_journal.specs.declared.entry.Entry.{Entry}
use Rattle.tf_journal.specs.Answer.{account_transfers_of, answer_max, balance_after, found_accounts_of, found_transfers_of, history_of}
use Rattle.tf_journal.specs.Filter.{account_search, asks_credits, asks_debits, is_on_asked_side, is_valid_account_filter, is_valid_query_filter, is_within, matches_account_filter, matches_query_filter, meets, query_search, searched_account, searched_transfer}
use Rattle.tf_journal.specs.Journal.{accounts_of, transfers_of}
use Rattle.tf_journal.specs.Lookup.{shown}
use Rattle.tf_manifest.specs.declared.kind.UnitRow.{UnitRow}
use Rattle.tf_manifest.specs.Rows.{has_history}
use Rattle.tf_manifest.specs.View.{View}
use Rattle.tf_manifest.proofs.Members.{Has}
use Rattle.tf_scan.specs.declared.direction.Direction.{Direction}
use Rattle.tf_scan.specs.Order.{IsInOrder}
use Rattle.tf_scan.specs.Sets.{is_among}
use Rattle.tf_query.specs.Asked.{account_fields_at, account_filter_at, transfer_fields_at}
use Rattle.tf_query.specs.Fields.{account_field, has_value, transfer_field}
use Rattle.tf_query.specs.History.{is_on_side}
use Rattle.tf_query.specs.Matches.{AreDated, account_timestamp, accepted_in, direction_of, holds_at, record_at, transfer_timestamp}
use Rattle.tf_look_ups.specs.Reads.{account_in, balance_in, has_entry, shown_in, transfer_in}
use Rattle.tf_query.specs.declared.residual.Residual.{Residual}
use Rattle.tf_query.specs.declared.residual.Tested.{Tested}
use Rattle.tf_query.specs.Residual.{account_lead, account_residual, first_passing, passed, passes, passing_in, query_lead, query_residual}
use Rattle.tf_query.specs.Windows.{account_window, query_window}
use Rattle.tf_query.proofs.Answered.{answer_is, answered, passing_answered, record_found}
use Rattle.tf_query.proofs.Asking.{account_fields_held, account_filter_held, asked_within, fields_within, has_asked, has_fields, transfer_fields_held}
use Rattle.tf_query.proofs.InParts.{asked_in_parts, fields_in_parts}

-- an account on a side that is asked for is on a side
on_side : (a b p q : Bool) → ((a && p) || (b && q)) ≡ true → (p || q) ≡ true
on_side a b true q e = refl
on_side a b false true e = refl
on_side true true false false e = e
on_side true false false false e = e
on_side false true false false e = e
on_side false false false false e = e

first_holds : (a b c e f : Bool) → (a && b && c && e && f) ≡ true → a ≡ true
first_holds true b c e f h = refl
first_holds false b c e f h = h

module _ (view : View) (journal : List Entry) (dated : AreDated transfer_timestamp (transfers_of journal))
    (indexed : (row : UnitRow) → is_some (transfer_field row) ≡ true → (value t : ℕ) → has_entry view row value t ≡ holds_at transfer_timestamp (has_value (transfer_field row) value) (transfers_of journal) t)
    (given : (t : ℕ) → transfer_in view t ≡ record_at transfer_timestamp (transfers_of journal) t) where
  transfer_read : (x : Transfer) → Has (transfers_of journal) x → transfer_in view x.timestamp ≡ Some x
  transfer_read x h = given x.timestamp ∙ record_found transfer_timestamp (transfers_of journal) dated x h

  pub account_transfers_answered : (filter : AccountFilter) → is_valid_account_filter filter ≡ true → (d : Direction) → d ≡ direction_of (account_search filter).is_reversed
      → (left : List ℕ) → IsInOrder d left → ((t : ℕ) → is_among t left ≡ account_filter_at view filter t)
      → filter_map (transfer_in view) (take (min filter.limit answer_max) (keep (is_within filter.timestamp_min filter.timestamp_max) left)) ≡ account_transfers_of journal filter
  account_transfers_answered filter valid d is left ordered members =
      answered transfer_timestamp (transfers_of journal) dated d (has_asked filter) (matches_account_filter filter) (is_within filter.timestamp_min filter.timestamp_max) (asked_within filter)
      (transfer_in view) (λ x. x) (λ x h accepted. transfer_read x h) left ordered
      (λ t. members t ∙ account_filter_held view (transfers_of journal) indexed filter t) (min filter.limit answer_max)
      ∙ map-id (take (min filter.limit answer_max) (accepted_in d (matches_account_filter filter) (transfers_of journal)))
      ∙ answer_is (account_search filter) (transfers_of journal) valid d is

  pub transfers_answered : (filter : QueryFilter) → is_valid_query_filter filter ≡ true → (d : Direction) → d ≡ direction_of (query_search searched_transfer filter).is_reversed
      → (left : List ℕ) → IsInOrder d left → ((t : ℕ) → is_among t left ≡ transfer_fields_at view filter t)
      → filter_map (transfer_in view) (take (min filter.limit answer_max) (keep (is_within filter.timestamp_min filter.timestamp_max) left)) ≡ found_transfers_of journal filter
  transfers_answered filter valid d is left ordered members =
      answered transfer_timestamp (transfers_of journal) dated d (λ x. has_fields filter (searched_transfer x)) (λ x. matches_query_filter filter (searched_transfer x))
      (is_within filter.timestamp_min filter.timestamp_max) (λ x. fields_within filter (searched_transfer x))
      (transfer_in view) (λ x. x) (λ x h accepted. transfer_read x h) left ordered
      (λ t. members t ∙ transfer_fields_held view (transfers_of journal) indexed given filter t) (min filter.limit answer_max)
      ∙ map-id (take (min filter.limit answer_max) (accepted_in d (λ x. matches_query_filter filter (searched_transfer x)) (transfers_of journal)))
      ∙ answer_is (query_search searched_transfer filter) (transfers_of journal) valid d is

  -- a transfer that passes is read, and no other
  passing_read : (residual : Residual) (x : Transfer) → Has (transfers_of journal) x → passing_in view residual x.timestamp ≡ passed residual x
  passing_read residual x h = ap (option_and_then (passed residual)) (transfer_read x h)

  pub account_transfers_tested : (tested : Tested) (filter : AccountFilter) → is_valid_account_filter filter ≡ true
      → (left : List ℕ) → IsInOrder (account_window filter).direction left → ((t : ℕ) → is_among t left ≡ account_filter_at view (account_lead tested filter) t)
      → first_passing view (account_residual tested filter) (account_window filter) left ≡ account_transfers_of journal filter
  account_transfers_tested tested filter valid left ordered members =
      ap (take (min filter.limit answer_max))
      (passing_answered transfer_timestamp (transfers_of journal) dated (account_window filter).direction (has_asked (account_lead tested filter)) (passes (account_residual tested filter))
      (matches_account_filter filter) (is_within filter.timestamp_min filter.timestamp_max) (asked_in_parts tested filter)
      (passing_in view (account_residual tested filter)) (passing_read (account_residual tested filter)) left ordered
      (λ t. members t ∙ account_filter_held view (transfers_of journal) indexed (account_lead tested filter) t))
      ∙ answer_is (account_search filter) (transfers_of journal) valid (account_window filter).direction refl

  pub transfers_tested : (tested : Tested) (filter : QueryFilter) → is_valid_query_filter filter ≡ true
      → (left : List ℕ) → IsInOrder (query_window filter).direction left → ((t : ℕ) → is_among t left ≡ transfer_fields_at view (query_lead tested filter) t)
      → first_passing view (query_residual tested filter) (query_window filter) left ≡ found_transfers_of journal filter
  transfers_tested tested filter valid left ordered members =
      ap (take (min filter.limit answer_max))
      (passing_answered transfer_timestamp (transfers_of journal) dated (query_window filter).direction (λ x. has_fields (query_lead tested filter) (searched_transfer x)) (passes (query_residual tested filter))
      (λ x. matches_query_filter filter (searched_transfer x)) (is_within filter.timestamp_min filter.timestamp_max) (fields_in_parts tested filter)
      (passing_in view (query_residual tested filter)) (passing_read (query_residual tested filter)) left ordered
      (λ t. members t ∙ transfer_fields_held view (transfers_of journal) indexed given (query_lead tested filter) t))
      ∙ answer_is (query_search searched_transfer filter) (transfers_of journal) valid (query_window filter).direction refl

  pub history_answered : (filter : AccountFilter) → is_valid_account_filter filter ≡ true → has_history journal filter.account_id ≡ true
      → ((t : ℕ) → holds_at transfer_timestamp (is_on_side filter.account_id) (transfers_of journal) t ≡ true
      → balance_in view filter.account_id t ≡ option_map (balance_after journal filter.account_id) (record_at transfer_timestamp (transfers_of journal) t))
      → (d : Direction) → d ≡ direction_of (account_search filter).is_reversed
      → (left : List ℕ) → IsInOrder d left → ((t : ℕ) → is_among t left ≡ account_filter_at view filter t)
      → filter_map (balance_in view filter.account_id) (take (min filter.limit answer_max) (keep (is_within filter.timestamp_min filter.timestamp_max) left)) ≡ history_of journal filter
  history_answered filter valid history balances d is left ordered members =
      answered transfer_timestamp (transfers_of journal) dated d (has_asked filter) (matches_account_filter filter) (is_within filter.timestamp_min filter.timestamp_max) (asked_within filter)
      (balance_in view filter.account_id) (balance_after journal filter.account_id) read left ordered
      (λ t. members t ∙ account_filter_held view (transfers_of journal) indexed filter t) (min filter.limit answer_max)
      ∙ ap (map (balance_after journal filter.account_id)) (answer_is (account_search filter) (transfers_of journal) valid d is)
      ∙ sym (ap (λ b. cond b (map (balance_after journal filter.account_id) (account_transfers_of journal filter)) []) history)
    where
      side : (x : Transfer) → matches_account_filter filter x ≡ true → is_on_side filter.account_id x ≡ true
      side x accepted =
          let both = and_parts (has_asked filter x) (is_within filter.timestamp_min filter.timestamp_max x.timestamp) (asked_within filter x ∙ accepted) in
          on_side (asks_debits filter) (asks_credits filter) (x.debit_account_id == filter.account_id) (x.credit_account_id == filter.account_id)
          (first_holds (is_on_asked_side filter x) (meets filter.user_data_128 x.user_data_128) (meets filter.user_data_64 x.user_data_64) (meets filter.user_data_32 x.user_data_32) (meets filter.code x.code) both.0)

      read : (x : Transfer) → Has (transfers_of journal) x → matches_account_filter filter x ≡ true → balance_in view filter.account_id x.timestamp ≡ Some (balance_after journal filter.account_id x)
      read x h accepted =
          let found = record_found transfer_timestamp (transfers_of journal) dated x h in
          balances x.timestamp (ap (λ o. option_map_or (is_on_side filter.account_id) o false) found ∙ side x accepted)
          ∙ ap (option_map (balance_after journal filter.account_id)) found

pub accounts_answered : (view : View) (journal : List Entry) → AreDated account_timestamp (accounts_of journal)
    → ((row : UnitRow) → is_some (account_field row) ≡ true → (value t : ℕ) → has_entry view row value t ≡ holds_at account_timestamp (has_value (account_field row) value) (accounts_of journal) t)
    → ((t : ℕ) → account_in view t ≡ record_at account_timestamp (accounts_of journal) t)
    → ((t : ℕ) → shown_in view t ≡ option_map (shown journal) (record_at account_timestamp (accounts_of journal) t))
    → (filter : QueryFilter) → is_valid_query_filter filter ≡ true → (d : Direction) → d ≡ direction_of (query_search searched_account filter).is_reversed
    → (left : List ℕ) → IsInOrder d left → ((t : ℕ) → is_among t left ≡ account_fields_at view filter t)
    → filter_map (shown_in view) (take (min filter.limit answer_max) (keep (is_within filter.timestamp_min filter.timestamp_max) left)) ≡ found_accounts_of journal filter
accounts_answered view journal dated indexed given shows filter valid d is left ordered members =
    answered account_timestamp (accounts_of journal) dated d (λ x. has_fields filter (searched_account x)) (λ x. matches_query_filter filter (searched_account x))
    (is_within filter.timestamp_min filter.timestamp_max) (λ x. fields_within filter (searched_account x))
    (shown_in view) (shown journal)
    (λ x h accepted. shows x.timestamp ∙ ap (option_map (shown journal)) (record_found account_timestamp (accounts_of journal) dated x h)) left ordered
    (λ t. members t ∙ account_fields_held view (accounts_of journal) indexed given filter t) (min filter.limit answer_max)
    ∙ ap (map (shown journal)) (answer_is (query_search searched_account filter) (accounts_of journal) valid d is)
