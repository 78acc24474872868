-- What a filter asks of a record is what leads to it, and the rest, for which it is tested.
use Rattle.std.proofs.Common.{◌≡◌, ◌∙◌, refl, ap, ℕ, Bool, true, false, ◌&&◌, cond}
use Rattle.tf_records.specs.declared.account_filter.AccountFilter.{AccountFilter}
use Rattle.tf_records.specs.declared.query_filter.QueryFilter.{QueryFilter}
use Rattle.tf_records.specs.declared.transfer.Transfer.{Transfer}
use Rattle.tf_journal.specs.Filter.{is_on_asked_side, is_within, matches_account_filter, matches_query_filter, meets, searched_transfer}
use Rattle.tf_query.specs.declared.residual.Tested.{Tested}
use Rattle.tf_query.specs.Residual.{account_lead, account_residual, passes, query_lead, query_residual}
use Rattle.tf_query.proofs.Asking.{has_asked, has_fields}

and-true : (b : Bool) → (b && true) ≡ b
and-true true = refl
and-true false = refl

-- a field leads, or it is tested
in_parts : (b : Bool) (asked field : ℕ) → (meets (cond b 0 asked) field && meets (cond b asked 0) field) ≡ meets asked field
in_parts true asked field = refl
in_parts false asked field = and-true (meets asked field)

-- the tests of both parts of what is asked of an account's transfer
by_asked : (s a b c l w r : Bool) → (((s && a && b && c && l) && w) && (true && r)) ≡ (a && b && c && (l && r) && w && s)
by_asked true true true true true true true = refl
by_asked true true true true true true false = refl
by_asked true true true true true false true = refl
by_asked true true true true true false false = refl
by_asked true true true true false w r = refl
by_asked true true true false l w r = refl
by_asked true true false c l w r = refl
by_asked true false b c l w r = refl
by_asked false true true true true true true = refl
by_asked false true true true true false true = refl
by_asked false true true true true w false = refl
by_asked false true true true false w r = refl
by_asked false true true false l w r = refl
by_asked false true false c l w r = refl
by_asked false false b c l w r = refl

pub asked_in_parts : (tested : Tested) (filter : AccountFilter) (x : Transfer)
    → ((has_asked (account_lead tested filter) x && is_within filter.timestamp_min filter.timestamp_max x.timestamp) && passes (account_residual tested filter) x) ≡ matches_account_filter filter x
asked_in_parts tested filter x =
    let wide = meets filter.user_data_128 x.user_data_128 in
    let middle = meets filter.user_data_64 x.user_data_64 in
    let narrow = meets filter.user_data_32 x.user_data_32 in
    let within = is_within filter.timestamp_min filter.timestamp_max x.timestamp in
    by_asked (is_on_asked_side filter x) wide middle narrow (meets (account_lead tested filter).code x.code) within (meets (account_residual tested filter).code x.code)
    ∙ ap (λ b. wide && middle && narrow && b && within && is_on_asked_side filter x) (in_parts tested.code filter.code x.code)

and-swap : (a b : Bool) → (a && b) ≡ (b && a)
and-swap true true = refl
and-swap true false = refl
and-swap false true = refl
and-swap false false = refl

-- the tests of both parts, field by field
by_fields : (a b c e f w g h : Bool) → (((a && b && c && e && f) && w) && (g && h)) ≡ (a && b && c && (e && g) && (f && h) && w)
by_fields false b c e f w g h = refl
by_fields true false c e f w g h = refl
by_fields true true false e f w g h = refl
by_fields true true true false f w g h = refl
by_fields true true true true false w true h = refl
by_fields true true true true false w false h = refl
by_fields true true true true true w g h = by_bounds w g h
  where
    by_bounds : (w g h : Bool) → (w && (g && h)) ≡ ((g && h) && w)
    by_bounds w g h = and-swap w (g && h)

pub fields_in_parts : (tested : Tested) (filter : QueryFilter) (x : Transfer)
    → ((has_fields (query_lead tested filter) (searched_transfer x) && is_within filter.timestamp_min filter.timestamp_max x.timestamp) && passes (query_residual tested filter) x)
    ≡ matches_query_filter filter (searched_transfer x)
fields_in_parts tested filter x =
    let wide = meets filter.user_data_128 x.user_data_128 in
    let middle = meets filter.user_data_64 x.user_data_64 in
    let narrow = meets filter.user_data_32 x.user_data_32 in
    let within = is_within filter.timestamp_min filter.timestamp_max x.timestamp in
    by_fields wide middle narrow (meets (query_lead tested filter).ledger x.ledger) (meets (query_lead tested filter).code x.code) within
    (meets (query_residual tested filter).ledger x.ledger) (meets (query_residual tested filter).code x.code)
    ∙ ap (λ b. wide && middle && narrow && b && (meets (query_lead tested filter).code x.code && meets (query_residual tested filter).code x.code) && within) (in_parts tested.ledger filter.ledger x.ledger)
    ∙ ap (λ b. wide && middle && narrow && meets filter.ledger x.ledger && b && within) (in_parts tested.code filter.code x.code)
