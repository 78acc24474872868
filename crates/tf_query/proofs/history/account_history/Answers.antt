use Rattle.std.proofs.Common.{◌≡◌, ◌∙◌, refl, sym, ap, subst, true, List, IfOk}
use Rattle.std.specs.List.{filter_map}
use Rattle.std.specs.Prelude.{vec_capacity}
use Rattle.tf_records.specs.declared.account_balance.AccountBalance.{AccountBalance}
use Rattle.tf_query.specs.History.{history_at}
use Rattle.tf_look_ups.specs.Reads.{balance_in}
use Rattle.tf_query.specs.Windows.{account_window}
use Rattle.tf_journal.specs.Answer.{account_transfers_of, balance_after}
use Rattle.tf_journal.specs.Filter.{account_search}
use Rattle.tf_journal.specs.Journal.{transfers_of}
use Rattle.tf_manifest.specs.Rows.{has_history}
use Rattle.tf_query.proofs.Asked.{answered, few-rows, no-history, nothing, nothing-of-history}
use Rattle.tf_query.proofs.history.account_history.Goals as goal

pub returns-in-Ok-clause-ok : goal.returns-in-Ok-clause-ok
returns-in-Ok-clause-ok g c journal sound shows =
    let read = balance_in c.args.manifest.now c.args.filter.now.account_id in
    let kept : has_history journal c.args.filter.now.account_id ≡ true = sym (c.has_history.ensures journal sound shows) ∙ c.if-not-has_history.false in
    subst (λ (rows : List AccountBalance). IfOk c.balances_at.result (λ v. v.items ≡ rows))
    (ap (filter_map read) c.as_slice.ensures.value
    ∙ answered read (account_window c.args.filter.now) (history_at c.args.manifest.now c.args.filter.now) c.in-Ok.timestamps.items _ c.in-Ok.ensures.ok
    (λ left ordered members. c.scans_answer_filters.ensures.history c.args.manifest.now journal sound shows c.args.filter.now (sym c.is_valid_account_filter.ensures ∙ c.if-not-is_valid_account_filter.false) kept
    (account_window c.args.filter.now).direction refl left ordered (λ t. members t ∙ c.sums_date_history.ensures.asked c.args.manifest.now journal sound shows c.args.filter.now kept t)))
    c.balances_at.ensures.ok

pub returns-then-not-is_valid_account_filter-clause-ok : goal.returns-then-not-is_valid_account_filter-clause-ok
returns-then-not-is_valid_account_filter-clause-ok g c journal sound shows =
    c.new.ensures.items
    ∙ nothing-of-history (balance_after journal c.args.filter.now.account_id) (has_history journal c.args.filter.now.account_id) (account_transfers_of journal c.args.filter.now)
    (nothing (account_search c.args.filter.now) (transfers_of journal) (sym c.is_valid_account_filter.ensures ∙ c.if-not-is_valid_account_filter.true))

pub returns-then-not-has_history-clause-ok : goal.returns-then-not-has_history-clause-ok
returns-then-not-has_history-clause-ok g c journal sound shows =
    c.new-then-not-has_history.ensures.items
    ∙ no-history (balance_after journal c.args.filter.now.account_id) (has_history journal c.args.filter.now.account_id) (account_transfers_of journal c.args.filter.now)
    (sym (c.has_history.ensures journal sound shows) ∙ c.if-not-has_history.true)

pub returns-in-Ok-clause-room : goal.returns-in-Ok-clause-room
returns-in-Ok-clause-room g c =
    few-rows c.balances_at.result (λ rows. vec_capacity rows) (account_window c.args.filter.now) (history_at c.args.manifest.now c.args.filter.now) c.in-Ok.timestamps.items _ c.as_slice.ensures.value c.in-Ok.ensures.ok c.balances_at.ensures.room
