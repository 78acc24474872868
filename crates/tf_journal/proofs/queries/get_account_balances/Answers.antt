use Rattle.std.proofs.Common.{◌≡◌, List, [], IfOk, Some, map, cond, false, true, ap, subst, sym, ◌∙◌}
use Rattle.std.specs.Option.{option_map_or}
use Rattle.tf_records.specs.declared.account.Account.{Account}
use Rattle.tf_records.specs.declared.account_balance.AccountBalance.{AccountBalance}
use Rattle.tf_records.specs.declared.account_filter.AccountFilter.{AccountFilter}
use Rattle.tf_journal.specs.declared.entry.Entry.{Entry}
use Rattle.tf_journal.specs.Answer.{account_transfers_of, balance_after, history_of}
use Rattle.tf_journal.specs.Flags.{keeps_history}
use Rattle.tf_journal.specs.Lookup.{account_with_id}
use Rattle.tf_journal.proofs.queries.get_account_balances.Goals as goal

-- the history of a stored account that keeps one
kept_history : (journal : List Entry) (filter : AccountFilter) (account : Account) → Some account ≡ account_with_id journal filter.account_id
    → keeps_history account ≡ true → map (balance_after journal filter.account_id) (account_transfers_of journal filter) ≡ history_of journal filter
kept_history journal filter account stored keeps =
    let kept : option_map_or keeps_history (account_with_id journal filter.account_id) false ≡ true =
    ap (λ o. option_map_or keeps_history o false) (sym stored) ∙ keeps in
    sym (ap (λ b. cond b (map (balance_after journal filter.account_id) (account_transfers_of journal filter)) []) kept)

pub returns-in-Some-clause-ok : goal.returns-in-Some-clause-ok
returns-in-Some-clause-ok g c =
    let filter = c.args.filter.now in
    let stored = c.in-Some.ensures ∙ ap (λ journal. account_with_id journal filter.account_id) c.entries.ensures.journal in
    subst (λ (ys : List AccountBalance). IfOk c.answer.result (λ rows. rows.items ≡ ys))
    (ap (λ journal. map (balance_after journal filter.account_id) (account_transfers_of journal filter)) c.entries-in-Some.ensures.journal
    ∙ kept_history c.args.ledger.now.entries.items filter c.in-Some.account stored (sym c.has_flag.ensures ∙ c.if-has_flag.true))
    c.answer.ensures.ok
