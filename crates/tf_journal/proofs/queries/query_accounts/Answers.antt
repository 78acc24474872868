use Rattle.std.proofs.Common.{◌≡◌, List, IfOk, ap, subst}
use Rattle.tf_records.specs.declared.account.Account.{Account}
use Rattle.tf_journal.specs.Answer.{found_accounts_of}
use Rattle.tf_journal.proofs.queries.query_accounts.Goals as goal

pub returns-clause-ok : goal.returns-clause-ok
returns-clause-ok g c =
    subst (λ (ys : List Account). IfOk c.answer.result (λ rows. rows.items ≡ ys))
    (ap (λ journal. found_accounts_of journal c.args.filter.now) c.entries.ensures.journal) c.answer.ensures.ok
