use Rattle.std.proofs.Common.{◌≡◌, rules, subst, sym, ◌∙◌}
use Rattle.tf_records.specs.declared.outcome.Outcome.TheVariants as outcome
use Rattle.tf_journal.specs.declared.entry.Entry.TheVariants as entry
use Rattle.tf_journal.specs.Fits.{FitsAccount}
use Rattle.tf_events.specs.Chain.{accounts}
use Rattle.tf_events.specs.Walk.{IsAccepted}
use Rattle.tf_events.proofs.Judged.{account_accepted}
use Rattle.tf_events.proofs.event.AccountEvent.judge.Goals as goal

pub returns-then-eq-clause-ok : goal.returns-then-eq-clause-ok
returns-then-eq-clause-ok g c =
    let journal = g.L.Ledger.journal c.args.ledger.now in
    let event = c.fitting_account-event in
    let ok : c.verdict_account-verdict.result ≡ outcome.Ok = search rules in
    subst (λ e. IsAccepted accounts journal c.args.timestamp e (entry.Account c.stored_account.result)) event.ensures.same
    (account_accepted journal c.args.timestamp event.result c.stored_account.result (subst FitsAccount (sym event.ensures.same) event.ensures.fits)
    (sym c.verdict_account-verdict.ensures ∙ ok) c.stored_account.ensures)
