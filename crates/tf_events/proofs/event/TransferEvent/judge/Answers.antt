use Rattle.std.proofs.Common.{subst, sym}
use Rattle.tf_journal.specs.declared.entry.Entry.TheVariants as entry
use Rattle.tf_journal.specs.Fits.{FitsTransfer}
use Rattle.tf_events.specs.Chain.{transfers}
use Rattle.tf_events.specs.Walk.{IsAccepted, IsRefused}
use Rattle.tf_events.proofs.Judged.{transfer_accepted, transfer_refused}
use Rattle.tf_events.proofs.event.TransferEvent.judge.Goals as goal

pub returns-in-Ok-clause-ok : goal.returns-in-Ok-clause-ok
returns-in-Ok-clause-ok g c =
    let journal = g.L.Ledger.journal c.args.ledger.now in
    let event = c.fitting_transfer-event in
    let judged = c.in-Ok.ensures in
    subst (λ e. IsAccepted transfers journal c.args.timestamp e (entry.Transfer c.in-Ok.transfer)) event.ensures.same
    (transfer_accepted journal c.args.timestamp event.result c.in-Ok.transfer (subst FitsTransfer (sym event.ensures.same) event.ensures.fits)
    judged.accepted judged.stored)

pub returns-in-Err-clause-err : goal.returns-in-Err-clause-err
returns-in-Err-clause-err g c =
    let journal = g.L.Ledger.journal c.args.ledger.now in
    let event = c.fitting_transfer-event in
    let judged = c.in-Err.ensures in
    subst (λ e. IsRefused transfers journal c.args.timestamp e c.in-Err.verdict) event.ensures.same
    (transfer_refused journal c.args.timestamp event.result c.in-Err.verdict (subst FitsTransfer (sym event.ensures.same) event.ensures.fits)
    (sym judged.refused) judged.fault)
