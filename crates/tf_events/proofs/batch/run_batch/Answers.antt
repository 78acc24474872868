use Rattle.std.proofs.Common.{◌≡◌, ◌+◌, ◌∙◌, Err, ap, length, max, subst, sym}
use Rattle.std.proofs.lemmas.Result.{err_from_is_err_and}
use Rattle.tf_journal.specs.Journal.{IsUpTo}
use Rattle.tf_events.specs.Batch.{batch_clock, batch_refusal}
use Rattle.tf_events.proofs.Batches.{clock_told, refused_run}
use Rattle.tf_events.proofs.batch.run_batch.Goals as goal

pub returns-in_err-clock-clause-run : goal.returns-in_err-clock-clause-run
returns-in_err-clock-clause-run g c =
    let p = err_from_is_err_and c.from_residual.result c.from_residual.ensures.1 in
    refused_run g.E.Event.kind g.L.Ledger.journal g.L.Ledger.clock g.L.Ledger.kept c.args.ledger.now c.args.events.now c.args.now c.clock-2.result
    c.clock_after.result c.in_err-clock.field-0.0 c.from_residual.result c.requires c.clock-2.ensures c.clock_after.ensures c.in_err-clock.was (p.1 ∙ ap Err p.2)

pub keep-requires-clause-up_to : goal.keep-requires-clause-up_to
keep-requires-clause-up_to g c =
    let count = length c.args.events.now in
    let before : c.max-before.result ≡ max c.args.now c.clock-2.result = c.max-before.ensures ∙ ap (max c.args.now) (c.clock.ensures ∙ sym c.clock-2.ensures) in
    let same : c.max-before.result + count ≡ c.in_ok-clock.clock =
    ap (λ n. n + count) before
    ∙ clock_told (batch_refusal c.clock-2.result count c.args.now) c.clock_after.result (batch_clock c.clock-2.result count c.args.now) c.in_ok-clock.clock
    c.clock_after.ensures c.in_ok-clock.was in
    subst (λ n. IsUpTo n (g.L.Ledger.journal c.run_events.new.ledger)) same c.in-Ok.ensures.sound.up_to
