use Rattle.std.proofs.Common.{arith, ◌∙◌, refl, Ok}
use Rattle.std.proofs.lemmas.Result.{IfOk-from_err, err_from_is_err_and}
use Rattle.tf_store.specs.Events.{batch_of}
use Rattle.tf_store.proofs.Counting.{begins_itself, book_and_failed}
use Rattle.tf_store.proofs.Published.{whatever_err}
use Rattle.tf_store.proofs.Runs.{begins, counts, fits, not_run}
use Rattle.tf_store.proofs.run.run_batch.Goals as goal

pub overflow_sub-len : goal.overflow_sub-len
overflow_sub-len g c =
    let fit = fits g.L.Ledger.journal g.L.Ledger.clock g.L.Ledger.kept c.args.ledger.now c.run_events.new.ledger (batch_of c.args.events) c.args.now c.in_ok-reply.reply c.in_ok-reply.ensures.run in
    omega (arith, fit, c.len.ensures, c.len-2.ensures)

pub add-requires : goal.add-requires
add-requires g c =
    let count = counts g.L.Ledger.journal g.L.Ledger.clock g.L.Ledger.kept c.args.ledger.now c.run_events.new.ledger (batch_of c.args.events) c.args.now c.in_ok-reply.reply c.in_ok-reply.ensures.run in
    let fit = fits g.L.Ledger.journal g.L.Ledger.clock g.L.Ledger.kept c.args.ledger.now c.run_events.new.ledger (batch_of c.args.events) c.args.now c.in_ok-reply.reply c.in_ok-reply.ensures.run in
    let whole = book_and_failed (g.L.Ledger.journal c.run_events.new.ledger) in
    omega (arith, count, fit, whole, c.requires.counted, c.len.ensures, c.len-2.ensures, c.mark-after.ensures.present, c.mark-after.type_inv)

pub copy_of-requires-clause-fits : goal.copy_of-requires-clause-fits
copy_of-requires-clause-fits g c =
    let fit = fits g.L.Ledger.journal g.L.Ledger.clock g.L.Ledger.kept c.args.ledger.now c.run_events.new.ledger (batch_of c.args.events) c.args.now c.in_ok-reply.reply c.in_ok-reply.ensures.run in
    omega (arith, fit, c.in_ok-room.ensures.room)

pub returns-clause-begins : goal.returns-clause-begins
returns-clause-begins g c =
    begins g.L.Ledger.journal g.L.Ledger.clock g.L.Ledger.kept c.args.ledger.now c.run_events.new.ledger (batch_of c.args.events) c.args.now (Ok c.in_ok-reply.reply) c.in_ok-reply.ensures.run

pub returns-clause-counted : goal.returns-clause-counted
returns-clause-counted g c =
    let count = counts g.L.Ledger.journal g.L.Ledger.clock g.L.Ledger.kept c.args.ledger.now c.run_events.new.ledger (batch_of c.args.events) c.args.now c.in_ok-reply.reply c.in_ok-reply.ensures.run in
    let fit = fits g.L.Ledger.journal g.L.Ledger.clock g.L.Ledger.kept c.args.ledger.now c.run_events.new.ledger (batch_of c.args.events) c.args.now c.in_ok-reply.reply c.in_ok-reply.ensures.run in
    omega (arith, count, fit, c.requires.counted, c.len.ensures, c.len-2.ensures, c.add.ensures.count)

pub returns-clause-share : goal.returns-clause-share
returns-clause-share g c =
    let count = counts g.L.Ledger.journal g.L.Ledger.clock g.L.Ledger.kept c.args.ledger.now c.run_events.new.ledger (batch_of c.args.events) c.args.now c.in_ok-reply.reply c.in_ok-reply.ensures.run in
    let fit = fits g.L.Ledger.journal g.L.Ledger.clock g.L.Ledger.kept c.args.ledger.now c.run_events.new.ledger (batch_of c.args.events) c.args.now c.in_ok-reply.reply c.in_ok-reply.ensures.run in
    omega (arith, count, fit, c.len.ensures, c.len-2.ensures, c.add.ensures.share)

pub returns-clause-run : goal.returns-clause-run
returns-clause-run g c = c.in_ok-reply.ensures.run

pub returns-clause-lasting : goal.returns-clause-lasting
returns-clause-lasting g c = c.in_ok-reply.ensures.lasting

pub returns-clause-waits : goal.returns-clause-waits
returns-clause-waits g c =
    c.push.ensures ∙ rw (c.in_ok-room.ensures.same, c.copy_of.ensures, c.clock-clock.ensures, c.mark-before.ensures.present, c.mark-after.ensures.present) refl

pub returns-in_err-room-clause-run : goal.returns-in_err-room-clause-run
returns-in_err-room-clause-run g c =
    let p = err_from_is_err_and c.from_residual.result c.from_residual.ensures.1 in
    rw (p.1, p.2) (not_run g.L.Ledger.journal g.L.Ledger.clock g.L.Ledger.kept c.args.ledger.now (batch_of c.args.events) c.args.now _ c.requires.lawful (rw c.clock-clock.ensures at c.in_err-room.ensures.refused))

pub returns-in_err-room-clause-lasting : goal.returns-in_err-room-clause-lasting
returns-in_err-room-clause-lasting g c = refl

pub returns-in_err-room-clause-unchanged : goal.returns-in_err-room-clause-unchanged
returns-in_err-room-clause-unchanged g c = whatever_err c.from_residual.result refl

pub returns-in_err-room-clause-begins : goal.returns-in_err-room-clause-begins
returns-in_err-room-clause-begins g c = begins_itself (g.L.Ledger.journal c.args.ledger.now)

pub returns-in_err-room-clause-counted : goal.returns-in_err-room-clause-counted
returns-in_err-room-clause-counted g c = c.requires.counted

pub returns-in_err-room-clause-waits : goal.returns-in_err-room-clause-waits
returns-in_err-room-clause-waits g c = IfOk-from_err _ _ c.from_residual.ensures.0
