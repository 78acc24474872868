use Rattle.std.proofs.Common.{◌+◌, ◌≤◌, ◌∙◌, Ok, ap, arith, length, rules, subst, sym}
use Rattle.std.proofs.lemmas.Result.{IfOk-from_err, err_from_is_err_and}
use Rattle.tf_events.specs.Batch.{placed}
use Rattle.tf_events.proofs.Stored.{closed_stored, closed_taken, extends_longer, goes_on_back, left_can_follow, left_stands, on_ok, on_ok_map}
use Rattle.tf_events.proofs.chain.run_closed_chain.Goals as goal

pub leave-requires : goal.leave-requires
leave-requires g c =
    let stored = c.in_ok-own.ensures in
    left_can_follow g.E.Event.kind g.met.E.Event.keeps c.args.before (c.args.before + length c.args.events.now)
    (g.L.Ledger.journal c.args.ledger.now) (g.L.Ledger.journal c.store_events.new.ledger) (g.L.Ledger.journal c.undo.new.self) c.mark-mark.result.length c.in_ok-own.own
    c.requires.sound stored.left stored.after stored.within (omega arith) c.undo.ensures.cut c.mark-mark.ensures.present stored.goes_on.extends

pub returns-clause-sound : goal.returns-clause-sound
returns-clause-sound g c =
    let stored = c.in_ok-own.ensures in
    on_ok c.note_events.result (left_stands g.E.Event.kind g.met.E.Event.keeps c.args.before (c.args.before + length c.args.events.now)
    (g.L.Ledger.journal c.args.ledger.now) (g.L.Ledger.journal c.store_events.new.ledger) (g.L.Ledger.journal c.undo.new.self) (g.L.Ledger.journal c.leave.new.ledger) c.mark-mark.result.length c.in_ok-own.own
    c.requires.sound stored.left stored.after stored.within (omega arith) (omega arith) c.undo.ensures.cut c.mark-mark.ensures.present stored.goes_on.extends c.in_ok-leave.ensures.stored)

pub returns-then-is_none-clause-step : goal.returns-then-is_none-clause-step
returns-then-is_none-clause-step g c =
    closed_stored g.E.Event.kind (g.L.Ledger.journal c.args.ledger.now) (g.L.Ledger.journal c.store_events.new.ledger) (placed c.args.index (c.args.before + 1) c.args.events.now)
    c.in_ok-own.own c.args.failures.now.items c.if-is_none.ensures c.in_ok-own.ensures.own (λ none. c.store_events.ensures.stored (c.in_ok-own.was ∙ ap Ok none))

pub returns-in_err-leave-clause-goes_on : goal.returns-in_err-leave-clause-goes_on
returns-in_err-leave-clause-goes_on g c =
    goes_on_back g.L.Ledger.journal g.L.Ledger.clock g.L.Ledger.kept c.args.ledger.now c.store_events.new.ledger c.undo.new.self c.leave.new.ledger
    c.store_events.result c.leave.result c.from_residual-in_err-leave.result c.mark-mark.result.length c.store_events.ensures.goes_on c.undo.ensures.cut c.mark-mark.ensures.present
    c.undo.ensures.clock_kept c.undo.ensures.length_kept c.leave.ensures.goes_on (search rules)

pub returns-clause-goes_on : goal.returns-clause-goes_on
returns-clause-goes_on g c =
    goes_on_back g.L.Ledger.journal g.L.Ledger.clock g.L.Ledger.kept c.args.ledger.now c.store_events.new.ledger c.undo.new.self c.leave.new.ledger
    c.store_events.result c.leave.result c.note_events.result c.mark-mark.result.length c.store_events.ensures.goes_on c.undo.ensures.cut c.mark-mark.ensures.present
    c.undo.ensures.clock_kept c.undo.ensures.length_kept c.leave.ensures.goes_on (c.note_events.ensures.refusal)

pub returns-clause-step : goal.returns-clause-step
returns-clause-step g c =
    on_ok_map c.note_events.result
    (λ noted. closed_taken g.E.Event.kind (g.L.Ledger.journal c.args.ledger.now) (g.L.Ledger.journal c.store_events.new.ledger) (g.L.Ledger.journal c.undo.new.self) (g.L.Ledger.journal c.leave.new.ledger)
    c.mark-mark.result.length (placed c.args.index (c.args.before + 1) c.args.events.now) c.in_ok-own.own c.args.failures.now.items c.note_events.new.failures.items
    c.if-is_none.ensures c.in_ok-own.ensures.own c.undo.ensures.cut c.mark-mark.ensures.present c.store_events.ensures.goes_on.extends c.in_ok-leave.ensures.stored
    (noted (c.args.before + 1))) c.note_events.ensures.noted

pub undo-requires-clause-not_kept : goal.undo-requires-clause-not_kept
undo-requires-clause-not_kept g c =
    subst (λ n. n ≤ c.mark-mark.result.length) (sym c.store_events.ensures.goes_on.kept) c.mark-mark.ensures.not_kept

pub undo-requires-clause-present : goal.undo-requires-clause-present
undo-requires-clause-present g c =
    extends_longer (g.L.Ledger.journal c.args.ledger.now) (g.L.Ledger.journal c.store_events.new.ledger) c.mark-mark.result.length c.mark-mark.ensures.present c.store_events.ensures.goes_on.extends

pub returns-in_err-own-clause-step : goal.returns-in_err-own-clause-step
returns-in_err-own-clause-step g c = IfOk-from_err _ _ c.from_residual.ensures.0

pub returns-in_err-own-clause-sound : goal.returns-in_err-own-clause-sound
returns-in_err-own-clause-sound g c = IfOk-from_err _ _ c.from_residual.ensures.0

pub returns-in_err-own-clause-goes_on : goal.returns-in_err-own-clause-goes_on
returns-in_err-own-clause-goes_on g c =
    let p = err_from_is_err_and c.from_residual.result c.from_residual.ensures.1 in
    let stored = c.store_events.ensures.goes_on in
    record { extends = stored.extends; refusal = rw (p.1, p.2) c.in_err-own.ensures.goes_on.refusal; clock = stored.clock; kept = stored.kept }

pub returns-in_err-own-clause-rest : goal.returns-in_err-own-clause-rest
returns-in_err-own-clause-rest g c = c.store_events.ensures.rest

pub returns-then-is_none-clause-sound : goal.returns-then-is_none-clause-sound
returns-then-is_none-clause-sound g c = c.in_ok-own.ensures.sound

pub returns-then-is_none-clause-goes_on : goal.returns-then-is_none-clause-goes_on
returns-then-is_none-clause-goes_on g c =
    let stored = c.store_events.ensures.goes_on in
    record { extends = stored.extends; refusal = tt; clock = stored.clock; kept = stored.kept }

pub returns-then-is_none-clause-rest : goal.returns-then-is_none-clause-rest
returns-then-is_none-clause-rest g c = c.store_events.ensures.rest

pub returns-in_err-leave-clause-step : goal.returns-in_err-leave-clause-step
returns-in_err-leave-clause-step g c = IfOk-from_err _ _ c.from_residual-in_err-leave.ensures.0

pub returns-in_err-leave-clause-sound : goal.returns-in_err-leave-clause-sound
returns-in_err-leave-clause-sound g c = IfOk-from_err _ _ c.from_residual-in_err-leave.ensures.0

pub returns-in_err-leave-clause-rest : goal.returns-in_err-leave-clause-rest
returns-in_err-leave-clause-rest g c = c.leave.ensures.rest ∙ c.undo.ensures.rest ∙ c.store_events.ensures.rest

pub returns-clause-rest : goal.returns-clause-rest
returns-clause-rest g c = c.leave.ensures.rest ∙ c.undo.ensures.rest ∙ c.store_events.ensures.rest
