use Rattle.std.proofs.Common.{◌≡◌, ℕ, ◌+◌, ◌++◌, ◌∙◌, ap, arith, sym}
use Rattle.std.proofs.lemmas.Result.{IfOk-from_err, err_from_is_err_and}
use Rattle.std.specs.Option.{option_map}
use Rattle.tf_events.specs.Batch.{placed}
use Rattle.tf_events.specs.Chain.{failures_of, outcome_in}
use Rattle.tf_events.specs.Walk.{own_failure_of}
use Rattle.tf_events.proofs.Stored.{noted-all, noted_more, outcome_in-other, outcome_in-own, placed-all}
use Rattle.tf_events.proofs.chain.note_events.Goals as goal
use Rattle.tf_events.proofs.chain.note_events.Goals.{in-Some, in_default-2, in_default}

pub loop-i-preserved : goal.loop-i-preserved
loop-i-preserved g c =
    let own = option_map own_failure_of c.args.own.now in
    let index = c.args.index + c.loop-i.i in
    let told : (t : ℕ) (e : _) → c.match-own.outcome ≡ outcome_in own (record { index = index; timestamp = t; event = e }) =
    λ t e. elim c.match-own.branch [
      | in-Some w ↦ w.outcome-is ∙ sym (outcome_in-own c.args.own.now w.in-Some.own index t e w.in-Some.is w.if-own-index.true)
      | in_default-2 w ↦ w.outcome-is ∙ sym (outcome_in-other c.args.own.now w.in-Some.own index t e w.in-Some.is w.if-own-index.false)
      | in_default w ↦ w.outcome-is ∙ sym (ap (λ o. outcome_in (option_map own_failure_of o) (record { index = index; timestamp = t; event = e })) w.in_default.is)
    ] in
    λ timestamp. noted_more own c.loop-i.failures.items c.note.new.failures.items c.args.index timestamp c.loop-i.i c.args.events.now c.match-own.outcome
    (omega arith) told c.in_ok-note.ensures.noted ∙ c.loop-i.invariant timestamp

pub loop-i-init : goal.loop-i-init
loop-i-init g c =
    λ timestamp. ap (λ es. c.args.failures.now.items ++ failures_of (option_map own_failure_of c.args.own.now) es) (placed-all c.args.index timestamp c.args.events.now)

pub returns-in_err-note-clause-noted : goal.returns-in_err-note-clause-noted
returns-in_err-note-clause-noted g c = IfOk-from_err _ _ c.from_residual.ensures.0

pub returns-in_err-note-clause-refusal : goal.returns-in_err-note-clause-refusal
returns-in_err-note-clause-refusal g c =
    let p = err_from_is_err_and c.from_residual.result c.from_residual.ensures.1 in
    rw (p.1, p.2) c.in_err-note.ensures.refusal

pub returns-clause-noted : goal.returns-clause-noted
returns-clause-noted g c =
    λ timestamp. noted-all (option_map own_failure_of c.args.own.now) c.loop-i.failures.items
    (c.args.failures.now.items ++ failures_of (option_map own_failure_of c.args.own.now) (placed c.args.index timestamp c.args.events.now))
    c.args.index timestamp c.loop-i.i c.args.events.now c.loop-i-test.false (c.loop-i.invariant timestamp)

pub returns-clause-refusal : goal.returns-clause-refusal
returns-clause-refusal g c = tt
