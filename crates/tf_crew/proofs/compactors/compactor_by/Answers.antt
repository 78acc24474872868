use Rattle.std.proofs.Common.{◌+◌, length, [], ◌∷◌, ap, ◌∙◌, arith}
use Rattle.std.proofs.Math.Nat.{min-le_left}
use Rattle.std.proofs.lemmas.List.{length-append}
use Rattle.tf_crew.proofs.compactors.compactor_by.Goals as goal

pub loop-turn-preserved-in-Ok-true : goal.loop-turn-preserved-in-Ok-true
loop-turn-preserved-in-Ok-true g c =
    let was = c.loop-turn.invariant in
    let seat = c.take.ensures.seat in
    let taken = ap length c.in-Some-take.ensures.some ∙ length-append c.loop-turn.seat.taken (c.in-Some-take.job ∷ []) in
    let capped = min-le_left (c.loop-turn.installed + 1) 18446744073709551615 in (
      tt,
      tt,
      seat.0 ∙ was.2,
      seat.0 ∙ was.3,
      seat.1 ∙ was.4,
      seat.2 ∙ was.5,
      omega (arith, c.saturating_add-installed.ensures, capped, taken, was.6),
    )

pub loop-turn-preserved-in-Ok-false : goal.loop-turn-preserved-in-Ok-false
loop-turn-preserved-in-Ok-false g c =
    let was = c.loop-turn.invariant in
    let seat = c.take.ensures.seat in
    let taken = ap length c.in-Some-take.ensures.some ∙ length-append c.loop-turn.seat.taken (c.in-Some-take.job ∷ []) in (
      tt,
      tt,
      seat.0 ∙ was.2,
      seat.0 ∙ was.3,
      seat.1 ∙ was.4,
      seat.2 ∙ was.5,
      omega (arith, taken, was.6),
    )

pub loop-turn-preserved : goal.loop-turn-preserved
loop-turn-preserved g c =
    let was = c.loop-turn.invariant in
    let seat = c.take.ensures.seat in
    let taken = ap length c.in-None-take.ensures.none in
    (tt, tt, seat.0 ∙ was.2, seat.0 ∙ was.3, seat.1 ∙ was.4, seat.2 ∙ was.5, omega (arith, taken, was.6))

pub returns-in-Err-clause-installed : goal.returns-in-Err-clause-installed
returns-in-Err-clause-installed g c =
    let taken = ap length c.in-Some-take.ensures.some ∙ length-append c.loop-turn.seat.taken (c.in-Some-take.job ∷ []) in
    omega (arith, taken, c.loop-turn.invariant.6)
