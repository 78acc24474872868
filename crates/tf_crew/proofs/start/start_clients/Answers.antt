use Rattle.std.proofs.Common.{◌≡◌, arith}
use Rattle.std.proofs.lemmas.List.Elements.{All-pop}
use Rattle.std.specs.Prelude.{Some}
use Rattle.tf_jobs.specs.Jobs.{SeatView}
use Rattle.tf_crew.proofs.start.start_clients.Goals as goal

pub bounds-scripts-place : goal.bounds-scripts-place
bounds-scripts-place g c = c.loop-place-test.true

pub unreachable-requires : goal.unreachable-requires
unreachable-requires g c = omega (arith, c.in_default.ensures.cases, c.loop-place.invariant.2, c.loop-place-test.true)

pub unreachable-requires-in_default-pop : goal.unreachable-requires-in_default-pop
unreachable-requires-in_default-pop g c = omega (arith, c.in_default-pop.ensures.cases, c.loop-place.invariant.3, c.loop-place-test.true)

pub loop-place-preserved : goal.loop-place-preserved
loop-place-preserved g c =
    let P : SeatView g.row.J.Denot → Type 0 = λ s. s.queue ≡ c.args.queue.now.number in
    let was = c.loop-place.invariant in
    let popped = All-pop P c.loop-place.seats.items c.pop-in-loop-place.new.self.items (Some c.in-Some-pop.seat) c.in-Some-pop.ensures.items was.4 in (
      omega (arith, c.push_reserved.ensures.len, was.0),
      omega (arith, c.push_reserved.ensures.capacity, was.1),
      omega (arith, c.in-Some.ensures.len, was.2),
      omega (arith, c.in-Some-pop.ensures.len, was.3),
      popped.0,
    )

pub returns-in_default-start_client-clause-most : goal.returns-in_default-start_client-clause-most
returns-in_default-start_client-clause-most g c = omega (arith, c.loop-place.invariant.0, c.loop-place-test.true)

pub returns-clause-most : goal.returns-clause-most
returns-clause-most g c = omega (arith, c.loop-place.invariant.0, c.loop-place.auto.place-end)
