use Rattle.std.proofs.Common.{◌≡◌, arith}
use Rattle.std.proofs.lemmas.List.Elements.{All-pop}
use Rattle.std.specs.Prelude.{Some}
use Rattle.tf_jobs.specs.Jobs.{SeatView}
use Rattle.tf_crew.proofs.start.start_compactors.Goals as goal

pub unreachable-requires : goal.unreachable-requires
unreachable-requires g c = omega (arith, c.in_default.ensures.cases, c.loop-place.invariant.2, c.requires.many, c.loop-place-test.true)

pub loop-place-preserved : goal.loop-place-preserved
loop-place-preserved g c =
    let P : SeatView g.row.J.Denot → Type 0 = λ s. s.queue ≡ c.args.queue.now.number in
    let was = c.loop-place.invariant in
    let popped = All-pop P c.loop-place.seats.items c.pop.new.self.items (Some c.in-Some.seat) c.in-Some.ensures.items was.3 in (
      omega (arith, c.push_reserved.ensures.len, was.0),
      omega (arith, c.push_reserved.ensures.capacity, was.1),
      omega (arith, c.in-Some.ensures.len, was.2),
      popped.0,
    )

pub returns-in_default-start_compactor-clause-seats : goal.returns-in_default-start_compactor-clause-seats
returns-in_default-start_compactor-clause-seats g c =
    let P : SeatView g.row.J.Denot → Type 0 = λ s. s.queue ≡ c.args.queue.now.number in
    (All-pop P c.loop-place.seats.items c.pop.new.self.items (Some c.in-Some.seat) c.in-Some.ensures.items c.loop-place.invariant.3).0
