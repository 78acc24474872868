use Rattle.std.proofs.Common.{◌≡◌, ◌+◌, ◌-◌, ◌^◌, min, length, vec_len, subst, sym, ap, ◌∙◌, arith, rules}
use Rattle.std.proofs.lemmas.List.Elements.{All-pop, All-weaker}
use Rattle.std.specs.List.{All}
use Rattle.std.specs.Prelude.{Some}
use Rattle.crossbeam_queue.specs.Passes.{view}
use Rattle.tf_jobs.specs.Jobs.{QueueView, SeatView}
use Rattle.tf_jobs.specs.Reckon.{IsSoFar}
use Rattle.tf_jobs.proofs.Rules.{merges, reckons}
use Rattle.tf_jobs.proofs.Reckoned.{first_seat, next_seat, all_seats}
use Rattle.tf_jobs.proofs.reckoning.reckon.Goals as goal

pub loop-seat-init : goal.loop-seat-init
loop-seat-init g c =
    let P : SeatView g.row.T.Denot → Type 0 = λ s. (s.queue ≡ c.args.queue.number) × (s.seats ≡ vec_len c.args.seats) in
    let Q : SeatView g.row.T.Denot → Type 0 = λ s. (s.queue ≡ c.queue.inside.bench.table.shared.table_id) × (s.seats ≡ vec_len c.args.seats) in
    let popped = All-pop P c.args.seats.items c.pop.new.self.items (Some c.in-Some.last) c.in-Some.ensures.items c.requires.all in
    let is = c.last.view_is in
    let here : c.queue.inside.bench.table.shared.table_id ≡ c.args.queue.number = ap (λ (q : QueueView). q.number) c.queue.view_is in
    let whole : (view c.last.inside.pass).whole ≡ vec_len c.args.seats = ap (λ (s : SeatView g.row.T.Denot). s.seats) is ∙ popped.1.1 in
    let len = c.args.seats.ok.0 in (
      (ap (λ (s : SeatView g.row.T.Denot). s.queue) is ∙ popped.1.0 ∙ sym here, c.last.invariant.0),
      All-weaker P Q (λ s p. (p.0 ∙ sym here, p.1)) c.pop.new.self.items popped.0,
      first_seat c.args.seats.items c.pop.new.self.items c.in-Some.last (view c.last.inside.pass) c.last.inside.offered c.last.inside.taken
          c.in-Some.ensures.items c.last.invariant.1 (omega (arith, whole, len))
          (sym (ap (λ (s : SeatView g.row.T.Denot). s.offered) is)) (sym (ap (λ (s : SeatView g.row.T.Denot). s.taken) is))
          c.last.invariant.2 c.last.invariant.3,
    )

pub absorb-requires-clause-rule : goal.absorb-requires-clause-rule
absorb-requires-clause-rule g c = merges _ _ _ _ c.loop-seat.invariant.2.some

pub loop-seat-preserved : goal.loop-seat-preserved
loop-seat-preserved g c =
    let Q : SeatView g.row.T.Denot → Type 0 = λ s. (s.queue ≡ c.queue.inside.bench.table.shared.table_id) × (s.seats ≡ vec_len c.args.seats) in
    let was = c.loop-seat.invariant in
    let popped = All-pop Q c.loop-seat.seats.items c.pop-in-loop-seat.new.self.items (Some c.in-Some-pop.seat) c.in-Some-pop.ensures.items was.1 in
    let same = c.absorb.ensures.queue in
    let is = c.seat.view_is in (
      (same.0 ∙ was.0.0, same.2 ∙ was.0.1),
      popped.0,
      subst (λ v. IsSoFar c.args.seats.items c.pop-in-loop-seat.new.self.items v c.saturating_add-offered.result c.saturating_add-taken.result) (sym c.absorb.ensures.rule)
          (next_seat c.args.seats.items c.loop-seat.seats.items c.pop-in-loop-seat.new.self.items c.in-Some-pop.seat (view c.loop-seat.pass) (view c.seat.inside.pass)
          c.loop-seat.offered c.loop-seat.taken c.seat.inside.offered c.seat.inside.taken c.saturating_add-offered.result c.saturating_add-taken.result
          c.in-Some-pop.ensures.items was.2 c.seat.invariant.1
          (sym (ap (λ (s : SeatView g.row.T.Denot). s.offered) is)) (sym (ap (λ (s : SeatView g.row.T.Denot). s.taken) is))
          c.seat.invariant.2 c.seat.invariant.3 (search rules) (search rules)),
    )

pub len_as-left-requires-clause-rule : goal.len_as-left-requires-clause-rule
len_as-left-requires-clause-rule g c =
    let far = c.loop-seat.invariant.2 in
    let none = c.in_default-pop.ensures.items in
    reckons _ _ far.some (search rules)
