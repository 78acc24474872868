use Rattle.std.proofs.Common.{◌≡◌, ◌+◌, ◌≤◌, length}
use Rattle.tf_crew.proofs.compactors.compactor_by.Given as goal

abbrev pub invariant-loop-turn : goal.invariant-loop-turn
invariant-loop-turn g l =
    (goal.iterator-loop-turn g).can_next l._turn-iterator
    × (goal.iterator-loop-turn g).is_finite l._turn-iterator
    × (l.seat.queue ≡ l.queue.number) × (l.seat.queue ≡ l.fn.seat.queue) × (l.seat.seats ≡ l.fn.seat.seats) × (l.seat.offered ≡ l.fn.seat.offered)
    × (l.installed + length l.fn.seat.taken ≤ length l.seat.taken)
