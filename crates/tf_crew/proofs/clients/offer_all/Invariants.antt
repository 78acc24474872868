use Rattle.std.proofs.Common.{◌≡◌}
use Rattle.tf_crew.proofs.clients.offer_all.Given as goal

abbrev pub invariant-loop-job : goal.invariant-loop-job
invariant-loop-job g l =
    (goal.iterator-loop-job g).can_next l.job-iterator
    × (goal.iterator-loop-job g).is_finite l.job-iterator
    × (l.seat.queue ≡ l.queue.number) × (l.seat.seats ≡ l.fn.seat.seats) × (l.seat.taken ≡ l.fn.seat.taken) × (l.fn.seat.queue ≡ l.queue.number)
