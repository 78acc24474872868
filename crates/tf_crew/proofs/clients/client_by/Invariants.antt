use Rattle.std.proofs.Common.{◌≡◌}
use Rattle.tf_crew.proofs.clients.client_by.Given as goal

abbrev pub invariant-loop-piece : goal.invariant-loop-piece
invariant-loop-piece g l = (l.seat.queue ≡ l.queue.number) × (l.seat.queue ≡ l.fn.seat.queue) × (l.seat.seats ≡ l.fn.seat.seats) × (l.seat.taken ≡ l.fn.seat.taken)
