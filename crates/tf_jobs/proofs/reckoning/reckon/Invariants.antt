use Rattle.std.proofs.Common.{◌≡◌, vec_len}
use Rattle.std.specs.List.{All}
use Rattle.crossbeam_queue.specs.Passes.{view, IsPassOf}
use Rattle.tf_jobs.specs.Reckon.{IsSoFar}
use Rattle.tf_jobs.proofs.reckoning.reckon.Given as goal

abbrev pub invariant-loop-seat : goal.invariant-loop-seat
invariant-loop-seat g l =
    IsPassOf l.queue-inside.bench l.pass
    × All (λ s. (s.queue ≡ l.queue-inside.bench.table.shared.table_id) × (s.seats ≡ vec_len l.fn.seats)) l.seats.items
    × IsSoFar l.fn.seats.items l.seats.items (view l.pass) l.offered l.taken

abbrev pub decreases-loop-seat : goal.decreases-loop-seat
decreases-loop-seat g l = goal.left-loop-seat g l
