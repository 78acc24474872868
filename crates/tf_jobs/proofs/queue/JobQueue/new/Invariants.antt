use Rattle.std.proofs.Common.{◌≡◌, ◌+◌, ◌-◌, ◌<◌, ◌≤◌, [], vec_len, vec_capacity}
use Rattle.std.specs.List.{All}
use Rattle.crossbeam_queue.specs.Passes.{view, IsPassOf}
use Rattle.tf_jobs.specs.Rule.{known}
use Rattle.tf_jobs.proofs.queue.JobQueue.new.Given as goal

abbrev pub invariant-loop-at : goal.invariant-loop-at
invariant-loop-at g l =
    IsPassOf l.bench l.pass
    × (view l.pass ≡ known (l.seats + 1 - l._at) l.seats [] [])
    × (vec_len l.made + 1 ≡ l._at)
    × (l.seats ≤ vec_capacity l.made)
    × All (λ s. (s.queue ≡ l.bench.table.shared.table_id) × (s.seats ≡ l.seats) × (s.offered ≡ []) × (s.taken ≡ [])) l.made.items
