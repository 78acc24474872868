use Rattle.std.proofs.Common.{◌≡◌, ◌+◌, ◌≤◌, vec_capacity, vec_len}
use Rattle.std.specs.List.{All}
use Rattle.tf_crew.proofs.start.start_compactors.Given as goal

abbrev pub invariant-loop-place : goal.invariant-loop-place
invariant-loop-place g l =
    (vec_len l.threads ≡ l.place)
    × (2 ≤ vec_capacity l.threads)
    × (vec_len l.seats + l.place ≡ vec_len l.fn.seats)
    × All (λ s. s.queue ≡ l.queue.number) l.seats.items
