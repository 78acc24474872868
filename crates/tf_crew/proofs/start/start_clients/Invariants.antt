use Rattle.std.proofs.Common.{◌≡◌, ◌+◌, ◌≤◌, length, vec_capacity, vec_len}
use Rattle.std.specs.List.{All}
use Rattle.tf_crew.proofs.start.start_clients.Given as goal

abbrev pub invariant-loop-place : goal.invariant-loop-place
invariant-loop-place g l =
    (vec_len l.threads ≡ l.place)
    × (length l.scripts ≤ vec_capacity l.threads)
    × (vec_len l.shares + l.place ≡ length l.scripts)
    × (vec_len l.seats + l.place ≡ length l.scripts)
    × All (λ s. s.queue ≡ l.queue.number) l.seats.items
