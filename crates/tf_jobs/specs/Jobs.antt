-- What contracts see of a queue of jobs and of its seats, and what holds of all of them.
use Rattle.std.specs.Prelude.{◌≡◌, ℕ, ◌+◌, ◌-◌, ◌^◌, List, min, flat_map, sum_by}
use Rattle.atomic_table.specs.Seated.{TableId}
use Rattle.crossbeam_queue.specs.Fifo.{Held}
use Rattle.tf_jobs.specs.Rule.{IsAllowed}

-- which queue it is, and how many jobs it can hold
pub record QueueView : Type 0 where
  pub number : TableId
  pub capacity : ℕ

-- the queue that a seat is of, how many seats that has, and the jobs that were offered and taken by the seat
pub record SeatView (T : Type 0) : Type 0 where
  pub queue : TableId
  pub seats : ℕ
  pub offered : List T
  pub taken : List T

-- each job was taken or is left, together as often as it was offered, and no other was taken: however jobs are weighed. With the
-- weight that is 1 of one job and 0 of every other this is "as often"
abbrev pub IsBalanced : {T : Type 0} → List T → List T → List T → Type 0
IsBalanced {T} offered taken left = (weight : T → ℕ) → sum_by weight offered ≡ sum_by weight taken + sum_by weight left

-- what seats offered, one seat after another
abbrev pub all_offered : {T : Type 0} → List (SeatView T) → List T
all_offered seats = flat_map (λ seat. seat.offered) seats

-- what seats took, one seat after another
abbrev pub all_taken : {T : Type 0} → List (SeatView T) → List T
all_taken seats = flat_map (λ seat. seat.taken) seats

-- a count, or the greatest that a number of 64 bits tells
abbrev pub capped : ℕ → ℕ
capped n = min n (2 ^ 64 - 1)

-- at one moment of the call the queue held so many jobs, which the rule allows that it holds
abbrev pub HeldJobs : Type 0 → ℕ → Type 0
HeldJobs T n = Held {T = T} n IsAllowed
