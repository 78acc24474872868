-- What was added up so far of all seats.
use Rattle.std.specs.Prelude.{◌≡◌, ℕ, ◌+◌, ◌<◌, List, length, sum_by}
use Rattle.tf_jobs.specs.declared.known.Known.{Known}
use Rattle.tf_jobs.specs.Jobs.{SeatView, all_offered, all_taken, capped}

pub record IsSoFar {T : Type 0} (all rest : List (SeatView T)) (v : Known T) (offers takes : ℕ) : Type 0 where
  pub some : 0 < v.parts
  pub parts : v.parts + length rest ≡ length all
  pub whole : v.whole ≡ length all
  pub put : (h : T → ℕ) → sum_by h v.offered + sum_by h (all_offered rest) ≡ sum_by h (all_offered all)
  pub taken : (h : T → ℕ) → sum_by h v.taken + sum_by h (all_taken rest) ≡ sum_by h (all_taken all)
  pub put_count : length v.offered + length (all_offered rest) ≡ length (all_offered all)
  pub taken_count : length v.taken + length (all_taken rest) ≡ length (all_taken all)
  pub offers_is : offers ≡ capped (length v.offered)
  pub takes_is : takes ≡ capped (length v.taken)
