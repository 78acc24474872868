-- What a part of a scan shows.
use Rattle.std.specs.Prelude.{ℕ, List}
use Rattle.tf_scan.specs.declared.direction.Direction.{Direction}

-- its direction, the timestamps that are still to come, and how many joins lie over its lowest leaf at most
pub record Part : Type 0 where
  pub direction : Direction
  pub left : List ℕ
  pub height : ℕ
