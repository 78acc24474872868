-- What contracts see of a scan.
use Rattle.std.specs.Prelude.{ℕ, List}
use Rattle.tf_scan.specs.declared.direction.Direction.{Direction}

-- a direction, and the timestamps that are still to come
pub record Sequence : Type 0 where
  pub direction : Direction
  pub left : List ℕ
