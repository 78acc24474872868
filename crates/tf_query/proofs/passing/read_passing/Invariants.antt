use Rattle.std.proofs.Common.{◌≡◌, ◌+◌, ◌≤◌, length}
use Rattle.std.specs.Prelude.{vec_capacity}
use Rattle.tf_query.specs.Reading.{all_within}
use Rattle.tf_query.specs.Residual.{AreTested}
use Rattle.tf_query.proofs.passing.read_passing.Given as goal

abbrev pub invariant-loop-count : goal.invariant-loop-count
invariant-loop-count g l = record {
  direction : l.scan.direction ≡ l.fn.scan.direction;
  tested : AreTested l.manifest l.residual l.fn.scan.direction l.window l.count l.asked l.rows.items l.scan.left l.fn.scan.left;
  room : vec_capacity l.rows ≤ l.window.most;
  enough : l.count ≡ l.asked → vec_capacity l.rows ≡ l.window.most;
}

abbrev pub decreases-loop-count : goal.decreases-loop-count
decreases-loop-count g l = length (all_within l.window l.scan.left) + l.count
