use Rattle.std.proofs.Common.{length, ◌-◌}
use Rattle.tf_scan.specs.Sets.{union_of}
use Rattle.tf_scan.specs.Node.{KeepsPart}
use Rattle.tf_scan.proofs.Moves.{HasMoved}
use Rattle.tf_scan.proofs.node.taking.take_union.Given as goal

abbrev pub invariant-loop-taken : goal.invariant-loop-taken
invariant-loop-taken g l = record {
  left : KeepsPart l.initial.left l.left;
  right : KeepsPart l.initial.right l.right;
  moved : HasMoved (union_of l.direction l.initial.left.left l.initial.right.left) (union_of l.direction l.left.left l.right.left) l.taken l.initial.out l.out;
}

abbrev pub decreases-loop-taken : goal.decreases-loop-taken
decreases-loop-taken g l = length l.initial.out - l.taken
