use Rattle.std.proofs.Common.{◌≡◌, ◌+◌, ◌-◌, length}
use Rattle.tf_query.specs.Reading.{AreRead}
use Rattle.tf_query.proofs.timestamps.read_within.Given as goal

abbrev pub invariant-loop-count : goal.invariant-loop-count
invariant-loop-count g l = record {
  direction : l.scan.direction ≡ l.fn.scan.direction;
  read : AreRead l.fn.scan.direction l.window l.count 256 l.timestamps.items l.scan.left l.fn.scan.left;
}

abbrev pub decreases-loop-count : goal.decreases-loop-count
decreases-loop-count g l = (l.window.most - length l.timestamps.items) + l.count
