use Rattle.std.proofs.Common.{◌-◌, ◌<◌, length}
use Rattle.tf_table.proofs.fences.front.Given as goal

abbrev pub invariant-loop-many : goal.invariant-loop-many
invariant-loop-many l = 0 < l.many

abbrev pub decreases-loop-many : goal.decreases-loop-many
decreases-loop-many l = length l.ranks - l.many
