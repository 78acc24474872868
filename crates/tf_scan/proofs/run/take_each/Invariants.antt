use Rattle.std.proofs.Common.{length}
use Rattle.tf_scan.specs.Run.{WritesRows}
use Rattle.tf_scan.proofs.run.take_each.Given as goal

abbrev pub invariant-loop-to : goal.invariant-loop-to
invariant-loop-to g l = WritesRows l.direction l.turn.until l.from l.to l.initial.rows l.rows l.initial.out l.out

abbrev pub decreases-loop-to : goal.decreases-loop-to
decreases-loop-to g l = length l.rows
