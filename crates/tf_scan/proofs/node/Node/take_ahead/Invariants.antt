use Rattle.std.proofs.Common.{length, ◌-◌}
use Rattle.tf_scan.specs.Node.{WritesPart}
use Rattle.tf_scan.proofs.node.Node.take_ahead.Given as goal

abbrev pub invariant-loop-to : goal.invariant-loop-to
invariant-loop-to g l = WritesPart l.until l.from l.to l.initial.self l.self l.initial.out l.out

abbrev pub decreases-loop-to : goal.decreases-loop-to
decreases-loop-to g l = length l.initial.out - l.to
