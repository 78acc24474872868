use Rattle.tf_scan.specs.Node.{KeepsPart}
use Rattle.tf_scan.proofs.Moves.{HasMoved}
use Rattle.tf_scan.proofs.node.Node.take_each.Given as goal

abbrev pub invariant-loop-taken : goal.invariant-loop-taken
invariant-loop-taken g l = record {
  moved : HasMoved l.initial.self.left l.self.left l.taken l.initial.out l.out;
  kept : KeepsPart l.initial.self l.self;
}
