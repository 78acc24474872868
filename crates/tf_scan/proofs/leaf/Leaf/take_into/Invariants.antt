use Rattle.std.proofs.Common.{◌≡◌}
use Rattle.tf_scan.proofs.Moves.{HasMoved}
use Rattle.tf_scan.proofs.leaf.Leaf.take_into.Given as goal

abbrev pub invariant-loop-taken : goal.invariant-loop-taken
invariant-loop-taken g l = record {
  moved : HasMoved (g.Self.Leaf.left l.initial.self) (g.Self.Leaf.left l.self) l.taken l.initial.out l.out;
  direction : g.Self.Leaf.direction l.self ≡ g.Self.Leaf.direction l.initial.self;
}
