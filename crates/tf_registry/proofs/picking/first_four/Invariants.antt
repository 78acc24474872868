use Rattle.tf_registry.specs.Run.{NoFourBefore}
use Rattle.tf_registry.proofs.picking.first_four.Given as goal

abbrev pub invariant-loop-place : goal.invariant-loop-place
invariant-loop-place g l = NoFourBefore l.references l.place
