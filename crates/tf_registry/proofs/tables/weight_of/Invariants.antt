use Rattle.std.proofs.Common.{◌≡◌, ◌+◌, drop}
use Rattle.tf_registry.specs.Row.{weight}
use Rattle.tf_registry.proofs.tables.weight_of.Given as goal

abbrev pub invariant-loop-reference : goal.invariant-loop-reference
invariant-loop-reference g l = l.sum + weight (drop l.reference-index l.references) ≡ weight l.references
