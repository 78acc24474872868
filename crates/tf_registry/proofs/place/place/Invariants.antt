use Rattle.std.proofs.Common.{ℕ, ◌<◌}
use Rattle.tf_registry.specs.Run.{StandsAt}
use Rattle.tf_registry.proofs.place.place.Given as goal

abbrev pub invariant-loop-at : goal.invariant-loop-at
invariant-loop-at g l = (k : ℕ) → k < l.at → StandsAt l.references k l.newer l.older l.level → ⊥
