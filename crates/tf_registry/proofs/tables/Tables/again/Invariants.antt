use Rattle.std.proofs.Common.{◌≡◌, ◌≤◌, length, take}
use Rattle.std.specs.Vec.{vec_capacity}
use Rattle.tf_registry.proofs.tables.Tables.again.Given as goal

abbrev pub invariant-loop-at : goal.invariant-loop-at
invariant-loop-at g l =
    (l.references.items ≡ take l.at l.self-inside.references.items)
    × (length l.references.items ≡ l.at)
    × (64 ≤ vec_capacity l.references)
