use Rattle.tf_btree.proofs.Words.{◌≡◌, ◌+◌, ◌≤◌, ◌++◌, length, vec_capacity}
use Rattle.tf_btree.proofs.node.runs.move_tail.Given as goal

abbrev pub invariant-loop-from : goal.invariant-loop-from
invariant-loop-from g l =
    (l.from.items ++ l.to.items ≡ l.initial.from.items) × (l.at ≤ length l.from.items) × (length l.initial.from.items ≤ vec_capacity l.to + l.at)
    × (vec_capacity l.from ≡ vec_capacity l.initial.from) × (vec_capacity l.initial.to ≤ vec_capacity l.to)

abbrev pub decreases-loop-from : goal.decreases-loop-from
decreases-loop-from g l = length l.from.items
