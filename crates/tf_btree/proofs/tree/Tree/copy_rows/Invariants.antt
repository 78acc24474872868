use Rattle.tf_btree.proofs.Words.{◌≡◌, ◌++◌, length}
use Rattle.tf_btree.proofs.tree.Tree.copy_rows.Given as goal

abbrev pub invariant-loop-key : goal.invariant-loop-key
invariant-loop-key g l = l.copy.items ++ l.rows ≡ l.fn.self

abbrev pub decreases-loop-key : goal.decreases-loop-key
decreases-loop-key g l = length l.rows
