use Rattle.tf_btree.proofs.Words.{rules}
use Rattle.tf_btree.proofs.Within.{branch_run_to, bottom_run_to}
use Rattle.tf_btree.proofs.node.Node.+run_to.Goals as goal

pub leaf_run_to-requires-then-is_leaf-2-clause-rising : goal.leaf_run_to-requires-then-is_leaf-2-clause-rising
leaf_run_to-requires-then-is_leaf-2-clause-rising g t c = c.child-child.ensures.rising g.K.Ord.cmp c.requires.rising

pub run_to-run-requires : goal.run_to-run-requires
run_to-run-requires g t c κs within = let rising = c.child-child.ensures.rising g.K.Ord.cmp c.requires.rising in search rules

pub returns-then-is_leaf-2 : goal.returns-then-is_leaf-2
returns-then-is_leaf-2 g t c =
    bottom_run_to _ _ _ _ _ _ _ _ c.find_last_child-at.ensures c.child-child.ensures.entry c.leaf_run_to-then-is_leaf-2.ensures c.leaves_before.ensures.all c.leaves_before.ensures.filled

pub returns : goal.returns
returns g t c = rw c.or.ensures (branch_run_to _ _ _ _ _ _ _ _ _ _ c.find_last_child-at.ensures c.child-child.ensures.entry c.run_to-run.ensures c.cut_key-own.ensures)
