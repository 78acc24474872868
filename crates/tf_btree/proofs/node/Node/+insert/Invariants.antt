use Rattle.tf_btree.proofs.node.Node.+insert.Given as goal

abbrev pub decreases-insert : goal.decreases-insert
decreases-insert g l = goal.size-insert g l
