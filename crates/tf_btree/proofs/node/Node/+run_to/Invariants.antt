use Rattle.tf_btree.proofs.node.Node.+run_to.Given as goal

abbrev pub decreases-run_to : goal.decreases-run_to
decreases-run_to g l = goal.size-run_to g l
