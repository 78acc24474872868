use Rattle.tf_btree.proofs.node.Node.+run_from.Given as goal

abbrev pub decreases-run_from : goal.decreases-run_from
decreases-run_from g l = goal.size-run_from g l
