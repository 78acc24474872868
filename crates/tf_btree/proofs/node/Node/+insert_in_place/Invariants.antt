use Rattle.tf_btree.proofs.node.Node.+insert_in_place.Given as goal

abbrev pub decreases-insert_in_place : goal.decreases-insert_in_place
decreases-insert_in_place g l = goal.size-insert_in_place g l
