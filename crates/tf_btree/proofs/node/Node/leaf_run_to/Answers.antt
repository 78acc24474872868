use Rattle.tf_btree.proofs.Words.{◌∙◌}
use Rattle.tf_btree.proofs.Entries.{same_kind}
use Rattle.tf_btree.proofs.Within.{leaf_to}
use Rattle.tf_btree.proofs.node.Node.leaf_run_to.Goals as goal

pub returns : goal.returns
returns g c =
    let leaf = same_kind c.self.view_is ∙ c.requires.leaf in
    let found = rw c.deref.ensures.value at c.count_within-at.ensures in
    rw (c.deref-2.ensures.value, c.deref-3.ensures.value) (leaf_to _ g.met.K.Ord.total _ _ _ _ _ _ c.self.invariant.0 c.self.view_is c.requires.rising _ found.within found.before found.after leaf)
