use Rattle.tf_btree.proofs.Placed.{node_child}
use Rattle.tf_btree.proofs.node.Node.find_child.Goals as goal

pub returns : goal.returns
returns g c =
    let found = rw c.deref.ensures.value at c.count_upto.ensures in
    rw c.saturating_sub.ensures (node_child _ g.met.K.Ord.total _ _ _ _ _ _ c.self.invariant.0 c.self.view_is c.requires.rising _ c.requires.some found.within found.before found.after)
