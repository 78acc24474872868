use Rattle.tf_btree.proofs.Within.{last_child}
use Rattle.tf_btree.proofs.node.Node.find_last_child.Goals as goal

pub returns : goal.returns
returns g c =
    let found = rw c.deref.ensures.value at c.count_within.ensures in
    rw c.saturating_sub.ensures (last_child _ g.met.K.Ord.total _ _ _ _ _ _ c.self.invariant.0 c.self.view_is c.requires.rising _ found.within found.before found.after c.requires.some)
