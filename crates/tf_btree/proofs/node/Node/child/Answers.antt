use Rattle.tf_btree.proofs.Entries.{child_at}
use Rattle.tf_btree.proofs.node.Node.child.Goals as goal

pub returns : goal.returns
returns g c = child_at _ _ _ _ _ _ _ _ c.requires.branch c.self.invariant.0 c.self.view_is c.requires.in_range c.index.ensures c.deref.ensures
