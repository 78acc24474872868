use Rattle.tf_btree.proofs.Height.{is_counted}
use Rattle.tf_btree.proofs.node.Node.first.Goals as goal

pub returns-clause-counted : goal.returns-clause-counted
returns-clause-counted g c = is_counted _ _ _ _ _ c.self.invariant.0 c.self.invariant.1.entries_fit c.self.view_is
