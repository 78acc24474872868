use Rattle.tf_btree.proofs.Words.{arith}
use Rattle.tf_btree.proofs.Height.{is_counted, is_tall, height_below}
use Rattle.tf_btree.proofs.node.Node.levels.Goals as goal

pub levels_below-requires-clause-fits : goal.levels_below-requires-clause-fits
levels_below-requires-clause-fits g c = omega (arith, height_below _ (is_tall _ _ _ _ _ c.self.invariant.0 c.self.view_is c.requires.root), c.requires.fits)

pub overflow_add-result : goal.overflow_add-result
overflow_add-result g c = omega (arith, height_below _ (is_tall _ _ _ _ _ c.self.invariant.0 c.self.view_is c.requires.root), c.requires.fits)

pub returns-clause-least : goal.returns-clause-least
returns-clause-least g c = is_tall _ _ _ _ _ c.self.invariant.0 c.self.view_is c.requires.root

pub returns-clause-most : goal.returns-clause-most
returns-clause-most g c = (is_counted _ _ _ _ _ c.self.invariant.0 c.self.invariant.1.entries_fit c.self.view_is).most
