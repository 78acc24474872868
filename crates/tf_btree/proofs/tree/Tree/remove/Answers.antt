use Rattle.tf_btree.proofs.Words.{sym, ◌∙◌, arith}
use Rattle.tf_btree.proofs.Count.{counted_row, tree_without}
use Rattle.tf_btree.proofs.tree.Tree.remove.Goals as goal

pub invariant_of-self : goal.invariant_of-self
invariant_of-self g c =
    let old = c.remove_at_root-removed.ensures in
    tree_without _ g.met.K.Ord.total _ _ _ _ _ c.self.invariant old.all old.root (counted_row _ g.met.K.Ord.total _ _ _ _ c.self.invariant old.value (sym c.is_some.ensures ∙ c.if-is_some.true))

pub invariant_of-self-else-is_some : goal.invariant_of-self-else-is_some
invariant_of-self-else-is_some g c =
    let old = c.remove_at_root-removed.ensures in
    tree_without _ g.met.K.Ord.total _ _ _ _ _ c.self.invariant old.all old.root (rw (← old.value, ← c.is_some.ensures, c.if-is_some.false) (omega arith))
