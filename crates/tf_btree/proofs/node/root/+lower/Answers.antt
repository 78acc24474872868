use Rattle.tf_btree.proofs.Words.{refl, sym, ◌∙◌}
use Rattle.tf_btree.proofs.Roots.{only_child}
use Rattle.tf_btree.proofs.node.root.+lower.Goals as goal

pub remove_child-child-requires-clause-branch : goal.remove_child-child-requires-clause-branch
remove_child-child-requires-clause-branch g t c = rw (c.deref_mut.ensures.value, ← c.deref.ensures) (sym c.is_branch.ensures ∙ c.if-is_branch.true)

pub remove_child-child-requires-clause-in_bounds : goal.remove_child-child-requires-clause-in_bounds
remove_child-child-requires-clause-in_bounds g t c = rw c.deref_mut.ensures.value c.requires.some

pub returns-then-len-eq1-clause-all : goal.returns-then-len-eq1-clause-all
returns-then-len-eq1-clause-all g t c = c.lower.ensures.all ∙ (rw c.deref_mut.ensures.value at (only_child c.deref_mut.result.now c.remove_child-child.result.value c.remove_child-child.ensures.taken (rw (c.deref_mut.ensures.value, ← c.deref-then-is_branch.ensures) (sym c.len.ensures.value ∙ c.if-len-eq1.true))))

pub returns-then-len-eq1-clause-root : goal.returns-then-len-eq1-clause-root
returns-then-len-eq1-clause-root g t c = c.lower.ensures.root

pub returns-else-is_branch-clause-all : goal.returns-else-is_branch-clause-all
returns-else-is_branch-clause-all g t c = refl
