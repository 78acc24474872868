use Rattle.tf_btree.proofs.Words.{refl, sym, ◌∙◌, fill_of}
use Rattle.tf_btree.proofs.Roots.{under_root, edge_less, some_left, none_left}
use Rattle.tf_btree.proofs.node.root.remove_at_root.Goals as goal

pub returns-in_default-clause-all : goal.returns-in_default-clause-all
returns-in_default-clause-all g c = rw c.in_default.is refl

pub returns-in_default-clause-value : goal.returns-in_default-clause-value
returns-in_default-clause-value g c = rw c.in_default.is refl

pub returns-in_default-clause-root : goal.returns-in_default-clause-root
returns-in_default-clause-root g c = rw c.in_default.is tt

pub remove-removed-requires-clause-rising : goal.remove-removed-requires-clause-rising
remove-removed-requires-clause-rising g c = rw c.deref_mut.ensures.value (rw c.in-Some.is at c.requires.rising)

pub remove-removed-requires-clause-some : goal.remove-removed-requires-clause-some
remove-removed-requires-clause-some g c = rw c.deref_mut.ensures.value (under_root c.args.root.now c.in-Some.top c.in-Some.is c.requires.root).some

pub lower-requires-clause-some : goal.lower-requires-clause-some
lower-requires-clause-some g c = some_left c.len.result c.deref.result.now c.remove-removed.new.self c.len.ensures.value c.deref.ensures c.if-len-eq0.false

pub lower-requires-clause-filled : goal.lower-requires-clause-filled
lower-requires-clause-filled g c = edge_less (fill_of c.remove-removed.new.self) (c.remove-removed.ensures.filled _ (rw c.deref_mut.ensures.value (under_root c.args.root.now c.in-Some.top c.in-Some.is c.requires.root).filled))

pub returns-then-len-eq0-clause-all : goal.returns-then-len-eq0-clause-all
returns-then-len-eq0-clause-all g c = rw c.in-Some.is (sym (none_left c.len.result c.deref.result.now c.remove-removed.new.self c.len.ensures.value c.deref.ensures c.if-len-eq0.true) ∙ (rw c.deref_mut.ensures.value at c.remove-removed.ensures.rows))

pub returns-then-len-eq0-clause-value : goal.returns-then-len-eq0-clause-value
returns-then-len-eq0-clause-value g c = rw c.in-Some.is (rw c.deref_mut.ensures.value at c.remove-removed.ensures.value)

pub returns-then-len-eq0-clause-root : goal.returns-then-len-eq0-clause-root
returns-then-len-eq0-clause-root g c = tt

pub returns-else-len-eq0-clause-all : goal.returns-else-len-eq0-clause-all
returns-else-len-eq0-clause-all g c = rw c.in-Some.is (c.lower.ensures.all ∙ (rw c.deref_mut.ensures.value at c.remove-removed.ensures.rows))

pub returns-else-len-eq0-clause-value : goal.returns-else-len-eq0-clause-value
returns-else-len-eq0-clause-value g c = rw c.in-Some.is (rw c.deref_mut.ensures.value at c.remove-removed.ensures.value)

pub returns-else-len-eq0-clause-root : goal.returns-else-len-eq0-clause-root
returns-else-len-eq0-clause-root g c = c.lower.ensures.root
