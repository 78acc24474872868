use Rattle.tf_btree.proofs.Words.{rules, IsSome, ◌∙◌, ap, subst, value_at}
use Rattle.tf_btree.proofs.Placed.{value_below}
use Rattle.tf_btree.proofs.RunLemmas.{branch_run, bottom_run}
use Rattle.tf_btree.proofs.node.Node.+run_from.Goals as goal

pub leaf_run-requires-then-is_leaf-2-clause-rising : goal.leaf_run-requires-then-is_leaf-2-clause-rising
leaf_run-requires-then-is_leaf-2-clause-rising g t c = c.child-child.ensures.rising g.K.Ord.cmp c.requires.rising

pub run_from-run-requires : goal.run_from-run-requires
run_from-run-requires g t c κs within = let rising = c.child-child.ensures.rising g.K.Ord.cmp c.requires.rising in search rules

pub returns-then-is_leaf-2-clause-all : goal.returns-then-is_leaf-2-clause-all
returns-then-is_leaf-2-clause-all g t c =
    bottom_run _ _ _ _ _ _ _ _ c.find_child-at.ensures c.child-child.ensures.entry c.leaf_run-then-is_leaf-2.ensures.all c.leaves_behind.ensures.all c.leaves_behind.ensures.filled

pub returns-then-is_leaf-2-clause-found : goal.returns-then-is_leaf-2-clause-found
returns-then-is_leaf-2-clause-found g t c = λ some.
    let same = value_below _ _ _ _ c.find_child-at.ensures ∙ ap (λ r. value_at g.K.Ord.cmp c.args.key.now r) c.child-child.ensures.entry in
    c.leaf_run-then-is_leaf-2.ensures.found (subst (λ o. IsSome o) same some)

pub returns-clause-all : goal.returns-clause-all
returns-clause-all g t c = rw c.or.ensures (branch_run _ _ _ _ _ _ _ _ _ _ c.find_child-at.ensures c.child-child.ensures.entry c.run_from-run.ensures.all c.key_behind-behind.ensures)

pub returns-clause-found : goal.returns-clause-found
returns-clause-found g t c = λ some.
    let same = value_below _ _ _ _ c.find_child-at.ensures ∙ ap (λ r. value_at g.K.Ord.cmp c.args.key.now r) c.child-child.ensures.entry in
    c.run_from-run.ensures.found (subst (λ o. IsSome o) same some)
