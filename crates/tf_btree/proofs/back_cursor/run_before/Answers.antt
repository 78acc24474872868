use Rattle.tf_btree.proofs.Words.{◌≡◌, [], ◌∷◌, ◌++◌, ap, ◌∙◌, append-nil, map-append, unbox, unboxed, rows_at, rows_before}
use Rattle.tf_btree.proofs.Within.{last_low, last_leaf}
use Rattle.tf_btree.proofs.Steps.{no_leaves}
use Rattle.tf_btree.proofs.back_cursor.run_before.Goals as goal

pub run_up_to-requires-clause-rising : goal.run_up_to-requires-clause-rising
run_up_to-requires-clause-rising g c = c.requires.rising

pub run_up_to-requires-clause-more : goal.run_up_to-requires-clause-more
run_up_to-requires-clause-more g c = c.requires.more

pub returns-in-None-clause-none : goal.returns-in-None-clause-none
returns-in-None-clause-none g c = rw (no_leaves c.args.leaves.now c.in-None.ensures.cases, append-nil (rows_before g.K.Ord.cmp c.args.before (rows_at c.args.root))) c.run_up_to.ensures.none

pub returns-in-None-clause-some : goal.returns-in-None-clause-some
returns-in-None-clause-some g c = rw (no_leaves c.args.leaves.now c.in-None.ensures.cases) c.run_up_to.ensures.some

pub returns-in-Some-clause-none : goal.returns-in-Some-clause-none
returns-in-Some-clause-none g c = tt

pub leaf_rows-requires : goal.leaf_rows-requires
leaf_rows-requires g c =
    let is : unboxed c.args.leaves.now ≡ unboxed c.in-Some.earlier.now ++ c.in-Some.leaf.now.value ∷ [] = ap unboxed c.in-Some.ensures.cases.0 ∙ map-append unbox c.in-Some.earlier.now (c.in-Some.leaf.now ∷ []) in
    rw c.deref.ensures record { level = last_low _ _ _ is c.requires.filled }

pub returns-in-Some-clause-some : goal.returns-in-Some-clause-some
returns-in-Some-clause-some g c =
    let is : unboxed c.args.leaves.now ≡ unboxed c.in-Some.earlier.now ++ c.in-Some.leaf.now.value ∷ [] = ap unboxed c.in-Some.ensures.cases.0 ∙ map-append unbox c.in-Some.earlier.now (c.in-Some.leaf.now ∷ []) in
    let leaf = rw c.deref.ensures at c.leaf_rows.ensures in
    last_leaf _ _ _ _ _ _ _ _ is c.requires.filled leaf.same leaf.all leaf.len c.requires.more
