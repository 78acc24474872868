use Rattle.tf_btree.proofs.Words.{◌≡◌, ◌∷◌, ap, unboxed}
use Rattle.tf_btree.proofs.Steps.{first_low, first_leaf, no_leaves}
use Rattle.tf_btree.proofs.cursor.next_run.Goals as goal

pub run_at-requires-clause-rising : goal.run_at-requires-clause-rising
run_at-requires-clause-rising g c = c.requires.rising

pub run_at-requires-clause-member : goal.run_at-requires-clause-member
run_at-requires-clause-member g c = c.requires.member

pub returns-in-None-clause-none : goal.returns-in-None-clause-none
returns-in-None-clause-none g c = rw (no_leaves c.args.leaves.now c.in-None.ensures.cases) c.run_at.ensures.none

pub returns-in-None-clause-some : goal.returns-in-None-clause-some
returns-in-None-clause-some g c = rw (no_leaves c.args.leaves.now c.in-None.ensures.cases) c.run_at.ensures.some

pub returns-in-Some-clause-none : goal.returns-in-Some-clause-none
returns-in-Some-clause-none g c = tt

pub leaf_rows-requires : goal.leaf_rows-requires
leaf_rows-requires g c =
    let is : unboxed c.args.leaves.now ≡ c.in-Some.leaf.now.value ∷ unboxed c.in-Some.behind.now = ap unboxed c.in-Some.ensures.cases.0 in
    rw c.deref.ensures record { level = first_low _ _ _ is c.requires.filled }

pub returns-in-Some-clause-some : goal.returns-in-Some-clause-some
returns-in-Some-clause-some g c =
    let is : unboxed c.args.leaves.now ≡ c.in-Some.leaf.now.value ∷ unboxed c.in-Some.behind.now = ap unboxed c.in-Some.ensures.cases.0 in
    let leaf = rw c.deref.ensures at c.leaf_rows.ensures in
    first_leaf _ _ _ _ _ _ _ _ is c.requires.filled leaf.same leaf.all leaf.len c.requires.member
