use Rattle.tf_btree.proofs.Words.{refl, ◌∙◌, ap, arith, rows}
use Rattle.tf_btree.proofs.Count.{tree_with}
use Rattle.tf_btree.proofs.Roots.{tree_kept}
use Rattle.tf_btree.proofs.tree.Tree.insert.Goals as goal

pub returns-then-is_none-clause-ok : goal.returns-then-is_none-clause-ok
returns-then-is_none-clause-ok g c = tt

pub returns-then-is_none-clause-value : goal.returns-then-is_none-clause-value
returns-then-is_none-clause-value g c = tt

pub returns-then-is_none-clause-err : goal.returns-then-is_none-clause-err
returns-then-is_none-clause-err g c = refl

pub returns-then-is_none-clause-returned : goal.returns-then-is_none-clause-returned
returns-then-is_none-clause-returned g c = refl

pub returns-in-None-with_row-clause-ok : goal.returns-in-None-with_row-clause-ok
returns-in-None-with_row-clause-ok g c = tt

pub returns-in-None-with_row-clause-value : goal.returns-in-None-with_row-clause-value
returns-in-None-with_row-clause-value g c = tt

pub returns-in-None-with_row-clause-err : goal.returns-in-None-with_row-clause-err
returns-in-None-with_row-clause-err g c = c.self.view_is

pub returns-in-None-with_row-clause-returned : goal.returns-in-None-with_row-clause-returned
returns-in-None-with_row-clause-returned g c = refl

pub returns-in-Err-clause-ok : goal.returns-in-Err-clause-ok
returns-in-Err-clause-ok g c = tt

pub returns-in-Err-clause-value : goal.returns-in-Err-clause-value
returns-in-Err-clause-value g c = tt

pub returns-in-Err-clause-err : goal.returns-in-Err-clause-err
returns-in-Err-clause-err g c = ap rows c.in-Err.ensures.kept ∙ (rw c.in-Some.is at c.self.view_is)

pub returns-in-Err-clause-absent : goal.returns-in-Err-clause-absent
returns-in-Err-clause-absent g c = rw (rw c.in-Some.is at c.self.view_is) at c.in-Err.ensures.rows.absent

pub returns-in-Err-clause-returned : goal.returns-in-Err-clause-returned
returns-in-Err-clause-returned g c = refl

pub returns-in-Some-with_row-clause-err : goal.returns-in-Some-with_row-clause-err
returns-in-Some-with_row-clause-err g c = tt

pub returns-in-Some-with_row-clause-absent : goal.returns-in-Some-with_row-clause-absent
returns-in-Some-with_row-clause-absent g c = tt

pub returns-in-Some-with_row-clause-returned : goal.returns-in-Some-with_row-clause-returned
returns-in-Some-with_row-clause-returned g c = tt

pub returns-after-is_none-2-clause-value : goal.returns-after-is_none-2-clause-value
returns-after-is_none-2-clause-value g c = rw (rw c.in-Some.is at c.self.view_is) at c.in-Ok.ensures.rows.value

pub returns-after-is_none-2-clause-err : goal.returns-after-is_none-2-clause-err
returns-after-is_none-2-clause-err g c = tt

pub returns-after-is_none-2-clause-absent : goal.returns-after-is_none-2-clause-absent
returns-after-is_none-2-clause-absent g c = tt

pub returns-after-is_none-2-clause-returned : goal.returns-after-is_none-2-clause-returned
returns-after-is_none-2-clause-returned g c = tt

pub insert_at_root-requires-clause-rising : goal.insert_at_root-requires-clause-rising
insert_at_root-requires-clause-rising g c = let tree = rw c.in-Some.is at c.self.invariant in tree.rising

pub insert_at_root-requires-clause-root : goal.insert_at_root-requires-clause-root
insert_at_root-requires-clause-root g c = let tree = rw c.in-Some.is at c.self.invariant in tree.shape

pub invariant_of-self : goal.invariant_of-self
invariant_of-self g c = c.self.invariant

pub invariant_of-self-in-Err : goal.invariant_of-self-in-Err
invariant_of-self-in-Err g c = tree_kept _ _ _ _ (rw c.in-Some.is at c.self.invariant) c.in-Err.ensures.kept

pub invariant_of-self-then-is_none-2 : goal.invariant_of-self-then-is_none-2
invariant_of-self-then-is_none-2 g c =
    tree_with _ g.met.K.Ord.total _ _ _ _ _ _ (rw c.in-Some.is at c.self.invariant) c.in-Ok.ensures.rows.all c.in-Ok.ensures.root (rw (← c.in-Ok.ensures.rows.value, c.is_none-in-Ok.ensures, c.if-is_none-2.true) refl)

pub invariant_of-self-else-is_none-2 : goal.invariant_of-self-else-is_none-2
invariant_of-self-else-is_none-2 g c =
    tree_with _ g.met.K.Ord.total _ _ _ _ _ _ (rw c.in-Some.is at c.self.invariant) c.in-Ok.ensures.rows.all c.in-Ok.ensures.root (rw (← c.in-Ok.ensures.rows.value, c.is_none-in-Ok.ensures, c.if-is_none-2.false) (omega arith))
