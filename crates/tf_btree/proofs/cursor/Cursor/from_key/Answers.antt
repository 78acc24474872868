use Rattle.tf_btree.proofs.Words.{arith, sym}
use Rattle.tf_btree.proofs.RunLemmas.{run_behind}
use Rattle.tf_btree.proofs.cursor.Cursor.from_key.Goals as goal

pub invariant_of-result : goal.invariant_of-result
invariant_of-result g c =
    let rising = rw c.in-Some.is at c.requires.rising in
    let facts = run_behind _ g.met.K.Ord.total _ _ _ _ _ _ c.run_from-run.ensures.all rising in
    rw c.in-Some.is record { same = c.run_from-run.ensures.all.same; within = omega arith; filled = c.run_from-run.ensures.all.filled; rising = rising; member = facts.1 }

pub returns-in-Some : goal.returns-in-Some
returns-in-Some g c =
    let rising = rw c.in-Some.is at c.requires.rising in
    let facts = run_behind _ g.met.K.Ord.total _ _ _ _ _ _ c.run_from-run.ensures.all rising in
    rw c.in-Some.is (sym facts.0)
