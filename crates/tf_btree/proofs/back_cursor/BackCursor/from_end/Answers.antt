use Rattle.tf_btree.proofs.Words.{arith, sym, ◌∙◌, ap, reverse}
use Rattle.tf_btree.proofs.Within.{run_facts, whole_run}
use Rattle.tf_btree.proofs.back_cursor.BackCursor.from_end.Goals as goal

pub invariant_of-result : goal.invariant_of-result
invariant_of-result g c =
    let rising = rw c.in-Some.is at c.requires.rising in
    let facts = run_facts _ g.met.K.Ord.total _ _ _ _ _ _ c.run_to-run.ensures rising in
    rw c.in-Some.is record { same = c.run_to-run.ensures.same; within = omega arith; filled = c.run_to-run.ensures.filled; rising = rising; more = facts.1 }

pub returns-in-Some : goal.returns-in-Some
returns-in-Some g c =
    let rising = rw c.in-Some.is at c.requires.rising in
    let facts = run_facts _ g.met.K.Ord.total _ _ _ _ _ _ c.run_to-run.ensures rising in
    rw c.in-Some.is (ap reverse (whole_run _ _ _ _ c.run_to-run.ensures.same ∙ sym facts.0))
