use Rattle.tf_btree.proofs.Words.{◌∙◌, append-nil}
use Rattle.tf_btree.proofs.Within.{run_facts}
use Rattle.tf_btree.proofs.back_cursor.run_up_to.Goals as goal

pub returns-in-Some-root-clause-some : goal.returns-in-Some-root-clause-some
returns-in-Some-root-clause-some g c =
    let rising = rw c.in-Some-root.is at c.requires.rising in
    let more = rw (c.in-Some-root.is, c.in-Some.is) at c.requires.more in
    let facts = run_facts _ g.met.K.Ord.total _ _ _ _ _ _ c.run_to.ensures rising in
    rw (c.in-Some-root.is, c.in-Some.is) record { same = c.run_to.ensures.same; filled = c.run_to.ensures.filled; some = c.run_to.ensures.some more; all = append-nil _ ∙ facts.0; more = facts.1 }
