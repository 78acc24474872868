use Rattle.tf_btree.proofs.RunLemmas.{run_behind}
use Rattle.tf_btree.proofs.cursor.run_at.Goals as goal

pub returns-in-Some-root-clause-some : goal.returns-in-Some-root-clause-some
returns-in-Some-root-clause-some g c =
    let rising = rw c.in-Some-root.is at c.requires.rising in
    let member = rw (c.in-Some-root.is, c.in-Some.is) at c.requires.member in
    let facts = run_behind _ g.met.K.Ord.total _ _ _ _ _ _ c.run_from.ensures.all rising in
    rw (c.in-Some-root.is, c.in-Some.is) record { same = c.run_from.ensures.all.same; filled = c.run_from.ensures.all.filled; some = c.run_from.ensures.found member; all = facts.0; member = facts.1 }
