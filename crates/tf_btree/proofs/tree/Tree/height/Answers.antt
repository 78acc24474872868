use Rattle.tf_btree.proofs.Words.{length, ap, arith, rows_under}
use Rattle.tf_btree.proofs.tree.Tree.height.Goals as goal

pub levels-requires-clause-fits : goal.levels-requires-clause-fits
levels-requires-clause-fits g c =
    let many = ap length c.self.view_is in
    let here = ap (λ r. length (rows_under r)) c.in-Some.is in
    rw c.deref.ensures (omega (arith, many, here, c.len.ensures.value, c.len.type_inv))
