use Rattle.tf_btree.proofs.Words.{arith}
use Rattle.tf_btree.proofs.Entries.{length-seen}
use Rattle.tf_btree.proofs.Within.{cut_some}
use Rattle.tf_btree.proofs.node.Node.cut_key.Goals as goal

pub returns-then-at-gt0 : goal.returns-then-at-gt0
returns-then-at-gt0 g c =
    let long = length-seen _ _ _ _ _ c.self.invariant.0 c.self.view_is in
    cut_some _ _ _ _ _ _ _ c.self.invariant.0 c.self.view_is c.if-at-gt0.true (omega arith) c.index.ensures
