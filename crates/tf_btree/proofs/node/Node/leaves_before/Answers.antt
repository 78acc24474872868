use Rattle.tf_btree.proofs.Words.{◌∙◌}
use Rattle.tf_btree.proofs.Entries.{same_kind}
use Rattle.tf_btree.proofs.Leaves.{before_rows, before_filled}
use Rattle.tf_btree.proofs.node.Node.leaves_before.Goals as goal

pub returns : goal.returns
returns g c =
    let branch = same_kind c.self.view_is ∙ c.requires.branch in
    rw c.deref.ensures.value record {
      all = before_rows _ _ _ _ _ _ c.self.invariant.0 c.self.view_is branch c.requires.level;
      filled = before_filled _ _ _ _ _ _ c.self.invariant.0 c.self.view_is branch c.requires.level;
    }
