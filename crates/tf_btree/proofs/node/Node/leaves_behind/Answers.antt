use Rattle.tf_btree.proofs.Words.{◌+◌, ◌∙◌, take_rest}
use Rattle.tf_btree.proofs.Entries.{same_kind}
use Rattle.tf_btree.proofs.Leaves.{behind_rows, behind_filled}
use Rattle.tf_btree.proofs.node.Node.leaves_behind.Goals as goal

pub returns : goal.returns
returns g c =
    let branch = same_kind c.self.view_is ∙ c.requires.branch in
    rw (take_rest c.deref.result.now (c.args.at + 1), c.deref.ensures.value) record {
      all = behind_rows _ _ _ _ _ _ c.self.invariant.0 c.self.view_is branch c.requires.level;
      filled = behind_filled _ _ _ _ _ _ c.self.invariant.0 c.self.view_is branch c.requires.level;
    }
