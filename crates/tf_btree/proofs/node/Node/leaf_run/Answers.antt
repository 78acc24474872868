use Rattle.tf_btree.proofs.Words.{◌∙◌, take_rest}
use Rattle.tf_btree.proofs.Entries.{same_kind}
use Rattle.tf_btree.proofs.RunLemmas.{leaf_run_from, leaf_run_some}
use Rattle.tf_btree.proofs.node.Node.leaf_run.Goals as goal

pub returns : goal.returns
returns g c =
    let leaf = same_kind c.self.view_is ∙ c.requires.leaf in
    let found = rw c.deref.ensures.value at c.count_below-at.ensures in
    rw (take_rest c.deref-2.result.now c.count_below-at.result, take_rest c.deref-3.result.now c.count_below-at.result, c.deref-2.ensures.value, c.deref-3.ensures.value) record {
      all = leaf_run_from _ g.met.K.Ord.total _ _ _ _ _ _ c.self.invariant.0 c.self.view_is leaf c.requires.rising _ found.within found.before found.after;
      found = leaf_run_some _ g.met.K.Ord.total _ _ _ _ _ _ c.self.invariant.0 c.self.view_is leaf c.requires.rising _ found.within found.before found.after;
    }
