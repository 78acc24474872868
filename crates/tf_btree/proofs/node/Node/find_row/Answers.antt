use Rattle.tf_btree.proofs.Words.{◌∙◌, arith, get_or_default}
use Rattle.tf_btree.proofs.Entries.{same_kind}
use Rattle.tf_btree.proofs.Placed.{node_row, node_gap}
use Rattle.tf_btree.proofs.node.Node.find_row.Goals as goal
use Rattle.tf_btree.proofs.node.Node.find_row.Goals.{else-at-len-via-then-at-len+else-is_eq, else-at-len-via-else-at-len}

pub returns-then-is_eq-clause-found : goal.returns-then-is_eq-clause-found
returns-then-is_eq-clause-found g c =
    let leaf = same_kind c.self.view_is ∙ c.requires.leaf in
    let found = rw c.deref.ensures.value at c.count_below-at.ensures in
    let long = rw c.deref.ensures.value at c.deref.ensures.len in
    node_row _ g.met.K.Ord.total _ _ _ _ _ _ c.self.invariant.0 c.self.view_is c.requires.rising leaf _ found.before c.index.result.now (omega arith) (cc)

pub returns-else-at-len-clause-absent : goal.returns-else-at-len-clause-absent
returns-else-at-len-clause-absent g c =
    let leaf = same_kind c.self.view_is ∙ c.requires.leaf in
    let found = rw c.deref.ensures.value at c.count_below-at.ensures in
    let long = rw c.deref.ensures.value at c.deref.ensures.len in
    node_gap _ g.met.K.Ord.total _ _ _ _ _ _ c.self.invariant.0 c.self.view_is c.requires.rising leaf _ found.before found.within
    (elim c.else-at-len.branch [
      | else-at-len-via-then-at-len+else-is_eq w ↦ λ lt. (found.after _ lt, let same = get_or_default c.self.inside.keys.items c.count_below-at.result w.index.result.now c.args.key.now lt in cc)
      | else-at-len-via-else-at-len w ↦ λ lt. absurd (omega (arith, w.if-at-len.false, lt))
    ])
