use Rattle.tf_btree.proofs.Words.{◌∙◌, arith, length-set}
use Rattle.tf_btree.proofs.Runs.{leaf_node, set-single_rows, single_is, entry_value}
use Rattle.tf_btree.proofs.Entries.{same_kind, length-seen, room_after}
use Rattle.tf_btree.proofs.node.Node.replace_row.Goals as goal

pub invariant_of-self : goal.invariant_of-self
invariant_of-self g c =
    let leaf = same_kind c.self.view_is ∙ c.requires.leaf in
    let old = rw leaf at c.self.invariant in
    let keys = length-set c.self.inside.keys.items c.args.at c.args.key in
    let values = length-set c.self.inside.values.items c.args.at c.args.value in
    rw (c.replace.ensures.after, leaf) (leaf_node _ _ _ old.0.kind.0 (omega (arith, old.0.kind.1)), room_after _ _ _ _ _ _ _ _ _ _ old.1 (omega (arith, old.1.entries_fit)) (omega arith) (omega arith) (omega arith))

pub returns-clause-old : goal.returns-clause-old
returns-clause-old g c = λ k w is.
    let leaf = same_kind c.self.view_is ∙ c.requires.leaf in
    let old = rw leaf at c.self.invariant in
    let long = length-seen _ _ _ _ _ c.self.invariant.0 c.self.view_is in
    let here = rw (← c.self.view_is, leaf) at is in
    c.replace.ensures.value ∙ c.index_mut-2.ensures.value ∙ entry_value _ _ _ _ (single_is _ _ c.args.at k _ old.0.kind.1 (omega arith)) here

pub returns-clause-new : goal.returns-clause-new
returns-clause-new g c =
    let leaf = same_kind c.self.view_is ∙ c.requires.leaf in
    let old = rw leaf at c.self.invariant in
    rw (c.replace.ensures.after, ← c.self.view_is, leaf, set-single_rows c.self.inside.keys.items c.self.inside.values.items c.args.at c.args.key c.args.value old.0.kind.1)
