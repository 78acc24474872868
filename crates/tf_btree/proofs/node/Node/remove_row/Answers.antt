use Rattle.tf_btree.proofs.Words.{◌∙◌, arith, length-remove}
use Rattle.tf_btree.proofs.Runs.{leaf_node, remove-single_rows, single_is}
use Rattle.tf_btree.proofs.Entries.{same_kind, length-seen, room_after}
use Rattle.tf_btree.proofs.node.Node.remove_row.Goals as goal

pub invariant_of-self : goal.invariant_of-self
invariant_of-self g c =
    let leaf = same_kind c.self.view_is ∙ c.requires.leaf in
    let old = rw leaf at c.self.invariant in
    let long = length-seen _ _ _ _ _ c.self.invariant.0 c.self.view_is in
    let same = old.0.kind.1 in
    let shorter = length-remove c.self.inside.keys.items c.args.at (omega arith) in
    let fewer = length-remove c.self.inside.values.items c.args.at (omega arith) in
    rw (c.remove-key.ensures.items, c.remove-value.ensures.items, leaf) (leaf_node _ _ _ old.0.kind.0 (omega arith), room_after _ _ _ _ _ _ _ _ _ _ old.1 (omega (arith, old.1.entries_fit)) (omega arith) (omega arith) (omega arith))

pub returns : goal.returns
returns g c =
    let leaf = same_kind c.self.view_is ∙ c.requires.leaf in
    let old = rw leaf at c.self.invariant in
    let long = length-seen _ _ _ _ _ c.self.invariant.0 c.self.view_is in
    let entry = single_is c.self.inside.keys.items c.self.inside.values.items c.args.at c.remove-key.result c.remove-value.result old.0.kind.1 (omega arith) in
    record {
      value = rw (← c.self.view_is, leaf) (entry ∙ rw (← c.remove-key.ensures.value, ← c.remove-value.ensures.value));
      rest = rw (c.remove-key.ensures.items, c.remove-value.ensures.items, ← c.self.view_is, leaf, remove-single_rows c.self.inside.keys.items c.self.inside.values.items c.args.at old.0.kind.1);
    }
