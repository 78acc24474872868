use Rattle.tf_btree.proofs.Words.{◌∙◌}
use Rattle.tf_btree.proofs.Runs.{leaf_node, insert-single_rows}
use Rattle.tf_btree.proofs.Entries.{same_kind, length-seen, room_after}
use Rattle.tf_btree.proofs.Room.{le_same, le_from, insert_fits, insert_same}
use Rattle.tf_btree.proofs.node.Node.insert_row.Goals as goal

pub invariant_of-self : goal.invariant_of-self
invariant_of-self g c =
    let leaf = same_kind c.self.view_is ∙ c.requires.leaf in
    let old = rw leaf at c.self.invariant in
    let long = length-seen _ _ _ _ _ c.self.invariant.0 c.self.view_is in
    let same = insert_same c.self.inside.keys.items c.self.inside.values.items c.args.at c.args.key c.args.value _ long c.requires.in_bounds old.0.kind.1 in
    let fits = insert_fits c.self.inside.keys.items c.args.at c.args.key _ _ long c.requires.in_bounds c.requires.room in
    rw (c.put.ensures.items, c.put-2.ensures.items, leaf) (leaf_node _ _ _ old.0.kind.0 same, room_after _ _ _ _ _ _ _ _ _ _ old.1 fits (le_from _ _ c.put.ensures.capacity) (le_from _ _ c.put-2.ensures.capacity) (le_same _))

pub returns : goal.returns
returns g c =
    let leaf = same_kind c.self.view_is ∙ c.requires.leaf in
    let old = rw leaf at c.self.invariant in
    rw (c.put.ensures.items, c.put-2.ensures.items, ← c.self.view_is, leaf, insert-single_rows c.self.inside.keys.items c.self.inside.values.items c.args.at c.args.key c.args.value old.0.kind.1)
