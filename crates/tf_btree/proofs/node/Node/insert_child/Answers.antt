use Rattle.tf_btree.proofs.Words.{refl, ◌∙◌, unboxed}
use Rattle.tf_btree.proofs.Runs.{AllChildren-insert, height_over-high, length_insert_pos}
use Rattle.tf_btree.proofs.Entries.{mapped, same_kind, same_subtree, length-seen, room_after, branch_node, high_as, unboxed-insert}
use Rattle.tf_btree.proofs.Room.{le_same, le_from, insert_fits}
use Rattle.tf_btree.proofs.node.Node.insert_child.Goals as goal

pub invariant_of-self : goal.invariant_of-self
invariant_of-self g c =
    let branch = same_kind c.self.view_is ∙ c.requires.branch in
    let old = rw branch at c.self.invariant in
    let long = length-seen _ _ _ _ _ c.self.invariant.0 c.self.view_is in
    let first = rw c.deref.ensures at c.first-first.ensures in
    let high = high_as (unboxed c.self.inside.children.items) _ old.0.kind.1 (rw (← c.self.view_is, branch) at c.requires.level) in
    rw (c.put.ensures.items, c.put-2.ensures.items, unboxed-insert c.self.inside.children.items c.args.at c.args.child, branch) (
      branch_node _ _ _ _ old.0.kind.0 (AllChildren-insert _ _ _ _ high (record { level = refl; counted = first.counted })) (simp (mapped, old.0.first_keys, first.key)),
      room_after _ _ _ _ _ _ _ _ _ _ old.1 (insert_fits c.self.inside.keys.items c.args.at c.first-first.result _ _ long c.requires.in_bounds c.requires.room) (le_from _ _ c.put.ensures.capacity) (le_same _) (le_from _ _ c.put-2.ensures.capacity),
    )

pub returns : goal.returns
returns g c =
    let branch = same_kind c.self.view_is ∙ c.requires.branch in
    let old = rw branch at c.self.invariant in
    let first = rw c.deref.ensures at c.first-first.ensures in
    let high = high_as (unboxed c.self.inside.children.items) _ old.0.kind.1 (rw (← c.self.view_is, branch) at c.requires.level) in
    let more = AllChildren-insert _ (unboxed c.self.inside.children.items) c.args.at c.args.child.value high (record { level = refl; counted = first.counted }) in
    rw (c.put.ensures.items, c.put-2.ensures.items, unboxed-insert c.self.inside.children.items c.args.at c.args.child, ← c.self.view_is, branch)
    (same_subtree _ _ _ _ _ _ _ _ refl (height_over-high _ _ more (length_insert_pos (unboxed c.self.inside.children.items) c.args.at c.args.child.value)) (simp mapped) (simp mapped))
