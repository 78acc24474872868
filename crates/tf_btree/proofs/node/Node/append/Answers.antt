use Rattle.tf_btree.proofs.Words.{refl, sym, ◌∙◌, arith, length-append, length-map, map-append, unbox, unboxed}
use Rattle.tf_btree.proofs.Runs.{leaf_node, single_rows-append, AllChildren-append, height_over-high}
use Rattle.tf_btree.proofs.Entries.{mapped, same_kind, same_subtree, length-seen, room_after, branch_node}
use Rattle.tf_btree.proofs.Room.{le_same, append_fits, append_same}
use Rattle.tf_btree.proofs.node.Node.append.Goals as goal

pub invariant_of-self : goal.invariant_of-self
invariant_of-self g c =
    let branch = same_kind c.right.view_is ∙ c.requires.kind ∙ sym (same_kind c.self.view_is) ∙ c.if-self.true in
    let old = rw c.if-self.true at c.self.invariant in
    let more = rw branch at c.right.invariant in
    let level = rw (← c.self.view_is, ← c.right.view_is, c.if-self.true, branch) at c.requires.level in
    let long = length-seen _ _ _ _ _ c.self.invariant.0 c.self.view_is in
    let longer = length-seen _ _ _ _ _ c.right.invariant.0 c.right.view_is in
    rw (c.move_all.ensures.all, c.move_all-then-self.ensures.all, map-append unbox c.self.inside.children.items c.right.inside.children.items, c.if-self.true) (
      branch_node _ _ _ _ old.0.kind.0 (AllChildren-append _ _ _ old.0.kind.1 (rw (← level) at more.0.kind.1)) (simp (mapped, old.0.first_keys, more.0.first_keys)),
      room_after _ _ _ _ _ _ _ _ _ _ old.1 (append_fits c.self.inside.keys.items c.right.inside.keys.items _ _ _ long longer c.requires.room) c.move_all.ensures.to_capacity (le_same _) c.move_all-then-self.ensures.to_capacity,
    )

pub invariant_of-self-else-self : goal.invariant_of-self-else-self
invariant_of-self-else-self g c =
    let leaf = same_kind c.right.view_is ∙ c.requires.kind ∙ sym (same_kind c.self.view_is) ∙ c.if-self.false in
    let old = rw c.if-self.false at c.self.invariant in
    let more = rw leaf at c.right.invariant in
    let long = length-seen _ _ _ _ _ c.self.invariant.0 c.self.view_is in
    let longer = length-seen _ _ _ _ _ c.right.invariant.0 c.right.view_is in
    rw (c.move_all.ensures.all, c.move_all-else-self.ensures.all, c.if-self.false) (
      leaf_node _ _ _ old.0.kind.0 (append_same c.self.inside.keys.items c.right.inside.keys.items c.self.inside.values.items c.right.inside.values.items old.0.kind.1 more.0.kind.1),
      room_after _ _ _ _ _ _ _ _ _ _ old.1 (append_fits c.self.inside.keys.items c.right.inside.keys.items _ _ _ long longer c.requires.room) c.move_all.ensures.to_capacity c.move_all-else-self.ensures.to_capacity (le_same _),
    )

pub returns-then-self : goal.returns-then-self
returns-then-self g c =
    let branch = same_kind c.right.view_is ∙ c.requires.kind ∙ sym (same_kind c.self.view_is) ∙ c.if-self.true in
    let old = rw c.if-self.true at c.self.invariant in
    let more = rw branch at c.right.invariant in
    let level = rw (← c.self.view_is, ← c.right.view_is, c.if-self.true, branch) at c.requires.level in
    let some = rw (← c.self.view_is, c.if-self.true, length-map) at c.requires.some in
    let cs = unboxed c.self.inside.children.items in
    let ds = unboxed c.right.inside.children.items in
    record {
      all = rw (c.move_all-then-self.ensures.all, map-append unbox c.self.inside.children.items c.right.inside.children.items, ← c.self.view_is, ← c.right.view_is, c.if-self.true, branch)
          (same_subtree _ _ _ _ _ _ _ _ refl (height_over-high _ _ (AllChildren-append _ cs ds old.0.kind.1 (rw (← level) at more.0.kind.1)) (omega (arith, length-append cs ds))) (simp mapped) (simp mapped));
    }

pub returns-else-self : goal.returns-else-self
returns-else-self g c =
    let leaf = same_kind c.right.view_is ∙ c.requires.kind ∙ sym (same_kind c.self.view_is) ∙ c.if-self.false in
    let old = rw c.if-self.false at c.self.invariant in
    let more = rw leaf at c.right.invariant in
    record { all = rw (c.move_all.ensures.all, c.move_all-else-self.ensures.all, ← c.self.view_is, ← c.right.view_is, c.if-self.false, leaf, old.0.kind.0, more.0.kind.0) (rw (single_rows-append c.self.inside.keys.items c.right.inside.keys.items c.self.inside.values.items c.right.inside.values.items old.0.kind.1)) }
