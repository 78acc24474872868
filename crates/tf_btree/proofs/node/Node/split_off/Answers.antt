use Rattle.tf_btree.proofs.Words.{[], refl, sym, ◌∙◌, arith, take_all, drop_all, length-take, length-drop, length-map, take-map, drop-map, rows, unbox, unboxed}
use Rattle.tf_btree.proofs.Runs.{leaf_node, same_take, same_drop, take-single_rows, drop-single_rows, AllChildren-take, AllChildren-drop, height_over-high}
use Rattle.tf_btree.proofs.Entries.{mapped, same_kind, same_subtree, empty_kind, length-parts, length-seen, room_after, branch_node, leaf_fills, length-fills}
use Rattle.tf_btree.proofs.Room.{le_same, le_from, take_fits, drop_fits, other_kind}
use Rattle.tf_btree.proofs.node.Node.split_off.Goals as goal

pub invariant_of-self : goal.invariant_of-self
invariant_of-self g c =
    let old = rw c.if-self.true at c.self.invariant in
    rw (c.copy_tail.ensures.front, c.move_tail.ensures.front, ← take-map unbox c.args.at c.self.inside.children.items, c.if-self.true) (
      branch_node _ _ _ _ old.0.kind.0 (AllChildren-take _ _ _ old.0.kind.1) (simp (mapped, old.0.first_keys)),
      room_after _ _ _ _ _ _ _ _ _ _ old.1 (take_fits c.self.inside.keys.items c.args.at _ old.1.entries_fit) (le_from _ _ c.copy_tail.ensures.capacity) (le_same _) (le_from _ _ c.move_tail.ensures.capacity),
    )

pub invariant_of-right : goal.invariant_of-right
invariant_of-right g c =
    let branch = same_kind c.right.view_is ∙ empty_kind _ _ c.requires.empty ∙ sym (same_kind c.self.view_is) ∙ c.if-self.true in
    let old = rw c.if-self.true at c.self.invariant in
    let right = rw branch at c.right.invariant in
    rw (c.copy_tail.ensures.back, c.move_tail.ensures.back, ← drop-map unbox c.args.at c.self.inside.children.items, branch) (
      branch_node _ _ _ _ right.0.kind.0 (AllChildren-drop _ _ _ old.0.kind.1) (simp (mapped, old.0.first_keys)),
      room_after _ _ _ _ _ _ _ _ _ _ right.1 (drop_fits c.self.inside.keys.items c.args.at _ old.1.entries_fit) c.copy_tail.ensures.to_capacity (le_same _) c.move_tail.ensures.to_capacity,
    )

pub invariant_of-self-else-self : goal.invariant_of-self-else-self
invariant_of-self-else-self g c =
    let old = rw c.if-self.false at c.self.invariant in
    rw (c.copy_tail.ensures.front, c.copy_tail-else-self.ensures.front, c.if-self.false) (
      leaf_node _ _ _ old.0.kind.0 (same_take _ _ _ old.0.kind.1),
      room_after _ _ _ _ _ _ _ _ _ _ old.1 (take_fits c.self.inside.keys.items c.args.at _ old.1.entries_fit) (le_from _ _ c.copy_tail.ensures.capacity) (le_from _ _ c.copy_tail-else-self.ensures.capacity) (le_same _),
    )

pub invariant_of-right-else-self : goal.invariant_of-right-else-self
invariant_of-right-else-self g c =
    let leaf = same_kind c.right.view_is ∙ empty_kind _ _ c.requires.empty ∙ sym (same_kind c.self.view_is) ∙ c.if-self.false in
    let old = rw c.if-self.false at c.self.invariant in
    let right = rw leaf at c.right.invariant in
    rw (c.copy_tail.ensures.back, c.copy_tail-else-self.ensures.back, leaf) (
      leaf_node _ _ _ right.0.kind.0 (same_drop _ _ _ old.0.kind.1),
      room_after _ _ _ _ _ _ _ _ _ _ right.1 (drop_fits c.self.inside.keys.items c.args.at _ old.1.entries_fit) c.copy_tail.ensures.to_capacity c.copy_tail-else-self.ensures.to_capacity (le_same _),
    )

pub returns-then-self : goal.returns-then-self
returns-then-self g c =
    let branch = same_kind c.right.view_is ∙ empty_kind _ _ c.requires.empty ∙ sym (same_kind c.self.view_is) ∙ c.if-self.true in
    let old = rw c.if-self.true at c.self.invariant in
    let cs = unboxed c.self.inside.children.items in
    let long = length-seen _ _ _ _ _ c.self.invariant.0 c.self.view_is in
    let parts = length-parts _ _ _ _ old.0 in
    let many = length-map cs rows in
    record {
      left = rw (c.move_tail.ensures.front, ← take-map unbox c.args.at c.self.inside.children.items, ← c.self.view_is, c.if-self.true)
          (same_subtree _ _ _ _ _ _ _ _ refl (height_over-high _ _ (AllChildren-take _ c.args.at cs old.0.kind.1) (omega (arith, length-take c.args.at cs))) (simp mapped) (simp mapped));
      right_kind = branch ∙ sym c.if-self.true ∙ same_kind c.self.view_is;
      right = rw (c.move_tail.ensures.back, branch, ← c.self.view_is, c.if-self.true) (simp mapped);
      right_fills = rw (c.move_tail.ensures.back, ← c.self.view_is) (simp mapped);
      right_level = rw (c.move_tail.ensures.back, ← drop-map unbox c.args.at c.self.inside.children.items, branch, ← c.self.view_is, c.if-self.true)
          (λ lt. height_over-high _ _ (AllChildren-drop _ c.args.at cs old.0.kind.1) (omega (arith, length-drop c.args.at cs, rw length-map at lt)));
      right_leaf_level = λ leaf. other_kind _ _ (sym (same_kind c.self.view_is) ∙ c.if-self.true) leaf;
      leaf_level = λ leaf. other_kind _ _ (sym (same_kind c.self.view_is) ∙ c.if-self.true) leaf;
      leaf_fills = leaf_fills _ _ _ _ _ c.self.invariant.0 c.self.view_is;
      branch_fills = length-fills _ _ _ _ _ c.self.invariant.0 c.self.view_is;
    }

pub returns-else-self : goal.returns-else-self
returns-else-self g c =
    let leaf = same_kind c.right.view_is ∙ empty_kind _ _ c.requires.empty ∙ sym (same_kind c.self.view_is) ∙ c.if-self.false in
    let old = rw c.if-self.false at c.self.invariant in
    let right = rw leaf at c.right.invariant in
    record {
      left = rw (c.copy_tail.ensures.front, c.copy_tail-else-self.ensures.front, ← c.self.view_is, c.if-self.false)
          (same_subtree _ _ _ _ _ _ _ _ refl refl (take-single_rows c.args.at c.self.inside.keys.items c.self.inside.values.items) (rw old.0.kind.0 (sym (take_all c.args.at [] (omega arith)))));
      right_kind = leaf ∙ sym c.if-self.false ∙ same_kind c.self.view_is;
      right = rw (c.copy_tail.ensures.back, c.copy_tail-else-self.ensures.back, leaf, ← c.self.view_is, c.if-self.false) (drop-single_rows c.args.at c.self.inside.keys.items c.self.inside.values.items);
      right_fills = rw (← c.self.view_is) (rw (old.0.kind.0, right.0.kind.0) (sym (drop_all c.args.at [] (omega arith))));
      right_level = rw (leaf, ← c.self.view_is, c.if-self.false) (λ lt. refl);
      right_leaf_level = rw leaf (λ is. refl);
      leaf_level = rw (← c.self.view_is, c.if-self.false) (λ is. refl);
      leaf_fills = leaf_fills _ _ _ _ _ c.self.invariant.0 c.self.view_is;
      branch_fills = length-fills _ _ _ _ _ c.self.invariant.0 c.self.view_is;
    }
