use Rattle.tf_btree.proofs.Words.{◌-◌, length, take, drop, insert, false, refl, sym, ◌∙◌, ap, arith, length-take, length-drop, length-insert, rows, fill_of, empty_node}
use Rattle.tf_btree.proofs.Runs.{length_insert_pos}
use Rattle.tf_btree.proofs.Parts.{insert_left, insert_right}
use Rattle.tf_btree.proofs.Entries.{same_kind, same_height, same_parts, same_fills}
use Rattle.tf_btree.proofs.Edited.{split_of}
use Rattle.tf_btree.proofs.Filled.{filled_branch, filled_apart}
use Rattle.tf_btree.proofs.Splits.{half_some, front_only, front_bounds, front_room, back_bounds, back_room, all_kept, some_behind}
use Rattle.tf_btree.proofs.node.Node.split_with_child.Goals as goal

pub split_off-requires-clause-some : goal.split_off-requires-clause-some
split_off-requires-clause-some g c = half_some c.kept_by_split-kept.result c.kept_by_split-kept.ensures.half

pub split_off-requires-clause-in_bounds : goal.split_off-requires-clause-in_bounds
split_off-requires-clause-in_bounds g c = rw c.requires.full c.kept_by_split-kept.ensures.fits

pub split_off-requires-clause-empty : goal.split_off-requires-clause-empty
split_off-requires-clause-empty g c = c.deref_mut.ensures.value ∙ c.requires.empty ∙ ap empty_node (sym c.requires.branch)

pub insert_child-requires-clause-branch : goal.insert_child-requires-clause-branch
insert_child-requires-clause-branch g c = same_kind c.split_off.ensures.left ∙ c.requires.branch

pub insert_child-requires-clause-in_bounds : goal.insert_child-requires-clause-in_bounds
insert_child-requires-clause-in_bounds g c = front_bounds c.args.self.now.parts c.kept_by_split-kept.result c.args.at c.requires.full _ (same_parts c.split_off.ensures.left) (c.kept_by_split-kept.ensures.front c.if-at-le-HALF.true) c.if-at-le-HALF.true

pub insert_child-requires-clause-room : goal.insert_child-requires-clause-room
insert_child-requires-clause-room g c = front_room c.args.self.now.parts c.kept_by_split-kept.result c.args.at c.requires.full _ (same_parts c.split_off.ensures.left) (c.kept_by_split-kept.ensures.front c.if-at-le-HALF.true)

pub insert_child-requires-clause-some : goal.insert_child-requires-clause-some
insert_child-requires-clause-some g c = c.requires.some

pub insert_child-requires-clause-level : goal.insert_child-requires-clause-level
insert_child-requires-clause-level g c = λ some. same_height c.split_off.ensures.left ∙ c.requires.level

pub insert_child-requires-else-at-le-HALF-clause-branch : goal.insert_child-requires-else-at-le-HALF-clause-branch
insert_child-requires-else-at-le-HALF-clause-branch g c = same_kind c.deref_mut-else-at-le-HALF.ensures.value ∙ c.split_off.ensures.right_kind ∙ c.requires.branch

pub insert_child-requires-else-at-le-HALF-clause-in_bounds : goal.insert_child-requires-else-at-le-HALF-clause-in_bounds
insert_child-requires-else-at-le-HALF-clause-in_bounds g c = back_bounds c.args.self.now.parts c.kept_by_split-kept.result c.args.at c.requires.full _ (same_parts c.deref_mut-else-at-le-HALF.ensures.value ∙ c.split_off.ensures.right) (c.kept_by_split-kept.ensures.back c.if-at-le-HALF.false c.requires.in_bounds) c.requires.in_bounds

pub insert_child-requires-else-at-le-HALF-clause-room : goal.insert_child-requires-else-at-le-HALF-clause-room
insert_child-requires-else-at-le-HALF-clause-room g c = back_room c.args.self.now.parts c.kept_by_split-kept.result c.args.at c.requires.full _ (same_parts c.deref_mut-else-at-le-HALF.ensures.value ∙ c.split_off.ensures.right) c.kept_by_split-kept.ensures.half

pub insert_child-requires-else-at-le-HALF-clause-some : goal.insert_child-requires-else-at-le-HALF-clause-some
insert_child-requires-else-at-le-HALF-clause-some g c = c.requires.some

pub insert_child-requires-else-at-le-HALF-clause-level : goal.insert_child-requires-else-at-le-HALF-clause-level
insert_child-requires-else-at-le-HALF-clause-level g c = λ some. same_height c.deref_mut-else-at-le-HALF.ensures.value ∙ c.split_off.ensures.right_level (some_behind c.args.self.now.parts _ c.kept_by_split-kept.result (same_parts c.deref_mut-else-at-le-HALF.ensures.value ∙ c.split_off.ensures.right) some) ∙ c.requires.level

pub returns-then-at-le-HALF-clause-kept : goal.returns-then-at-le-HALF-clause-kept
returns-then-at-le-HALF-clause-kept g c = λ edge end. front_only c.args.at _ c.if-at-le-HALF.true end

pub returns-else-at-le-HALF-clause-kept : goal.returns-else-at-le-HALF-clause-kept
returns-else-at-le-HALF-clause-kept g c = λ edge end. all_kept c.args.self.now.parts c.kept_by_split-kept.result c.args.at c.requires.full _ (same_parts c.split_off.ensures.left) (c.kept_by_split-kept.ensures.end edge end)

pub returns-then-at-le-HALF-clause-split : goal.returns-then-at-le-HALF-clause-split
returns-then-at-le-HALF-clause-split g c =
    let kept = c.kept_by_split-kept.ensures.front c.if-at-le-HALF.true in
    let small = c.if-at-le-HALF.true in
    let full = c.requires.full in
    let left = same_parts c.insert_child.ensures ∙ ap (λ ps. insert ps c.args.at (rows c.args.child.value)) (same_parts c.split_off.ensures.left) in
    let right = c.split_off.ensures.right in
    split_of _ _ _ (insert c.args.self.now.parts c.args.at (rows c.args.child.value)) (same_kind c.insert_child.ensures ∙ sym c.requires.branch) (same_height c.insert_child.ensures ∙ sym c.requires.level) (c.split_off.ensures.right_level (omega arith))
    (rw (left, right) (insert_left c.args.self.now.parts c.kept_by_split-kept.result c.args.at (rows c.args.child.value) (omega arith) (omega arith))) (rw left (length_insert_pos _ _ _)) (rw right (omega (arith, length-drop c.kept_by_split-kept.result c.args.self.now.parts)))

pub returns-then-at-le-HALF-clause-filled : goal.returns-then-at-le-HALF-clause-filled
returns-then-at-le-HALF-clause-filled g c = λ all.
    let kept = c.kept_by_split-kept.ensures.front c.if-at-le-HALF.true in
    let small = c.if-at-le-HALF.true in
    let full = c.requires.full in
    let long = c.split_off.ensures.branch_fills c.requires.branch in
    let left = same_fills c.insert_child.ensures ∙ ap (λ fs. insert fs c.args.at (fill_of c.args.child.value)) (same_fills c.split_off.ensures.left) in
    let right = c.split_off.ensures.right_fills in
    let parts = ap length (same_parts c.insert_child.ensures ∙ ap (λ ps. insert ps c.args.at (rows c.args.child.value)) (same_parts c.split_off.ensures.left)) in
    let longer = length-insert (take c.kept_by_split-kept.result c.args.self.now.parts) c.args.at (rows c.args.child.value) (omega (arith, length-take c.kept_by_split-kept.result c.args.self.now.parts)) in
    let apart = filled_apart c.args.at_edge _ _ _ (rw (left, right) (insert_left c.args.self.now.fills c.kept_by_split-kept.result c.args.at (fill_of c.args.child.value) (omega arith) (omega arith))) (rw right (omega (arith, length-drop c.kept_by_split-kept.result c.args.self.now.fills))) all in (
      filled_branch false c.insert_child.new.self _ refl apart.0 (λ off. omega (arith, length-take c.kept_by_split-kept.result c.args.self.now.parts)),
      filled_branch c.args.at_edge c.split_off.new.right _ refl apart.1 (λ off. omega (arith, ap length c.split_off.ensures.right, length-drop c.kept_by_split-kept.result c.args.self.now.parts)),
    )

pub returns-else-at-le-HALF-clause-split : goal.returns-else-at-le-HALF-clause-split
returns-else-at-le-HALF-clause-split g c =
    let half = c.kept_by_split-kept.ensures.half in
    let fits = c.kept_by_split-kept.ensures.fits in
    let back = c.kept_by_split-kept.ensures.back (omega (arith, c.if-at-le-HALF.false)) c.requires.in_bounds in
    let full = c.requires.full in
    let put = c.insert_child-else-at-le-HALF.ensures in
    let at = c.deref_mut-else-at-le-HALF.ensures.value in
    let left = same_parts c.split_off.ensures.left in
    let right = same_parts put ∙ ap (λ ps. insert ps (c.args.at - c.kept_by_split-kept.result) (rows c.args.child.value)) (same_parts at ∙ c.split_off.ensures.right) in
    split_of _ _ _ (insert c.args.self.now.parts c.args.at (rows c.args.child.value)) (same_kind c.split_off.ensures.left) (same_height c.split_off.ensures.left) (same_height put ∙ sym c.requires.level)
    (rw (left, right) (insert_right c.args.self.now.parts c.kept_by_split-kept.result c.args.at (rows c.args.child.value) back (omega arith))) (rw left (omega (arith, length-take c.kept_by_split-kept.result c.args.self.now.parts))) (rw right (length_insert_pos _ _ _))

pub returns-else-at-le-HALF-clause-filled : goal.returns-else-at-le-HALF-clause-filled
returns-else-at-le-HALF-clause-filled g c = λ all.
    let half = c.kept_by_split-kept.ensures.half in
    let fits = c.kept_by_split-kept.ensures.fits in
    let back = c.kept_by_split-kept.ensures.back (omega (arith, c.if-at-le-HALF.false)) c.requires.in_bounds in
    let full = c.requires.full in
    let put = c.insert_child-else-at-le-HALF.ensures in
    let at = c.deref_mut-else-at-le-HALF.ensures.value in
    let long = c.split_off.ensures.branch_fills c.requires.branch in
    let left = same_fills c.split_off.ensures.left in
    let right = same_fills put ∙ ap (λ fs. insert fs (c.args.at - c.kept_by_split-kept.result) (fill_of c.args.child.value)) (same_fills at ∙ c.split_off.ensures.right_fills) in
    let parts = ap length (same_parts put ∙ ap (λ ps. insert ps (c.args.at - c.kept_by_split-kept.result) (rows c.args.child.value)) (same_parts at ∙ c.split_off.ensures.right)) in
    let bounds = c.requires.in_bounds in
    let shorter = length-drop c.kept_by_split-kept.result c.args.self.now.parts in
    let longer = length-insert (drop c.kept_by_split-kept.result c.args.self.now.parts) (c.args.at - c.kept_by_split-kept.result) (rows c.args.child.value) (omega arith) in
    let apart = filled_apart c.args.at_edge _ _ _ (rw (left, right) (insert_right c.args.self.now.fills c.kept_by_split-kept.result c.args.at (fill_of c.args.child.value) back (omega arith))) (rw right (length_insert_pos _ _ _)) all in (
      filled_branch false c.split_off.new.self _ refl apart.0 (λ off. omega (arith, ap length (same_parts c.split_off.ensures.left), length-take c.kept_by_split-kept.result c.args.self.now.parts)),
      filled_branch c.args.at_edge c.insert_child-else-at-le-HALF.new.self _ refl apart.1 (λ off. let m = c.kept_by_split-kept.ensures.off off in omega arith),
    )
