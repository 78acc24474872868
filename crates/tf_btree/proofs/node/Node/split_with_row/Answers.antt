use Rattle.tf_btree.proofs.Words.{◌-◌, ◌∷◌, [], insert, sym, ◌∙◌, ap, arith, length-take, length-drop, empty_node}
use Rattle.tf_btree.proofs.Runs.{length_insert_pos}
use Rattle.tf_btree.proofs.Parts.{insert_left, insert_right}
use Rattle.tf_btree.proofs.Entries.{same_kind, same_height, same_parts, same_fills}
use Rattle.tf_btree.proofs.Edited.{split_of}
use Rattle.tf_btree.proofs.Splits.{half_some, front_only, front_bounds, front_room, back_bounds, back_room, all_kept, left_more, right_rest, left_rest, right_more}
use Rattle.tf_btree.proofs.node.Node.split_with_row.Goals as goal

pub split_off-requires-clause-some : goal.split_off-requires-clause-some
split_off-requires-clause-some g c = half_some c.kept_by_split-kept.result c.kept_by_split-kept.ensures.half

pub split_off-requires-clause-in_bounds : goal.split_off-requires-clause-in_bounds
split_off-requires-clause-in_bounds g c = rw c.requires.full c.kept_by_split-kept.ensures.fits

pub split_off-requires-clause-empty : goal.split_off-requires-clause-empty
split_off-requires-clause-empty g c = c.deref_mut.ensures.value ∙ c.requires.empty ∙ ap empty_node (sym c.requires.leaf)

pub insert_row-requires-clause-leaf : goal.insert_row-requires-clause-leaf
insert_row-requires-clause-leaf g c = same_kind c.split_off.ensures.left ∙ c.requires.leaf

pub insert_row-requires-clause-in_bounds : goal.insert_row-requires-clause-in_bounds
insert_row-requires-clause-in_bounds g c =
    front_bounds c.args.self.now.parts c.kept_by_split-kept.result c.args.at c.requires.full _ (same_parts c.split_off.ensures.left) (c.kept_by_split-kept.ensures.front c.if-at-le-HALF.true) c.if-at-le-HALF.true

pub insert_row-requires-clause-room : goal.insert_row-requires-clause-room
insert_row-requires-clause-room g c =
    front_room c.args.self.now.parts c.kept_by_split-kept.result c.args.at c.requires.full _ (same_parts c.split_off.ensures.left) (c.kept_by_split-kept.ensures.front c.if-at-le-HALF.true)

pub insert_row-requires-else-at-le-HALF-clause-leaf : goal.insert_row-requires-else-at-le-HALF-clause-leaf
insert_row-requires-else-at-le-HALF-clause-leaf g c = same_kind c.deref_mut-else-at-le-HALF.ensures.value ∙ c.split_off.ensures.right_kind ∙ c.requires.leaf

pub insert_row-requires-else-at-le-HALF-clause-in_bounds : goal.insert_row-requires-else-at-le-HALF-clause-in_bounds
insert_row-requires-else-at-le-HALF-clause-in_bounds g c =
    back_bounds c.args.self.now.parts c.kept_by_split-kept.result c.args.at c.requires.full _ (same_parts c.deref_mut-else-at-le-HALF.ensures.value ∙ c.split_off.ensures.right) (c.kept_by_split-kept.ensures.back c.if-at-le-HALF.false c.requires.in_bounds) c.requires.in_bounds

pub insert_row-requires-else-at-le-HALF-clause-room : goal.insert_row-requires-else-at-le-HALF-clause-room
insert_row-requires-else-at-le-HALF-clause-room g c =
    back_room c.args.self.now.parts c.kept_by_split-kept.result c.args.at c.requires.full _ (same_parts c.deref_mut-else-at-le-HALF.ensures.value ∙ c.split_off.ensures.right) c.kept_by_split-kept.ensures.half

pub returns-then-at-le-HALF-clause-filled : goal.returns-then-at-le-HALF-clause-filled
returns-then-at-le-HALF-clause-filled g c =
    let left = same_parts c.insert_row.ensures ∙ ap (λ ps. insert ps c.args.at ((c.args.key, c.args.value) ∷ [])) (same_parts c.split_off.ensures.left) in
    left_more c.args.self.now c.insert_row.new.self c.split_off.new.right c.kept_by_split-kept.result c.args.at c.requires.full (c.split_off.ensures.leaf_fills c.requires.leaf) ((c.args.key, c.args.value) ∷ []) left (same_fills c.insert_row.ensures ∙ same_fills c.split_off.ensures.left) (c.kept_by_split-kept.ensures.front c.if-at-le-HALF.true) c.if-at-le-HALF.true

pub returns-then-at-le-HALF-clause-right_filled : goal.returns-then-at-le-HALF-clause-right_filled
returns-then-at-le-HALF-clause-right_filled g c =
    right_rest c.args.self.now c.insert_row.new.self c.split_off.new.right c.kept_by_split-kept.result c.args.at c.requires.full (c.split_off.ensures.leaf_fills c.requires.leaf) c.args.at_edge c.split_off.ensures.right c.split_off.ensures.right_fills (c.kept_by_split-kept.ensures.front c.if-at-le-HALF.true)

pub returns-then-at-le-HALF-clause-kept : goal.returns-then-at-le-HALF-clause-kept
returns-then-at-le-HALF-clause-kept g c = λ edge end. front_only c.args.at _ c.if-at-le-HALF.true end

pub returns-else-at-le-HALF-clause-filled : goal.returns-else-at-le-HALF-clause-filled
returns-else-at-le-HALF-clause-filled g c =
    left_rest c.args.self.now c.split_off.new.self c.insert_row-else-at-le-HALF.new.self c.kept_by_split-kept.result c.args.at c.requires.full (c.split_off.ensures.leaf_fills c.requires.leaf) (same_parts c.split_off.ensures.left) (same_fills c.split_off.ensures.left) c.kept_by_split-kept.ensures.half

pub returns-else-at-le-HALF-clause-right_filled : goal.returns-else-at-le-HALF-clause-right_filled
returns-else-at-le-HALF-clause-right_filled g c =
    let put = c.insert_row-else-at-le-HALF.ensures in
    let at = c.deref_mut-else-at-le-HALF.ensures.value in
    let right = same_parts put ∙ ap (λ ps. insert ps (c.args.at - c.kept_by_split-kept.result) ((c.args.key, c.args.value) ∷ [])) (same_parts at ∙ c.split_off.ensures.right) in
    right_more c.args.self.now c.split_off.new.self c.insert_row-else-at-le-HALF.new.self c.kept_by_split-kept.result c.args.at c.requires.full (c.split_off.ensures.leaf_fills c.requires.leaf) c.args.at_edge ((c.args.key, c.args.value) ∷ []) right (same_fills put ∙ same_fills at ∙ c.split_off.ensures.right_fills)
    (c.kept_by_split-kept.ensures.back c.if-at-le-HALF.false c.requires.in_bounds) c.requires.in_bounds c.kept_by_split-kept.ensures.off

pub returns-else-at-le-HALF-clause-kept : goal.returns-else-at-le-HALF-clause-kept
returns-else-at-le-HALF-clause-kept g c = λ edge end.
    all_kept c.args.self.now.parts c.kept_by_split-kept.result c.args.at c.requires.full _ (same_parts c.split_off.ensures.left) (c.kept_by_split-kept.ensures.end edge end)

pub returns-then-at-le-HALF-clause-split : goal.returns-then-at-le-HALF-clause-split
returns-then-at-le-HALF-clause-split g c =
    let kept = c.kept_by_split-kept.ensures.front c.if-at-le-HALF.true in
    let small = c.if-at-le-HALF.true in
    let full = c.requires.full in
    let left = same_parts c.insert_row.ensures ∙ ap (λ ps. insert ps c.args.at ((c.args.key, c.args.value) ∷ [])) (same_parts c.split_off.ensures.left) in
    let right = c.split_off.ensures.right in
    split_of _ _ _ (insert c.args.self.now.parts c.args.at ((c.args.key, c.args.value) ∷ [])) (same_kind c.insert_row.ensures ∙ same_kind c.split_off.ensures.left) (same_height c.insert_row.ensures ∙ same_height c.split_off.ensures.left) (c.split_off.ensures.right_level (omega arith))
    (rw (left, right) (insert_left c.args.self.now.parts c.kept_by_split-kept.result c.args.at ((c.args.key, c.args.value) ∷ []) (omega arith) (omega arith))) (rw left (length_insert_pos _ _ _)) (rw right (omega (arith, length-drop c.kept_by_split-kept.result c.args.self.now.parts)))

pub returns-else-at-le-HALF-clause-split : goal.returns-else-at-le-HALF-clause-split
returns-else-at-le-HALF-clause-split g c =
    let half = c.kept_by_split-kept.ensures.half in
    let fits = c.kept_by_split-kept.ensures.fits in
    let back = c.kept_by_split-kept.ensures.back (omega (arith, c.if-at-le-HALF.false)) c.requires.in_bounds in
    let full = c.requires.full in
    let put = c.insert_row-else-at-le-HALF.ensures in
    let at = c.deref_mut-else-at-le-HALF.ensures.value in
    let left = same_parts c.split_off.ensures.left in
    let right = same_parts put ∙ ap (λ ps. insert ps (c.args.at - c.kept_by_split-kept.result) ((c.args.key, c.args.value) ∷ [])) (same_parts at ∙ c.split_off.ensures.right) in
    split_of _ _ _ (insert c.args.self.now.parts c.args.at ((c.args.key, c.args.value) ∷ [])) (same_kind c.split_off.ensures.left) (same_height c.split_off.ensures.left) (same_height put ∙ same_height at ∙ c.split_off.ensures.right_leaf_level c.requires.leaf ∙ sym (c.split_off.ensures.leaf_level c.requires.leaf))
    (rw (left, right) (insert_right c.args.self.now.parts c.kept_by_split-kept.result c.args.at ((c.args.key, c.args.value) ∷ []) back (omega arith))) (rw left (omega (arith, length-take c.kept_by_split-kept.result c.args.self.now.parts))) (rw right (length_insert_pos _ _ _))
