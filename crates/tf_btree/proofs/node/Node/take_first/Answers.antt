use Rattle.tf_btree.proofs.Words.{length, sym, ◌∙◌, arith, fill_of}
use Rattle.tf_btree.proofs.Entries.{same_kind, same_height, same_parts, same_fills}
use Rattle.tf_btree.proofs.Runs.{length_insert_pos}
use Rattle.tf_btree.proofs.Filled.{first_moved}
use Rattle.tf_btree.proofs.Edited.{move_first}
use Rattle.tf_btree.proofs.Moved.{first_place, end_place, removed_some, removed_fewer, inserted_more}
use Rattle.tf_btree.proofs.node.Node.take_first.Goals as goal

pub remove_child-child-requires-clause-branch : goal.remove_child-child-requires-clause-branch
remove_child-child-requires-clause-branch g c = c.requires.kind ∙ sym c.is_branch.ensures ∙ c.if-is_branch.true

pub remove_child-child-requires-clause-in_bounds : goal.remove_child-child-requires-clause-in_bounds
remove_child-child-requires-clause-in_bounds g c = first_place (length c.args.second.now.parts) c.requires.more

pub insert_child-requires-clause-branch : goal.insert_child-requires-clause-branch
insert_child-requires-clause-branch g c = sym c.is_branch.ensures ∙ c.if-is_branch.true

pub insert_child-requires-clause-in_bounds : goal.insert_child-requires-clause-in_bounds
insert_child-requires-clause-in_bounds g c = end_place c.len-end.result (length c.args.self.now.parts) c.len-end.ensures.value

pub insert_child-requires-clause-room : goal.insert_child-requires-clause-room
insert_child-requires-clause-room g c = c.requires.room

pub insert_child-requires-clause-some : goal.insert_child-requires-clause-some
insert_child-requires-clause-some g c = c.remove_child-child.ensures.taken.some

pub insert_child-requires-clause-level : goal.insert_child-requires-clause-level
insert_child-requires-clause-level g c = λ some. sym c.requires.level ∙ c.remove_child-child.ensures.taken.level

pub returns-then-is_branch-clause-second_level : goal.returns-then-is_branch-clause-second_level
returns-then-is_branch-clause-second_level g c =
    let some = removed_some c.args.second.now.parts _ 0 c.remove_child-child.ensures.rest (first_place (length c.args.second.now.parts) c.requires.more) c.requires.more in
    record { kind = c.remove_child-child.ensures.branch ∙ sym (c.requires.kind ∙ sym c.is_branch.ensures ∙ c.if-is_branch.true); height = c.remove_child-child.ensures.same_level some; some = some }

pub returns-then-is_branch-clause-level : goal.returns-then-is_branch-clause-level
returns-then-is_branch-clause-level g c = record { kind = same_kind c.insert_child.ensures ∙ sym (sym c.is_branch.ensures ∙ c.if-is_branch.true); height = same_height c.insert_child.ensures ∙ sym (sym c.requires.level ∙ c.remove_child-child.ensures.taken.level); some = rw (same_parts c.insert_child.ensures) (length_insert_pos _ _ _) }

pub returns-then-is_branch-clause-second_fewer : goal.returns-then-is_branch-clause-second_fewer
returns-then-is_branch-clause-second_fewer g c = removed_fewer c.args.second.now.parts _ 0 c.remove_child-child.ensures.rest (first_place (length c.args.second.now.parts) c.requires.more)

pub returns-then-is_branch-clause-more : goal.returns-then-is_branch-clause-more
returns-then-is_branch-clause-more g c = inserted_more c.args.self.now.parts _ c.len-end.result _ (same_parts c.insert_child.ensures) (end_place c.len-end.result (length c.args.self.now.parts) c.len-end.ensures.value)

pub remove_row-key-requires-clause-leaf : goal.remove_row-key-requires-clause-leaf
remove_row-key-requires-clause-leaf g c = c.requires.kind ∙ sym c.is_branch.ensures ∙ c.if-is_branch.false

pub remove_row-key-requires-clause-in_bounds : goal.remove_row-key-requires-clause-in_bounds
remove_row-key-requires-clause-in_bounds g c = first_place (length c.args.second.now.parts) c.requires.more

pub insert_row-requires-clause-leaf : goal.insert_row-requires-clause-leaf
insert_row-requires-clause-leaf g c = sym c.is_branch.ensures ∙ c.if-is_branch.false

pub insert_row-requires-clause-in_bounds : goal.insert_row-requires-clause-in_bounds
insert_row-requires-clause-in_bounds g c = end_place c.len-end.result (length c.args.self.now.parts) c.len-end.ensures.value

pub insert_row-requires-clause-room : goal.insert_row-requires-clause-room
insert_row-requires-clause-room g c = c.requires.room

pub returns-else-is_branch-clause-second_level : goal.returns-else-is_branch-clause-second_level
returns-else-is_branch-clause-second_level g c = record { kind = same_kind c.remove_row-key.ensures.rest; height = same_height c.remove_row-key.ensures.rest; some = removed_some c.args.second.now.parts _ 0 (same_parts c.remove_row-key.ensures.rest) (first_place (length c.args.second.now.parts) c.requires.more) c.requires.more }

pub returns-else-is_branch-clause-level : goal.returns-else-is_branch-clause-level
returns-else-is_branch-clause-level g c = record { kind = same_kind c.insert_row.ensures; height = same_height c.insert_row.ensures; some = rw (same_parts c.insert_row.ensures) (length_insert_pos _ _ _) }

pub returns-else-is_branch-clause-second_fewer : goal.returns-else-is_branch-clause-second_fewer
returns-else-is_branch-clause-second_fewer g c = removed_fewer c.args.second.now.parts _ 0 (same_parts c.remove_row-key.ensures.rest) (first_place (length c.args.second.now.parts) c.requires.more)

pub returns-else-is_branch-clause-more : goal.returns-else-is_branch-clause-more
returns-else-is_branch-clause-more g c = inserted_more c.args.self.now.parts _ c.len-end.result _ (same_parts c.insert_row.ensures) (end_place c.len-end.result (length c.args.self.now.parts) c.len-end.ensures.value)

pub returns-else-is_branch-clause-filled : goal.returns-else-is_branch-clause-filled
returns-else-is_branch-clause-filled g c = λ edge a b. rw (same_fills c.remove_row-key.ensures.rest, same_fills c.insert_row.ensures) (a, b)

pub returns-then-is_branch-clause-all : goal.returns-then-is_branch-clause-all
returns-then-is_branch-clause-all g c =
    let put = same_parts c.insert_child.ensures in
    let at = c.len-end.ensures.value in
    rw (put, c.remove_child-child.ensures.rest, at) (move_first c.args.self.now.parts c.args.second.now.parts _ (omega arith) c.remove_child-child.ensures.taken.entry)

pub returns-else-is_branch-clause-all : goal.returns-else-is_branch-clause-all
returns-else-is_branch-clause-all g c =
    let put = same_parts c.insert_row.ensures in
    let gone = same_parts c.remove_row-key.ensures.rest in
    let at = c.len-end.ensures.value in
    rw (put, gone, at) (move_first c.args.self.now.parts c.args.second.now.parts _ (omega arith) c.remove_row-key.ensures.value)

pub returns-then-is_branch-clause-filled : goal.returns-then-is_branch-clause-filled
returns-then-is_branch-clause-filled g c = λ edge a b.
    let branch = sym c.is_branch.ensures ∙ c.if-is_branch.true in
    let many = c.len-end.ensures.value ∙ sym (c.len-end.ensures.branch_fills branch) in
    let moved = first_moved edge c.args.self.now.fills c.args.second.now.fills c.len-end.result (fill_of c.remove_child-child.result.value) many (omega (arith, c.remove_child-child.ensures.taken.fills)) c.remove_child-child.ensures.taken.fill a b in
    let put = same_fills c.insert_child.ensures in
    rw (put, c.remove_child-child.ensures.rest_fills) moved
