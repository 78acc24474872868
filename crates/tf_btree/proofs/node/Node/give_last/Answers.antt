use Rattle.tf_btree.proofs.Words.{◌-◌, length, sym, ◌∙◌, arith, fill_of}
use Rattle.tf_btree.proofs.Entries.{same_kind, same_height, same_parts, same_fills}
use Rattle.tf_btree.proofs.Filled.{last_moved}
use Rattle.tf_btree.proofs.Edited.{move_last}
use Rattle.tf_btree.proofs.Moved.{last_place, removed_some, removed_fewer, inserted_more, some_more}
use Rattle.tf_btree.proofs.node.Node.give_last.Goals as goal

pub remove_child-child-requires-clause-branch : goal.remove_child-child-requires-clause-branch
remove_child-child-requires-clause-branch g c = sym c.is_branch.ensures ∙ c.if-is_branch.true

pub remove_child-child-requires-clause-in_bounds : goal.remove_child-child-requires-clause-in_bounds
remove_child-child-requires-clause-in_bounds g c = last_place c.len-last.result (length c.args.self.now.parts) c.len-last.ensures.value c.requires.more

pub insert_child-requires-clause-branch : goal.insert_child-requires-clause-branch
insert_child-requires-clause-branch g c = c.requires.kind ∙ sym c.is_branch.ensures ∙ c.if-is_branch.true

pub insert_child-requires-clause-room : goal.insert_child-requires-clause-room
insert_child-requires-clause-room g c = c.requires.room

pub insert_child-requires-clause-some : goal.insert_child-requires-clause-some
insert_child-requires-clause-some g c = c.remove_child-child.ensures.taken.some

pub insert_child-requires-clause-level : goal.insert_child-requires-clause-level
insert_child-requires-clause-level g c = λ some. c.requires.level ∙ c.remove_child-child.ensures.taken.level

pub returns-then-is_branch-clause-level : goal.returns-then-is_branch-clause-level
returns-then-is_branch-clause-level g c =
    let some = removed_some c.args.self.now.parts _ (c.len-last.result - 1) c.remove_child-child.ensures.rest (last_place c.len-last.result (length c.args.self.now.parts) c.len-last.ensures.value c.requires.more) c.requires.more in
    record { kind = c.remove_child-child.ensures.branch ∙ sym (sym c.is_branch.ensures ∙ c.if-is_branch.true); height = c.remove_child-child.ensures.same_level some; some = some }

pub returns-then-is_branch-clause-second_level : goal.returns-then-is_branch-clause-second_level
returns-then-is_branch-clause-second_level g c = record { kind = same_kind c.insert_child.ensures ∙ sym (c.requires.kind ∙ sym c.is_branch.ensures ∙ c.if-is_branch.true); height = same_height c.insert_child.ensures ∙ sym (c.requires.level ∙ c.remove_child-child.ensures.taken.level); some = some_more _ (length c.args.second.now.parts) (inserted_more c.args.second.now.parts _ 0 _ (same_parts c.insert_child.ensures) (omega arith)) }

pub returns-then-is_branch-clause-fewer : goal.returns-then-is_branch-clause-fewer
returns-then-is_branch-clause-fewer g c = removed_fewer c.args.self.now.parts _ (c.len-last.result - 1) c.remove_child-child.ensures.rest (last_place c.len-last.result (length c.args.self.now.parts) c.len-last.ensures.value c.requires.more)

pub returns-then-is_branch-clause-second_more : goal.returns-then-is_branch-clause-second_more
returns-then-is_branch-clause-second_more g c = inserted_more c.args.second.now.parts _ 0 _ (same_parts c.insert_child.ensures) (omega arith)

pub remove_row-key-requires-clause-leaf : goal.remove_row-key-requires-clause-leaf
remove_row-key-requires-clause-leaf g c = sym c.is_branch.ensures ∙ c.if-is_branch.false

pub remove_row-key-requires-clause-in_bounds : goal.remove_row-key-requires-clause-in_bounds
remove_row-key-requires-clause-in_bounds g c = last_place c.len-last.result (length c.args.self.now.parts) c.len-last.ensures.value c.requires.more

pub insert_row-requires-clause-leaf : goal.insert_row-requires-clause-leaf
insert_row-requires-clause-leaf g c = c.requires.kind ∙ sym c.is_branch.ensures ∙ c.if-is_branch.false

pub insert_row-requires-clause-room : goal.insert_row-requires-clause-room
insert_row-requires-clause-room g c = c.requires.room

pub returns-else-is_branch-clause-level : goal.returns-else-is_branch-clause-level
returns-else-is_branch-clause-level g c = record { kind = same_kind c.remove_row-key.ensures.rest; height = same_height c.remove_row-key.ensures.rest; some = removed_some c.args.self.now.parts _ (c.len-last.result - 1) (same_parts c.remove_row-key.ensures.rest) (last_place c.len-last.result (length c.args.self.now.parts) c.len-last.ensures.value c.requires.more) c.requires.more }

pub returns-else-is_branch-clause-second_level : goal.returns-else-is_branch-clause-second_level
returns-else-is_branch-clause-second_level g c = record { kind = same_kind c.insert_row.ensures; height = same_height c.insert_row.ensures; some = some_more _ (length c.args.second.now.parts) (inserted_more c.args.second.now.parts _ 0 _ (same_parts c.insert_row.ensures) (omega arith)) }

pub returns-else-is_branch-clause-fewer : goal.returns-else-is_branch-clause-fewer
returns-else-is_branch-clause-fewer g c = removed_fewer c.args.self.now.parts _ (c.len-last.result - 1) (same_parts c.remove_row-key.ensures.rest) (last_place c.len-last.result (length c.args.self.now.parts) c.len-last.ensures.value c.requires.more)

pub returns-else-is_branch-clause-second_more : goal.returns-else-is_branch-clause-second_more
returns-else-is_branch-clause-second_more g c = inserted_more c.args.second.now.parts _ 0 _ (same_parts c.insert_row.ensures) (omega arith)

pub returns-else-is_branch-clause-filled : goal.returns-else-is_branch-clause-filled
returns-else-is_branch-clause-filled g c = λ edge a b. rw (same_fills c.remove_row-key.ensures.rest, same_fills c.insert_row.ensures) (a, b)

pub returns-then-is_branch-clause-all : goal.returns-then-is_branch-clause-all
returns-then-is_branch-clause-all g c =
    let put = same_parts c.insert_child.ensures in
    let at = c.len-last.ensures.value in
    rw (put, c.remove_child-child.ensures.rest) (move_last c.args.self.now.parts c.args.second.now.parts _ _ (omega arith) c.remove_child-child.ensures.taken.entry)

pub returns-else-is_branch-clause-all : goal.returns-else-is_branch-clause-all
returns-else-is_branch-clause-all g c =
    let put = same_parts c.insert_row.ensures in
    let gone = same_parts c.remove_row-key.ensures.rest in
    let at = c.len-last.ensures.value in
    rw (put, gone) (move_last c.args.self.now.parts c.args.second.now.parts _ _ (omega arith) c.remove_row-key.ensures.value)

pub returns-then-is_branch-clause-filled : goal.returns-then-is_branch-clause-filled
returns-then-is_branch-clause-filled g c = λ edge a b.
    let at = c.len-last.ensures.value in
    let moved = last_moved edge c.args.self.now.fills c.args.second.now.fills _ (fill_of c.remove_child-child.result.value) (omega (arith, c.remove_child-child.ensures.taken.fills)) c.remove_child-child.ensures.taken.fill a b in
    let put = same_fills c.insert_child.ensures in
    rw (put, c.remove_child-child.ensures.rest_fills) moved
