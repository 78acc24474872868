use Rattle.tf_btree.proofs.Words.{◌≡◌, ◌++◌, suc, refl, sym, ap, ◌∙◌, joined, rows, fill_of}
use Rattle.tf_btree.proofs.Entries.{same_kind, same_height, same_parts, same_fills}
use Rattle.tf_btree.proofs.Runs.{length_insert_pos}
use Rattle.tf_btree.proofs.Filled.{pair_filled, pair_as_one, pair_as_two, joined_filled}
use Rattle.tf_btree.proofs.Parts.{joined-append}
use Rattle.tf_btree.proofs.Pair.{joined-put_one, joined-put_two}
use Rattle.tf_btree.proofs.Mended.{same_kinds, same_levels, appended_some, rest_bounds, rest_room, one_bounds, one_room, one_fewer, two_fewer}
use Rattle.tf_btree.proofs.node.Node.mend_pair.Goals as goal

pub append-requires-clause-kind : goal.append-requires-clause-kind
append-requires-clause-kind g c = rw (c.deref_mut.ensures.value, c.deref_mut-then-len-le-CAPACITY.ensures.value) (
    same_kinds c.take_pair-first.result.0.value.is_branch c.take_pair-first.result.1.value.is_branch c.take_pair-first.result.0.value.height c.take_pair-first.result.1.value.height (same_levels _ _ _ c.take_pair-first.ensures.first_level c.take_pair-first.ensures.second_level) (rw c.deref.ensures at c.len.ensures.leaf_level) (rw c.deref.ensures at c.len.ensures.branch_level) (rw c.deref-2.ensures at c.len-2.ensures.leaf_level) (rw c.deref-2.ensures at c.len-2.ensures.branch_level))

pub append-requires-clause-level : goal.append-requires-clause-level
append-requires-clause-level g c = rw (c.deref_mut.ensures.value, c.deref_mut-then-len-le-CAPACITY.ensures.value) (same_levels _ _ _ c.take_pair-first.ensures.first_level c.take_pair-first.ensures.second_level)

pub append-requires-clause-room : goal.append-requires-clause-room
append-requires-clause-room g c = rw (c.deref_mut.ensures.value, c.deref_mut-then-len-le-CAPACITY.ensures.value, ← c.deref.ensures, ← c.deref-2.ensures, ← c.len.ensures.value, ← c.len-2.ensures.value) c.if-len-le-CAPACITY.true

pub append-requires-clause-some : goal.append-requires-clause-some
append-requires-clause-some g c = rw c.deref_mut.ensures.value c.take_pair-first.ensures.some

pub append-requires-clause-right_some : goal.append-requires-clause-right_some
append-requires-clause-right_some g c = rw c.deref_mut-then-len-le-CAPACITY.ensures.value c.take_pair-first.ensures.second_some

pub insert_child-requires-clause-branch : goal.insert_child-requires-clause-branch
insert_child-requires-clause-branch g c = c.take_pair-first.ensures.branch

pub insert_child-requires-clause-in_bounds : goal.insert_child-requires-clause-in_bounds
insert_child-requires-clause-in_bounds g c = rest_bounds c.take_pair-first.new.self.parts _ c.args.left c.take_pair-first.ensures.fewer c.requires.in_range

pub insert_child-requires-clause-room : goal.insert_child-requires-clause-room
insert_child-requires-clause-room g c = rest_room c.take_pair-first.new.self.parts _ c.args.left c.take_pair-first.ensures.fewer c.requires.in_range c.requires.fits

pub insert_child-requires-clause-some : goal.insert_child-requires-clause-some
insert_child-requires-clause-some g c = appended_some c.deref_mut.result.now.parts c.deref_mut-then-len-le-CAPACITY.result.now.parts _ (same_parts c.append.ensures.all) (rw c.deref_mut.ensures.value c.take_pair-first.ensures.some)

pub insert_child-requires-clause-level : goal.insert_child-requires-clause-level
insert_child-requires-clause-level g c = λ some. c.take_pair-first.ensures.level some ∙ c.take_pair-first.ensures.first_level ∙ ap suc (sym (same_height c.append.ensures.all ∙ same_height c.deref_mut.ensures.value))

pub returns-then-len-le-CAPACITY-clause-fewer : goal.returns-then-len-le-CAPACITY-clause-fewer
returns-then-len-le-CAPACITY-clause-fewer g c = one_fewer c.take_pair-first.new.self.parts _ c.args.left c.take_pair-first.ensures.fewer c.requires.in_range _ _ (same_parts c.insert_child.ensures)

pub returns-then-len-le-CAPACITY-clause-level : goal.returns-then-len-le-CAPACITY-clause-level
returns-then-len-le-CAPACITY-clause-level g c = record {
  kind = same_kind c.insert_child.ensures ∙ sym c.requires.branch;
  height = same_height c.insert_child.ensures ∙ ap suc (same_height c.append.ensures.all ∙ same_height c.deref_mut.ensures.value) ∙ sym c.take_pair-first.ensures.first_level;
  some = rw (same_parts c.insert_child.ensures) (length_insert_pos _ _ _);
}

pub even_out-requires-clause-kind : goal.even_out-requires-clause-kind
even_out-requires-clause-kind g c = rw (c.deref_mut-else-len-le-CAPACITY.ensures.value, c.deref_mut-else-len-le-CAPACITY-2.ensures.value) (
    same_kinds c.take_pair-first.result.0.value.is_branch c.take_pair-first.result.1.value.is_branch c.take_pair-first.result.0.value.height c.take_pair-first.result.1.value.height (same_levels _ _ _ c.take_pair-first.ensures.first_level c.take_pair-first.ensures.second_level) (rw c.deref.ensures at c.len.ensures.leaf_level) (rw c.deref.ensures at c.len.ensures.branch_level) (rw c.deref-2.ensures at c.len-2.ensures.leaf_level) (rw c.deref-2.ensures at c.len-2.ensures.branch_level))

pub even_out-requires-clause-level : goal.even_out-requires-clause-level
even_out-requires-clause-level g c = rw (c.deref_mut-else-len-le-CAPACITY.ensures.value, c.deref_mut-else-len-le-CAPACITY-2.ensures.value) (same_levels _ _ _ c.take_pair-first.ensures.second_level c.take_pair-first.ensures.first_level)

pub even_out-requires-clause-many : goal.even_out-requires-clause-many
even_out-requires-clause-many g c = rw (c.deref_mut-else-len-le-CAPACITY.ensures.value, c.deref_mut-else-len-le-CAPACITY-2.ensures.value, ← c.deref.ensures, ← c.deref-2.ensures, ← c.len.ensures.value, ← c.len-2.ensures.value) c.if-len-le-CAPACITY.false

pub even_out-requires-clause-some : goal.even_out-requires-clause-some
even_out-requires-clause-some g c = rw c.deref_mut-else-len-le-CAPACITY.ensures.value c.take_pair-first.ensures.some

pub even_out-requires-clause-second_some : goal.even_out-requires-clause-second_some
even_out-requires-clause-second_some g c = rw c.deref_mut-else-len-le-CAPACITY-2.ensures.value c.take_pair-first.ensures.second_some

pub insert_child-requires-else-len-le-CAPACITY-clause-branch : goal.insert_child-requires-else-len-le-CAPACITY-clause-branch
insert_child-requires-else-len-le-CAPACITY-clause-branch g c = c.take_pair-first.ensures.branch

pub insert_child-requires-else-len-le-CAPACITY-clause-in_bounds : goal.insert_child-requires-else-len-le-CAPACITY-clause-in_bounds
insert_child-requires-else-len-le-CAPACITY-clause-in_bounds g c = rest_bounds c.take_pair-first.new.self.parts _ c.args.left c.take_pair-first.ensures.fewer c.requires.in_range

pub insert_child-requires-else-len-le-CAPACITY-clause-room : goal.insert_child-requires-else-len-le-CAPACITY-clause-room
insert_child-requires-else-len-le-CAPACITY-clause-room g c = rest_room c.take_pair-first.new.self.parts _ c.args.left c.take_pair-first.ensures.fewer c.requires.in_range c.requires.fits

pub insert_child-requires-else-len-le-CAPACITY-clause-some : goal.insert_child-requires-else-len-le-CAPACITY-clause-some
insert_child-requires-else-len-le-CAPACITY-clause-some g c = c.even_out.ensures.second_level.some

pub insert_child-requires-else-len-le-CAPACITY-clause-level : goal.insert_child-requires-else-len-le-CAPACITY-clause-level
insert_child-requires-else-len-le-CAPACITY-clause-level g c = λ some. c.take_pair-first.ensures.level some ∙ c.take_pair-first.ensures.second_level ∙ ap suc (sym (c.even_out.ensures.second_level.height ∙ same_height c.deref_mut-else-len-le-CAPACITY-2.ensures.value))

pub insert_child-requires-else-len-le-CAPACITY-2-clause-branch : goal.insert_child-requires-else-len-le-CAPACITY-2-clause-branch
insert_child-requires-else-len-le-CAPACITY-2-clause-branch g c = same_kind c.insert_child-else-len-le-CAPACITY.ensures

pub insert_child-requires-else-len-le-CAPACITY-2-clause-in_bounds : goal.insert_child-requires-else-len-le-CAPACITY-2-clause-in_bounds
insert_child-requires-else-len-le-CAPACITY-2-clause-in_bounds g c = one_bounds c.take_pair-first.new.self.parts _ c.args.left c.take_pair-first.ensures.fewer c.requires.in_range _ _ (same_parts c.insert_child-else-len-le-CAPACITY.ensures)

pub insert_child-requires-else-len-le-CAPACITY-2-clause-room : goal.insert_child-requires-else-len-le-CAPACITY-2-clause-room
insert_child-requires-else-len-le-CAPACITY-2-clause-room g c = one_room c.take_pair-first.new.self.parts _ c.args.left c.take_pair-first.ensures.fewer c.requires.in_range _ _ (same_parts c.insert_child-else-len-le-CAPACITY.ensures) c.requires.fits

pub insert_child-requires-else-len-le-CAPACITY-2-clause-some : goal.insert_child-requires-else-len-le-CAPACITY-2-clause-some
insert_child-requires-else-len-le-CAPACITY-2-clause-some g c = c.even_out.ensures.level.some

pub insert_child-requires-else-len-le-CAPACITY-2-clause-level : goal.insert_child-requires-else-len-le-CAPACITY-2-clause-level
insert_child-requires-else-len-le-CAPACITY-2-clause-level g c = λ some. same_height c.insert_child-else-len-le-CAPACITY.ensures ∙ ap suc (c.even_out.ensures.second_level.height ∙ same_height c.deref_mut-else-len-le-CAPACITY-2.ensures.value ∙ same_levels _ _ _ c.take_pair-first.ensures.second_level c.take_pair-first.ensures.first_level ∙ sym (c.even_out.ensures.level.height ∙ same_height c.deref_mut-else-len-le-CAPACITY.ensures.value))

pub returns-else-len-le-CAPACITY-clause-fewer : goal.returns-else-len-le-CAPACITY-clause-fewer
returns-else-len-le-CAPACITY-clause-fewer g c = two_fewer c.take_pair-first.new.self.parts _ c.args.left c.take_pair-first.ensures.fewer c.requires.in_range _ _ (same_parts c.insert_child-else-len-le-CAPACITY.ensures) _ _ (same_parts c.insert_child-else-len-le-CAPACITY-2.ensures)

pub returns-else-len-le-CAPACITY-clause-level : goal.returns-else-len-le-CAPACITY-clause-level
returns-else-len-le-CAPACITY-clause-level g c = record {
  kind = same_kind c.insert_child-else-len-le-CAPACITY-2.ensures ∙ sym c.requires.branch;
  height = same_height c.insert_child-else-len-le-CAPACITY-2.ensures ∙ ap suc (c.even_out.ensures.level.height ∙ same_height c.deref_mut-else-len-le-CAPACITY.ensures.value) ∙ sym c.take_pair-first.ensures.first_level;
  some = rw (same_parts c.insert_child-else-len-le-CAPACITY-2.ensures) (length_insert_pos _ _ _);
}

pub returns-then-len-le-CAPACITY-clause-all : goal.returns-then-len-le-CAPACITY-clause-all
returns-then-len-le-CAPACITY-clause-all g c =
    let first = c.take_pair-first.result.0.value in
    let second = c.take_pair-first.result.1.value in
    let all : c.append.new.self.parts ≡ first.parts ++ second.parts = same_parts c.append.ensures.all ∙ rw (c.deref_mut.ensures.value, c.deref_mut-then-len-le-CAPACITY.ensures.value) refl in
    rw (same_parts c.insert_child.ensures) (joined-put_one _ _ _ _ _ c.take_pair-first.ensures.parts (rows c.append.new.self) (ap joined all ∙ joined-append first.parts second.parts))

pub returns-then-len-le-CAPACITY-clause-filled : goal.returns-then-len-le-CAPACITY-clause-filled
returns-then-len-le-CAPACITY-clause-filled g c = λ edge h.
    let first = c.take_pair-first.result.0.value in
    let second = c.take_pair-first.result.1.value in
    let both = pair_filled edge _ _ _ _ _ c.take_pair-first.ensures.fills h in
    let parts : c.append.new.self.parts ≡ first.parts ++ second.parts = same_parts c.append.ensures.all ∙ rw (c.deref_mut.ensures.value, c.deref_mut-then-len-le-CAPACITY.ensures.value) refl in
    let fills : c.append.new.self.fills ≡ first.fills ++ second.fills = same_fills c.append.ensures.all ∙ rw (c.deref_mut.ensures.value, c.deref_mut-then-len-le-CAPACITY.ensures.value) refl in
    let one = joined_filled _ first second c.append.new.self parts fills c.take_pair-first.ensures.second_some both.0 both.1 in
    rw (same_fills c.insert_child.ensures) (pair_as_one edge _ _ _ _ _ c.take_pair-first.ensures.fills h (fill_of c.append.new.self) one)

pub returns-else-len-le-CAPACITY-clause-all : goal.returns-else-len-le-CAPACITY-clause-all
returns-else-len-le-CAPACITY-clause-all g c =
    let same = rw (c.deref_mut-else-len-le-CAPACITY.ensures.value, c.deref_mut-else-len-le-CAPACITY-2.ensures.value) at c.even_out.ensures.all in
    rw (same_parts c.insert_child-else-len-le-CAPACITY-2.ensures, same_parts c.insert_child-else-len-le-CAPACITY.ensures) (joined-put_two _ _ _ _ _ c.take_pair-first.ensures.parts _ _ same)

pub returns-else-len-le-CAPACITY-clause-filled : goal.returns-else-len-le-CAPACITY-clause-filled
returns-else-len-le-CAPACITY-clause-filled g c = λ edge h.
    let both = pair_filled edge _ _ _ _ _ c.take_pair-first.ensures.fills h in
    let full = rw (c.deref_mut-else-len-le-CAPACITY.ensures.value, c.deref_mut-else-len-le-CAPACITY-2.ensures.value) at c.even_out.ensures.filled in
    let moved = full _ both.0 both.1 in
    rw (same_fills c.insert_child-else-len-le-CAPACITY-2.ensures, same_fills c.insert_child-else-len-le-CAPACITY.ensures) (pair_as_two edge _ _ _ _ _ c.take_pair-first.ensures.fills h _ _ moved.0 moved.1)
