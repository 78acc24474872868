use Rattle.tf_btree.proofs.Words.{rules, Bool, remove, Some, length, refl, sym, ◌∙◌, ap, arith, nil_from_length, length-set, length-remove, with_value, IsFilled, one_more, edge_at, joined, rows, fill_of, value_at}
use Rattle.tf_btree.proofs.Entries.{child_at, same_kind, same_height, same_parts, same_fills, length-seen, room_after}
use Rattle.tf_btree.proofs.Runs.{entry_value}
use Rattle.tf_btree.proofs.Placed.{value_below, value_gap, value_found}
use Rattle.tf_btree.proofs.Parts.{joined-set, joined-remove}
use Rattle.tf_btree.proofs.Edited.{without_row_at, without_row_gap, without_row_child}
use Rattle.tf_btree.proofs.Filled.{IsFilled-more, filled_more, filled_fewer, filled_fewer_than, filled_short, filled_without, empty_edge}
use Rattle.tf_btree.proofs.Children.{IsLeft, child_put, child_gone, child_filled, room_set}
use Rattle.tf_btree.proofs.node.Node.+remove.Goals as goal
use Rattle.tf_btree.proofs.node.Node.+remove.Goals.{then-len-eq0, else-len-eq0}

pub find_row-requires-clause-leaf : goal.find_row-requires-clause-leaf
find_row-requires-clause-leaf g t c = sym c.is_branch.ensures ∙ c.if-not-is_branch.true

pub find_row-requires-clause-rising : goal.find_row-requires-clause-rising
find_row-requires-clause-rising g t c = c.requires.rising

pub remove_row-requires-clause-leaf : goal.remove_row-requires-clause-leaf
remove_row-requires-clause-leaf g t c = sym c.is_branch.ensures ∙ c.if-not-is_branch.true

pub remove_row-requires-clause-in_bounds : goal.remove_row-requires-clause-in_bounds
remove_row-requires-clause-in_bounds g t c = c.in-Ok.ensures.found.in_range

pub returns-in-Ok-clause-kind : goal.returns-in-Ok-clause-kind
returns-in-Ok-clause-kind g t c = same_kind c.remove_row.ensures.rest

pub returns-in-Ok-clause-level : goal.returns-in-Ok-clause-level
returns-in-Ok-clause-level g t c = λ some. same_height c.remove_row.ensures.rest

pub returns-in-Err-clause-kind : goal.returns-in-Err-clause-kind
returns-in-Err-clause-kind g t c = refl

pub returns-in-Err-clause-level : goal.returns-in-Err-clause-level
returns-in-Err-clause-level g t c = λ some. refl

pub find_child-at-requires-clause-branch : goal.find_child-at-requires-clause-branch
find_child-at-requires-clause-branch g t c = sym c.is_branch.ensures ∙ c.if-not-is_branch.false

pub find_child-at-requires-clause-rising : goal.find_child-at-requires-clause-rising
find_child-at-requires-clause-rising g t c = c.requires.rising

pub find_child-at-requires-clause-some : goal.find_child-at-requires-clause-some
find_child-at-requires-clause-some g t c = c.requires.some

pub returns-in-Ok-clause-rows : goal.returns-in-Ok-clause-rows
returns-in-Ok-clause-rows g t c = ap joined (same_parts c.remove_row.ensures.rest) ∙ sym (without_row_at _ _ _ _ c.in-Ok.ensures.found)

pub returns-in-Ok-clause-value : goal.returns-in-Ok-clause-value
returns-in-Ok-clause-value g t c =
    let at = c.in-Ok.ensures.found in
    ap Some (entry_value _ _ _ _ c.remove_row.ensures.value at.row.2) ∙ sym (value_found _ _ _ _ at)

pub returns-in-Err-clause-rows : goal.returns-in-Err-clause-rows
returns-in-Err-clause-rows g t c = sym (without_row_gap _ _ _ _ c.in-Err.ensures.absent)

pub returns-in-Err-clause-value : goal.returns-in-Err-clause-value
returns-in-Err-clause-value g t c = sym (value_gap _ _ _ _ c.in-Err.ensures.absent)

pub remove-removed-requires : goal.remove-removed-requires
remove-removed-requires g t c κs within =
    let branch = sym c.is_branch.ensures ∙ c.if-not-is_branch.false in
    let child = child_at _ _ _ _ _ _ _ _ branch c.self.invariant.0 c.self.view_is c.find_child-at.ensures.in_range c.index_mut.ensures.value c.deref_mut-child.ensures.value in
    let level = child.level in
    let rising = child.rising g.K.Ord.cmp c.requires.rising in
    let some = child.some in
    search rules

pub invariant_of-self : goal.invariant_of-self
invariant_of-self g t c =
    let branch = sym c.is_branch.ensures ∙ c.if-not-is_branch.false in
    let long = length-seen _ _ _ _ _ c.self.invariant.0 c.self.view_is in
    let shorter = length-remove c.self.inside.keys.items c.find_child-at.result (omega (arith, c.find_child-at.ensures.in_range)) in
    let gone = child_gone _ _ _ _ _ _ _ _ _ branch c.self.invariant.0 c.self.view_is c.remove.ensures.items c.remove-then-len-eq0.ensures.items in
    let fewer = ap length c.remove.ensures.items in
    (gone.node, room_after _ _ _ _ _ _ _ _ _ _ c.self.invariant.1 (omega (arith, c.self.invariant.1.entries_fit)) (omega arith) (omega arith) (omega arith))

pub invariant_of-self-else-len-eq0 : goal.invariant_of-self-else-len-eq0
invariant_of-self-else-len-eq0 g t c =
    let branch = sym c.is_branch.ensures ∙ c.if-not-is_branch.false in
    let child = child_at _ _ _ _ _ _ _ _ branch c.self.invariant.0 c.self.view_is c.find_child-at.ensures.in_range c.index_mut.ensures.value c.deref_mut-child.ensures.value in
    let some = c.if-len-eq0.false in
    let long = c.len.ensures.value in
    let put = child_put _ _ _ _ _ _ _ _ _ branch c.self.invariant.0 c.self.view_is c.find_child-at.ensures.in_range child c.first-first.ensures.key (c.remove-removed.ensures.level (omega arith)) c.first-first.ensures.counted in
    (put.node, room_set _ _ _ _ _ _ _ _ c.self.invariant.1)

pub returns-in-Ok-clause-filled : goal.returns-in-Ok-clause-filled
returns-in-Ok-clause-filled g t c = λ edge old.
    let at = c.in-Ok.ensures.found.in_range in
    let shorter = length-remove c.args.self.now.parts c.in-Ok.at at in
    let parts = ap length (same_parts c.remove_row.ensures.rest) in
    filled_fewer edge c.args.self.now c.remove_row.new.self (same_fills c.remove_row.ensures.rest) (omega arith) old

pub returns-in-Err-clause-filled : goal.returns-in-Err-clause-filled
returns-in-Err-clause-filled g t c = λ edge old. IsFilled-more edge (fill_of c.args.self.now) old

pub returns : goal.returns
returns g t c =
    let branch = sym c.is_branch.ensures ∙ c.if-not-is_branch.false in
    let child = child_at _ _ _ _ _ _ _ _ branch c.self.invariant.0 c.self.view_is c.find_child-at.ensures.in_range c.index_mut.ensures.value c.deref_mut-child.ensures.value in
    let at = c.find_child-at.ensures in
    let new = c.remove-removed.new.self in
    let less = without_row_child _ _ _ _ _ _ at child.entry c.remove-removed.ensures.rows in
    let done : (edge : Bool) → IsFilled edge (fill_of c.args.self.now) → IsFilled (edge_at edge c.args.self.now.fills c.find_child-at.result) (one_more (fill_of new)) =
    λ edge old. c.remove-removed.ensures.filled (edge_at edge c.args.self.now.fills c.find_child-at.result) (child_filled edge _ c.args.self.now c.find_child-at.result c.deref_mut-child.result.now child at.in_range refl old.below) in
    let here : IsLeft g.K.Ord.cmp c.args.key.now c.find_child-at.result c.args.self.now c.if-len-eq0.self =
    elim c.if-len-eq0.branch [
      | then-len-eq0 w ↦
          let gone = child_gone _ _ _ _ _ _ _ _ (with_value c.index_mut.result.now new) branch c.self.invariant.0 c.self.view_is w.remove.ensures.items w.remove-then-len-eq0.ensures.items in
          let empty = sym c.len.ensures.value ∙ w.if-len-eq0.true in
          let none = nil_from_length new.parts empty in
          rw w.self-is record {
            rows = rw gone.parts (joined-remove c.args.self.now.parts c.find_child-at.result ∙ rw none at less);
            height = gone.height;
            filled = λ edge old.
                let off = empty_edge edge c.args.self.now.fills c.find_child-at.result (fill_of new) (done edge old) empty in
                rw gone.fills (
                  filled_more edge c.find_child-at.result (remove c.args.self.now.fills c.find_child-at.result) (filled_without edge c.args.self.now.fills c.find_child-at.result (omega (arith, child.fills, at.in_range)) old.below),
                  λ e. absurd (off e),
                );
          }
      | else-len-eq0 w ↦
          let some = w.if-len-eq0.false in
          let long = c.len.ensures.value in
          let put = child_put _ _ _ _ _ _ _ (with_value c.index_mut.result.now new) _ branch c.self.invariant.0 c.self.view_is at.in_range child w.first-first.ensures.key (c.remove-removed.ensures.level (omega arith)) w.first-first.ensures.counted in
          let same = length-set c.args.self.now.parts c.find_child-at.result (rows new) in
          rw w.self-is record {
            rows = rw put.parts (joined-set c.args.self.now.parts c.find_child-at.result (rows new) at.in_range ∙ less);
            height = λ more. put.height;
            filled = λ edge old. rw (put.fills, put.parts) (
              filled_short edge c.args.self.now.fills c.find_child-at.result (fill_of new) (omega (arith, child.fills, at.in_range)) old.below (done edge old),
              λ e. let n = old.half e in omega arith,
            );
          }
    ] in
    record {
      rows = c.mend.ensures.all ∙ here.rows;
      value = c.remove-removed.ensures.value ∙ sym (value_below _ _ _ _ at ∙ ap (λ r. value_at g.K.Ord.cmp c.args.key.now r) child.entry);
      kind = c.mend.ensures.kind ∙ sym branch;
      level = λ some. c.mend.ensures.level ∙ here.height (c.mend.ensures.entries some);
      filled = λ edge old.
          let left = here.filled edge old in
          filled_fewer_than edge c.mend.new.self (c.mend.ensures.filled edge (λ e. let n = left.1 e in omega arith) left.0) (λ e. let n = left.1 e in omega (arith, c.mend.ensures.fewer));
    }
