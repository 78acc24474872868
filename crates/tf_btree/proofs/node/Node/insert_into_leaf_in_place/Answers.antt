use Rattle.tf_btree.proofs.Words.{Some, sym, ◌∙◌, ap, arith, joined, first_key}
use Rattle.tf_btree.proofs.Entries.{same_parts}
use Rattle.tf_btree.proofs.Placed.{value_gap, value_found}
use Rattle.tf_btree.proofs.Edited.{with_row_at, with_row_gap}
use Rattle.tf_btree.proofs.InPlace.{first_part, first-set, first-insert}
use Rattle.tf_btree.proofs.Grown.{set_long, insert_long, not_full, grown_entries, grown_level, grown_filled}
use Rattle.tf_btree.proofs.node.Node.insert_into_leaf_in_place.Goals as goal

pub find_row-requires-clause-leaf : goal.find_row-requires-clause-leaf
find_row-requires-clause-leaf g c = c.requires.leaf

pub find_row-requires-clause-rising : goal.find_row-requires-clause-rising
find_row-requires-clause-rising g c = c.requires.rising

pub replace_row-requires-clause-leaf : goal.replace_row-requires-clause-leaf
replace_row-requires-clause-leaf g c = c.requires.leaf

pub replace_row-requires-clause-in_range : goal.replace_row-requires-clause-in_range
replace_row-requires-clause-in_range g c = c.in-Ok.ensures.found.in_range

pub insert_row-requires-clause-leaf : goal.insert_row-requires-clause-leaf
insert_row-requires-clause-leaf g c = c.requires.leaf

pub insert_row-requires-clause-in_bounds : goal.insert_row-requires-clause-in_bounds
insert_row-requires-clause-in_bounds g c = c.in-Err.ensures.absent.in_range

pub insert_row-requires-clause-room : goal.insert_row-requires-clause-room
insert_row-requires-clause-room g c = not_full _ _ c.len.ensures.value c.len.ensures.fits c.if-len-eq-CAPACITY.false

pub returns-else-at-eq0-clause-level : goal.returns-else-at-eq0-clause-level
returns-else-at-eq0-clause-level g c = grown_level c.args.self.now c.replace_row.new.self _ c.replace_row.ensures.new (set_long c.args.self.now.parts c.in-Ok.at _) c.requires.some

pub returns-else-at-eq0-clause-entries : goal.returns-else-at-eq0-clause-entries
returns-else-at-eq0-clause-entries g c = grown_entries c.args.self.now c.replace_row.new.self _ c.replace_row.ensures.new (set_long c.args.self.now.parts c.in-Ok.at _)

pub returns-else-at-eq0-clause-filled : goal.returns-else-at-eq0-clause-filled
returns-else-at-eq0-clause-filled g c = grown_filled c.args.self.now c.replace_row.new.self _ c.replace_row.ensures.new (set_long c.args.self.now.parts c.in-Ok.at _)

pub returns-else-len-eq-CAPACITY-clause-level : goal.returns-else-len-eq-CAPACITY-clause-level
returns-else-len-eq-CAPACITY-clause-level g c = grown_level c.args.self.now c.insert_row.new.self _ c.insert_row.ensures (insert_long c.args.self.now.parts c.in-Err.at _ c.in-Err.ensures.absent.in_range) c.requires.some

pub returns-else-len-eq-CAPACITY-clause-entries : goal.returns-else-len-eq-CAPACITY-clause-entries
returns-else-len-eq-CAPACITY-clause-entries g c = grown_entries c.args.self.now c.insert_row.new.self _ c.insert_row.ensures (insert_long c.args.self.now.parts c.in-Err.at _ c.in-Err.ensures.absent.in_range)

pub returns-else-len-eq-CAPACITY-clause-filled : goal.returns-else-len-eq-CAPACITY-clause-filled
returns-else-len-eq-CAPACITY-clause-filled g c = grown_filled c.args.self.now c.insert_row.new.self _ c.insert_row.ensures (insert_long c.args.self.now.parts c.in-Err.at _ c.in-Err.ensures.absent.in_range)

pub returns-else-at-eq0-clause-all : goal.returns-else-at-eq0-clause-all
returns-else-at-eq0-clause-all g c = ap joined (same_parts c.replace_row.ensures.new) ∙ sym (with_row_at _ _ _ _ _ c.in-Ok.ensures.found)

pub returns-else-at-eq0-clause-value : goal.returns-else-at-eq0-clause-value
returns-else-at-eq0-clause-value g c =
    let at = c.in-Ok.ensures.found in
    ap Some (c.replace_row.ensures.old _ _ at.row.2) ∙ sym (value_found _ _ _ _ at)

pub returns-else-at-eq0-clause-first : goal.returns-else-at-eq0-clause-first
returns-else-at-eq0-clause-first g c =
    ap (λ p. first_key (joined p)) (same_parts c.replace_row.ensures.new)
    ∙ first-set c.args.self.now.parts c.in-Ok.at _ (omega arith) (first_part _ _ _ _ _ c.self.invariant.0 c.self.view_is c.requires.some)

pub returns-else-len-eq-CAPACITY-clause-all : goal.returns-else-len-eq-CAPACITY-clause-all
returns-else-len-eq-CAPACITY-clause-all g c = ap joined (same_parts c.insert_row.ensures) ∙ sym (with_row_gap _ _ _ _ _ c.in-Err.ensures.absent)

pub returns-else-len-eq-CAPACITY-clause-value : goal.returns-else-len-eq-CAPACITY-clause-value
returns-else-len-eq-CAPACITY-clause-value g c = sym (value_gap _ _ _ _ c.in-Err.ensures.absent)

pub returns-else-len-eq-CAPACITY-clause-first : goal.returns-else-len-eq-CAPACITY-clause-first
returns-else-len-eq-CAPACITY-clause-first g c =
    ap (λ p. first_key (joined p)) (same_parts c.insert_row.ensures)
    ∙ first-insert c.args.self.now.parts c.in-Err.at _ (omega arith) c.in-Err.ensures.absent.in_range (first_part _ _ _ _ _ c.self.invariant.0 c.self.view_is c.requires.some)
