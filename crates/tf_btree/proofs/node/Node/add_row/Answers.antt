use Rattle.tf_btree.proofs.Words.{None, refl, sym, ◌∙◌, ap, append-nil, joined, rows}
use Rattle.tf_btree.proofs.Entries.{same_parts}
use Rattle.tf_btree.proofs.Placed.{value_gap}
use Rattle.tf_btree.proofs.Edited.{with_row_gap}
use Rattle.tf_btree.proofs.Grown.{insert_long, grown_entries, grown_level, grown_filled}
use Rattle.tf_btree.proofs.Adopted.{no_true, not_false, full_is, at_most, parted_whole, parted_same}
use Rattle.tf_btree.proofs.node.Node.add_row.Goals as goal

pub insert_row-requires-clause-leaf : goal.insert_row-requires-clause-leaf
insert_row-requires-clause-leaf g c = c.requires.leaf

pub insert_row-requires-clause-in_bounds : goal.insert_row-requires-clause-in_bounds
insert_row-requires-clause-in_bounds g c = c.requires.gap.in_range

pub insert_row-requires-clause-room : goal.insert_row-requires-clause-room
insert_row-requires-clause-room g c = rw (← c.len.ensures.value) c.if-len-lt-CAPACITY.true

pub returns-then-len-lt-CAPACITY-clause-kept : goal.returns-then-len-lt-CAPACITY-clause-kept
returns-then-len-lt-CAPACITY-clause-kept g c = tt

pub returns-then-len-lt-CAPACITY-clause-may : goal.returns-then-len-lt-CAPACITY-clause-may
returns-then-len-lt-CAPACITY-clause-may g c = λ some. no_true _ some

pub returns-then-len-lt-CAPACITY-clause-parted : goal.returns-then-len-lt-CAPACITY-clause-parted
returns-then-len-lt-CAPACITY-clause-parted g c = parted_whole _ _ None refl (grown_level c.args.self.now c.insert_row.new.self _ c.insert_row.ensures (insert_long c.args.self.now.parts c.args.at _ c.requires.gap.in_range) c.requires.some) (grown_entries c.args.self.now c.insert_row.new.self _ c.insert_row.ensures (insert_long c.args.self.now.parts c.args.at _ c.requires.gap.in_range))

pub returns-then-len-lt-CAPACITY-clause-filled : goal.returns-then-len-lt-CAPACITY-clause-filled
returns-then-len-lt-CAPACITY-clause-filled g c = grown_filled c.args.self.now c.insert_row.new.self _ c.insert_row.ensures (insert_long c.args.self.now.parts c.args.at _ c.requires.gap.in_range) c.args.standing.at_edge

pub returns-then-not-standing-clause-kept : goal.returns-then-not-standing-clause-kept
returns-then-not-standing-clause-kept g c = (refl, refl)

pub returns-then-not-standing-clause-may : goal.returns-then-not-standing-clause-may
returns-then-not-standing-clause-may g c = λ some. no_true _ some

pub returns-then-not-standing-clause-parted : goal.returns-then-not-standing-clause-parted
returns-then-not-standing-clause-parted g c = parted_same _ None refl c.requires.some

pub returns-then-not-standing-clause-filled : goal.returns-then-not-standing-clause-filled
returns-then-not-standing-clause-filled g c = λ old. old

pub returns-in-None-clause-kept : goal.returns-in-None-clause-kept
returns-in-None-clause-kept g c = (refl, refl)

pub returns-in-None-clause-may : goal.returns-in-None-clause-may
returns-in-None-clause-may g c = λ some. no_true _ some

pub returns-in-None-clause-parted : goal.returns-in-None-clause-parted
returns-in-None-clause-parted g c = parted_same _ None refl c.requires.some

pub returns-in-None-clause-filled : goal.returns-in-None-clause-filled
returns-in-None-clause-filled g c = λ old. old

pub split_with_row-requires-clause-leaf : goal.split_with_row-requires-clause-leaf
split_with_row-requires-clause-leaf g c = c.requires.leaf

pub split_with_row-requires-clause-full : goal.split_with_row-requires-clause-full
split_with_row-requires-clause-full g c = full_is _ _ c.len.ensures.value c.len.ensures.fits c.if-len-lt-CAPACITY.false

pub split_with_row-requires-clause-in_bounds : goal.split_with_row-requires-clause-in_bounds
split_with_row-requires-clause-in_bounds g c = at_most c.args.at _ _ c.requires.gap.in_range c.len.ensures.value c.len.ensures.fits

pub split_with_row-requires-clause-empty : goal.split_with_row-requires-clause-empty
split_with_row-requires-clause-empty g c = c.in-Some.ensures

pub returns-in-Some-clause-kept : goal.returns-in-Some-clause-kept
returns-in-Some-clause-kept g c = tt

pub returns-in-Some-clause-may : goal.returns-in-Some-clause-may
returns-in-Some-clause-may g c = λ some. not_false c.args.standing.may_split c.if-not-standing.false

pub returns-in-Some-clause-parted : goal.returns-in-Some-clause-parted
returns-in-Some-clause-parted g c = record { level = c.split_with_row.ensures.split.level; behind = c.split_with_row.ensures.split.beside; full = λ some. rw (← c.len.ensures.value) c.if-len-lt-CAPACITY.false; entries = tt }

pub returns-in-Some-clause-filled : goal.returns-in-Some-clause-filled
returns-in-Some-clause-filled g c = λ old. (c.split_with_row.ensures.filled, c.split_with_row.ensures.right_filled)

pub returns-then-len-lt-CAPACITY-clause-rows : goal.returns-then-len-lt-CAPACITY-clause-rows
returns-then-len-lt-CAPACITY-clause-rows g c = record {
  all = append-nil (rows c.insert_row.new.self) ∙ ap joined (same_parts c.insert_row.ensures) ∙ sym (with_row_gap _ _ _ _ _ c.requires.gap);
  value = sym (value_gap _ _ _ _ c.requires.gap);
  absent = tt;
}

pub returns-then-not-standing-clause-rows : goal.returns-then-not-standing-clause-rows
returns-then-not-standing-clause-rows g c = record { all = tt; value = tt; absent = value_gap _ _ _ _ c.requires.gap }

pub returns-in-None-clause-rows : goal.returns-in-None-clause-rows
returns-in-None-clause-rows g c = record { all = tt; value = tt; absent = value_gap _ _ _ _ c.requires.gap }

pub returns-in-Some-clause-rows : goal.returns-in-Some-clause-rows
returns-in-Some-clause-rows g c = record {
  all = c.split_with_row.ensures.split.all ∙ sym (with_row_gap _ _ _ _ _ c.requires.gap);
  value = sym (value_gap _ _ _ _ c.requires.gap);
  absent = tt;
}
