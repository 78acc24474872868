use Rattle.tf_btree.proofs.Words.{None, refl, ◌∙◌, ap, append-nil, joined}
use Rattle.tf_btree.proofs.Entries.{same_parts}
use Rattle.tf_btree.proofs.Adopted.{full_is, at_most, adopted_parted, adopted_filled}
use Rattle.tf_btree.proofs.node.Node.adopt.Goals as goal

pub insert_child-requires-clause-branch : goal.insert_child-requires-clause-branch
insert_child-requires-clause-branch g c = c.requires.branch

pub insert_child-requires-clause-in_bounds : goal.insert_child-requires-clause-in_bounds
insert_child-requires-clause-in_bounds g c = c.requires.in_bounds

pub insert_child-requires-clause-room : goal.insert_child-requires-clause-room
insert_child-requires-clause-room g c = rw (← c.len.ensures.value) c.if-len-lt-CAPACITY.true

pub insert_child-requires-clause-some : goal.insert_child-requires-clause-some
insert_child-requires-clause-some g c = c.requires.some

pub insert_child-requires-clause-level : goal.insert_child-requires-clause-level
insert_child-requires-clause-level g c = λ some. c.requires.level

pub returns-then-len-lt-CAPACITY-clause-all : goal.returns-then-len-lt-CAPACITY-clause-all
returns-then-len-lt-CAPACITY-clause-all g c = append-nil _ ∙ ap joined (same_parts c.insert_child.ensures)

pub returns-then-len-lt-CAPACITY-clause-parted : goal.returns-then-len-lt-CAPACITY-clause-parted
returns-then-len-lt-CAPACITY-clause-parted g c = adopted_parted c.args.self.now c.insert_child.new.self c.args.child.value c.args.at c.insert_child.ensures c.requires.branch c.requires.in_bounds c.requires.level None refl

pub returns-then-len-lt-CAPACITY-clause-filled : goal.returns-then-len-lt-CAPACITY-clause-filled
returns-then-len-lt-CAPACITY-clause-filled g c = λ half all. adopted_filled c.args.self.now c.insert_child.new.self c.args.child.value c.args.at c.insert_child.ensures c.requires.branch c.requires.in_bounds c.requires.level c.args.at_edge half all

pub unwrap-right-requires : goal.unwrap-right-requires
unwrap-right-requires g c = c.requires.room (full_is _ _ c.len.ensures.value c.len.ensures.fits c.if-len-lt-CAPACITY.false)

pub split_with_child-requires-clause-branch : goal.split_with_child-requires-clause-branch
split_with_child-requires-clause-branch g c = c.requires.branch

pub split_with_child-requires-clause-full : goal.split_with_child-requires-clause-full
split_with_child-requires-clause-full g c = full_is _ _ c.len.ensures.value c.len.ensures.fits c.if-len-lt-CAPACITY.false

pub split_with_child-requires-clause-in_bounds : goal.split_with_child-requires-clause-in_bounds
split_with_child-requires-clause-in_bounds g c = at_most c.args.at _ _ c.requires.in_bounds c.len.ensures.value c.len.ensures.fits

pub split_with_child-requires-clause-some : goal.split_with_child-requires-clause-some
split_with_child-requires-clause-some g c = c.requires.some

pub split_with_child-requires-clause-level : goal.split_with_child-requires-clause-level
split_with_child-requires-clause-level g c = c.requires.level

pub split_with_child-requires-clause-empty : goal.split_with_child-requires-clause-empty
split_with_child-requires-clause-empty g c = rw c.unwrap-right.ensures at c.requires.empty

pub returns-clause-all : goal.returns-clause-all
returns-clause-all g c = c.split_with_child.ensures.split.all

pub returns-clause-parted : goal.returns-clause-parted
returns-clause-parted g c = record { level = c.split_with_child.ensures.split.level; behind = c.split_with_child.ensures.split.beside; full = λ some. rw (← c.len.ensures.value) c.if-len-lt-CAPACITY.false; entries = tt }

pub returns-clause-filled : goal.returns-clause-filled
returns-clause-filled g c = λ half all. c.split_with_child.ensures.filled all
