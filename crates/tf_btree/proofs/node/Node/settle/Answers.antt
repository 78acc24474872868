use Rattle.tf_btree.proofs.Words.{None, refl, ◌+◌, ◌∙◌, sym, append-nil, rows}
use Rattle.tf_btree.proofs.Parts.{joined-insert_none}
use Rattle.tf_btree.proofs.Adopted.{no_true, past, some_within, parted_same, settled_filled}
use Rattle.tf_btree.proofs.Roots.{not_both}
use Rattle.tf_btree.proofs.node.Node.settle.Goals as goal

pub returns-in-None-clause-parted : goal.returns-in-None-clause-parted
returns-in-None-clause-parted g c = parted_same _ None refl (some_within c.args.at _ c.requires.in_range)

pub returns-in-None-clause-only_split : goal.returns-in-None-clause-only_split
returns-in-None-clause-only_split g c = λ some. no_true _ some

pub returns-in-None-clause-kept : goal.returns-in-None-clause-kept
returns-in-None-clause-kept g c = λ none. (refl, refl)

pub returns-in-None-clause-filled : goal.returns-in-None-clause-filled
returns-in-None-clause-filled g c = λ half all. settled_filled c.args.at_edge c.args.self.now (c.args.at + 1) half (rw c.in-None.is at all)

pub adopt-requires-clause-branch : goal.adopt-requires-clause-branch
adopt-requires-clause-branch g c = c.requires.branch

pub adopt-requires-clause-in_bounds : goal.adopt-requires-clause-in_bounds
adopt-requires-clause-in_bounds g c = past c.args.at _ c.requires.in_range

pub adopt-requires-clause-some : goal.adopt-requires-clause-some
adopt-requires-clause-some g c = rw c.in-Some.is at c.requires.some

pub adopt-requires-clause-old_some : goal.adopt-requires-clause-old_some
adopt-requires-clause-old_some g c = some_within c.args.at _ c.requires.in_range

pub adopt-requires-clause-level : goal.adopt-requires-clause-level
adopt-requires-clause-level g c = rw c.in-Some.is at c.requires.level

pub adopt-requires-clause-room : goal.adopt-requires-clause-room
adopt-requires-clause-room g c = λ full. c.requires.room (rw c.in-Some.is refl) full

pub adopt-requires-clause-empty : goal.adopt-requires-clause-empty
adopt-requires-clause-empty g c = c.requires.empty

pub returns-in-Some-clause-all : goal.returns-in-Some-clause-all
returns-in-Some-clause-all g c = rw c.in-Some.is c.adopt.ensures.all

pub returns-in-Some-clause-parted : goal.returns-in-Some-clause-parted
returns-in-Some-clause-parted g c = c.adopt.ensures.parted

pub returns-in-Some-clause-only_split : goal.returns-in-Some-clause-only_split
returns-in-Some-clause-only_split g c = λ some. rw c.in-Some.is refl

pub returns-in-Some-clause-kept : goal.returns-in-Some-clause-kept
returns-in-Some-clause-kept g c = λ none. not_both _ none c.in-Some.is

pub returns-in-Some-clause-filled : goal.returns-in-Some-clause-filled
returns-in-Some-clause-filled g c = rw c.in-Some.is c.adopt.ensures.filled

pub returns-in-None-clause-all : goal.returns-in-None-clause-all
returns-in-None-clause-all g c = rw c.in-None.is (append-nil (rows c.args.self.now) ∙ sym (joined-insert_none c.args.self.now.parts (c.args.at + 1)))
