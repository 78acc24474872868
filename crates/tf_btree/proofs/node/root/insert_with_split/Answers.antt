use Rattle.tf_btree.proofs.Words.{refl, ◌∙◌}
use Rattle.tf_btree.proofs.Children.{on_err}
use Rattle.tf_btree.proofs.Roots.{whole_insert, whole_root, split_full, split_some, split_level, split_filled, split_insert, not_both}
use Rattle.tf_btree.proofs.node.root.insert_with_split.Goals as goal

pub insert-done-requires-clause-rising : goal.insert-done-requires-clause-rising
insert-done-requires-clause-rising g c = rw c.deref_mut.ensures.value c.requires.rising

pub insert-done-requires-clause-some : goal.insert-done-requires-clause-some
insert-done-requires-clause-some g c = rw c.deref_mut.ensures.value c.requires.root.some

pub unwrap-requires : goal.unwrap-requires
unwrap-requires g c =
    let full = rw c.deref_mut.ensures.value at (split_full c.deref_mut.result.now c.insert-done.new.self c.insert-done.result.1 c.in-Some.right c.in-Some.is c.insert-done.ensures.parted) in
    c.room_for_level-may_split.ensures.room (c.insert-done.ensures.may (rw c.in-Some.is refl)) (rw c.deref.ensures full)

pub raise-requires-clause-empty : goal.raise-requires-clause-empty
raise-requires-clause-empty g c = rw c.unwrap.ensures at c.room_for_level-may_split.ensures.empty

pub raise-requires-clause-some : goal.raise-requires-clause-some
raise-requires-clause-some g c = c.insert-done.ensures.parted.level.some

pub raise-requires-clause-right_some : goal.raise-requires-clause-right_some
raise-requires-clause-right_some g c = split_some c.deref_mut.result.now c.insert-done.new.self c.insert-done.result.1 c.in-Some.right c.in-Some.is c.insert-done.ensures.parted

pub raise-requires-clause-level : goal.raise-requires-clause-level
raise-requires-clause-level g c = split_level c.deref_mut.result.now c.insert-done.new.self c.insert-done.result.1 c.in-Some.right c.in-Some.is c.insert-done.ensures.parted

pub raise-requires-clause-filled : goal.raise-requires-clause-filled
raise-requires-clause-filled g c = (split_filled c.deref_mut.result.now c.insert-done.new.self c.insert-done.result.1 c.in-Some.right c.in-Some.is (rw c.deref_mut.ensures.value c.requires.root) c.insert-done.ensures.filled).0

pub raise-requires-clause-right_filled : goal.raise-requires-clause-right_filled
raise-requires-clause-right_filled g c = (split_filled c.deref_mut.result.now c.insert-done.new.self c.insert-done.result.1 c.in-Some.right c.in-Some.is (rw c.deref_mut.ensures.value c.requires.root) c.insert-done.ensures.filled).1

pub returns-in-None-clause-rows : goal.returns-in-None-clause-rows
returns-in-None-clause-rows g c = rw c.deref_mut.ensures.value at (whole_insert c.deref_mut.result.now c.insert-done.new.self c.insert-done.result.1 c.in-None.is _ _ _ _ _ c.insert-done.ensures.rows)

pub returns-in-None-clause-kept : goal.returns-in-None-clause-kept
returns-in-None-clause-kept g c = on_err c.insert-done.result.0 _ _ (λ same. same.0 ∙ c.deref_mut.ensures.value) c.insert-done.ensures.kept

pub returns-in-None-clause-root : goal.returns-in-None-clause-root
returns-in-None-clause-root g c = whole_root c.deref_mut.result.now c.insert-done.new.self c.insert-done.result.1 c.in-None.is (rw c.deref_mut.ensures.value c.requires.root) c.insert-done.ensures.parted c.insert-done.ensures.filled

pub returns-in-Some-clause-rows : goal.returns-in-Some-clause-rows
returns-in-Some-clause-rows g c = rw c.deref_mut.ensures.value at (split_insert c.deref_mut.result.now c.insert-done.new.self c.insert-done.result.1 c.in-Some.right c.in-Some.is _ _ _ _ _ _ c.insert-done.ensures.rows c.raise.ensures.all)

pub returns-in-Some-clause-kept : goal.returns-in-Some-clause-kept
returns-in-Some-clause-kept g c = on_err c.insert-done.result.0 _ _ (λ same. not_both _ same.1 c.in-Some.is) c.insert-done.ensures.kept

pub returns-in-Some-clause-root : goal.returns-in-Some-clause-root
returns-in-Some-clause-root g c = c.raise.ensures.root
