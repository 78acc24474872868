use Rattle.tf_btree.proofs.Roots.{kept_root}
use Rattle.tf_btree.proofs.node.root.insert_at_root.Goals as goal

pub insert_in_place-requires-clause-rising : goal.insert_in_place-requires-clause-rising
insert_in_place-requires-clause-rising g c = rw c.deref_mut.ensures.value c.requires.rising

pub insert_in_place-requires-clause-some : goal.insert_in_place-requires-clause-some
insert_in_place-requires-clause-some g c = rw c.deref_mut.ensures.value c.requires.root.some

pub returns-in-Some-clause-rows : goal.returns-in-Some-clause-rows
returns-in-Some-clause-rows g c = rw (← c.deref_mut.ensures.value) record { all = c.in-Some.ensures.all; value = c.in-Some.ensures.value; absent = tt }

pub returns-in-Some-clause-kept : goal.returns-in-Some-clause-kept
returns-in-Some-clause-kept g c = tt

pub returns-in-Some-clause-root : goal.returns-in-Some-clause-root
returns-in-Some-clause-root g c = kept_root c.deref_mut.result.now c.insert_in_place.new.self (rw c.deref_mut.ensures.value c.requires.root) c.insert_in_place.ensures.level c.insert_in_place.ensures.entries (c.insert_in_place.ensures.filled _)

pub insert_without_split-requires-clause-rising : goal.insert_without_split-requires-clause-rising
insert_without_split-requires-clause-rising g c = rw (c.in_default.ensures.kept, c.deref_mut.ensures.value) c.requires.rising

pub insert_without_split-requires-clause-root : goal.insert_without_split-requires-clause-root
insert_without_split-requires-clause-root g c = rw (c.in_default.ensures.kept, c.deref_mut.ensures.value) c.requires.root

pub insert_with_split-requires-clause-rising : goal.insert_with_split-requires-clause-rising
insert_with_split-requires-clause-rising g c = rw (c.in-Err.ensures.kept, c.in_default.ensures.kept, c.deref_mut.ensures.value) c.requires.rising

pub insert_with_split-requires-clause-root : goal.insert_with_split-requires-clause-root
insert_with_split-requires-clause-root g c = c.insert_without_split.ensures.root

pub returns-in-Ok-clause-rows : goal.returns-in-Ok-clause-rows
returns-in-Ok-clause-rows g c = rw (c.in_default.ensures.kept, c.deref_mut.ensures.value) at c.in-Ok.ensures.rows

pub returns-in-Ok-clause-kept : goal.returns-in-Ok-clause-kept
returns-in-Ok-clause-kept g c = tt

pub returns-in-Ok-clause-root : goal.returns-in-Ok-clause-root
returns-in-Ok-clause-root g c = c.insert_without_split.ensures.root

pub returns-in-Err-clause-rows : goal.returns-in-Err-clause-rows
returns-in-Err-clause-rows g c = rw (c.in-Err.ensures.kept, c.in_default.ensures.kept, c.deref_mut.ensures.value) at c.insert_with_split.ensures.rows

pub returns-in-Err-clause-kept : goal.returns-in-Err-clause-kept
returns-in-Err-clause-kept g c = rw (c.in-Err.ensures.kept, c.in_default.ensures.kept, c.deref_mut.ensures.value) at c.insert_with_split.ensures.kept

pub returns-in-Err-clause-root : goal.returns-in-Err-clause-root
returns-in-Err-clause-root g c = c.insert_with_split.ensures.root
