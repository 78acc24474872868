use Rattle.tf_btree.proofs.Words.{sym, ◌∙◌, ap, suc, unbox}
use Rattle.tf_btree.proofs.Entries.{same_kind, same_height}
use Rattle.tf_btree.proofs.Roots.{empty_fits, empty_any, raised_some, raised_fits, raised_rows, raised_root}
use Rattle.tf_btree.proofs.node.root.raise.Goals as goal

pub insert_child-requires-clause-branch : goal.insert_child-requires-clause-branch
insert_child-requires-clause-branch g c = same_kind (c.deref_mut.ensures.value ∙ ap unbox c.swap.ensures.x_after ∙ c.requires.empty)

pub insert_child-requires-clause-room : goal.insert_child-requires-clause-room
insert_child-requires-clause-room g c = empty_fits _ (c.deref_mut.ensures.value ∙ ap unbox c.swap.ensures.x_after ∙ c.requires.empty)

pub insert_child-requires-clause-some : goal.insert_child-requires-clause-some
insert_child-requires-clause-some g c = rw c.swap.ensures.y_after c.requires.some

pub insert_child-requires-clause-level : goal.insert_child-requires-clause-level
insert_child-requires-clause-level g c = λ some. empty_any _ _ (c.deref_mut.ensures.value ∙ ap unbox c.swap.ensures.x_after ∙ c.requires.empty) some

pub insert_child-requires-2-clause-branch : goal.insert_child-requires-2-clause-branch
insert_child-requires-2-clause-branch g c = same_kind (c.deref_mut-2.ensures.value ∙ c.insert_child.ensures)

pub insert_child-requires-2-clause-in_bounds : goal.insert_child-requires-2-clause-in_bounds
insert_child-requires-2-clause-in_bounds g c = raised_some c.deref_mut.result.now c.deref_mut-2.result.now c.swap.new.y.value (c.deref_mut.ensures.value ∙ ap unbox c.swap.ensures.x_after ∙ c.requires.empty) (c.deref_mut-2.ensures.value ∙ c.insert_child.ensures)

pub insert_child-requires-2-clause-room : goal.insert_child-requires-2-clause-room
insert_child-requires-2-clause-room g c = raised_fits c.deref_mut.result.now c.deref_mut-2.result.now c.swap.new.y.value (c.deref_mut.ensures.value ∙ ap unbox c.swap.ensures.x_after ∙ c.requires.empty) (c.deref_mut-2.ensures.value ∙ c.insert_child.ensures)

pub insert_child-requires-2-clause-some : goal.insert_child-requires-2-clause-some
insert_child-requires-2-clause-some g c = c.requires.right_some

pub insert_child-requires-2-clause-level : goal.insert_child-requires-2-clause-level
insert_child-requires-2-clause-level g c = λ some. same_height (c.deref_mut-2.ensures.value ∙ c.insert_child.ensures) ∙ ap suc (ap (λ b. b.value.height) c.swap.ensures.y_after ∙ sym c.requires.level)

pub returns-clause-all : goal.returns-clause-all
returns-clause-all g c =
    let left = ap unbox c.swap.ensures.y_after in
    rw left at (raised_rows c.deref_mut.result.now c.deref_mut-2.result.now c.swap.new.y.value (c.deref_mut.ensures.value ∙ ap unbox c.swap.ensures.x_after ∙ c.requires.empty) (c.deref_mut-2.ensures.value ∙ c.insert_child.ensures) c.insert_child-2.new.self c.args.right.value c.insert_child-2.ensures)

pub returns-clause-root : goal.returns-clause-root
returns-clause-root g c =
    let left = ap unbox c.swap.ensures.y_after in
    raised_root c.deref_mut.result.now c.deref_mut-2.result.now c.swap.new.y.value (c.deref_mut.ensures.value ∙ ap unbox c.swap.ensures.x_after ∙ c.requires.empty) (c.deref_mut-2.ensures.value ∙ c.insert_child.ensures) c.insert_child-2.new.self c.args.right.value c.insert_child-2.ensures (rw left c.requires.filled) c.requires.right_filled
