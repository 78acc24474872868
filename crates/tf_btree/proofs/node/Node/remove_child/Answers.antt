use Rattle.tf_btree.proofs.Words.{refl, ◌∙◌, arith, length-map, length-remove, unboxed}
use Rattle.tf_btree.proofs.Runs.{AllChildren-remove, height_over-high}
use Rattle.tf_btree.proofs.Entries.{mapped, same_kind, length-seen, room_after, branch_node, child_at, unboxed-remove}
use Rattle.tf_btree.proofs.node.Node.remove_child.Goals as goal

pub invariant_of-self : goal.invariant_of-self
invariant_of-self g c =
    let branch = same_kind c.self.view_is ∙ c.requires.branch in
    let old = rw branch at c.self.invariant in
    let long = length-seen _ _ _ _ _ c.self.invariant.0 c.self.view_is in
    let shorter = length-remove c.self.inside.keys.items c.args.at (omega arith) in
    rw (c.remove.ensures.items, c.remove-2.ensures.items, unboxed-remove c.self.inside.children.items c.args.at, branch) (
      branch_node _ _ _ _ old.0.kind.0 (AllChildren-remove _ _ _ old.0.kind.1) (simp (mapped, old.0.first_keys)),
      room_after _ _ _ _ _ _ _ _ _ _ old.1 (omega (arith, old.1.entries_fit)) (omega arith) (omega arith) (omega arith),
    )

pub returns-clause-taken : goal.returns-clause-taken
returns-clause-taken g c = child_at _ _ _ _ _ _ _ _ c.requires.branch c.self.invariant.0 c.self.view_is c.requires.in_bounds c.remove-2.ensures.value refl

pub returns-clause-rest : goal.returns-clause-rest
returns-clause-rest g c =
    let branch = same_kind c.self.view_is ∙ c.requires.branch in
    rw (c.remove-2.ensures.items, ← c.self.view_is, branch) (simp mapped)

pub returns-clause-rest_fills : goal.returns-clause-rest_fills
returns-clause-rest_fills g c = rw (c.remove-2.ensures.items, ← c.self.view_is) (simp mapped)

pub returns-clause-same_level : goal.returns-clause-same_level
returns-clause-same_level g c =
    let branch = same_kind c.self.view_is ∙ c.requires.branch in
    let old = rw branch at c.self.invariant in
    rw (c.remove-2.ensures.items, unboxed-remove c.self.inside.children.items c.args.at, ← c.self.view_is, branch)
    (λ some. height_over-high _ _ (AllChildren-remove _ (unboxed c.self.inside.children.items) c.args.at old.0.kind.1) (rw length-map at some))
