use Rattle.std.proofs.Common.{◌≡◌, ℕ, List, Option, IfSome, Some, None, slice_get, sym, subst, take}
use Rattle.tf_table.specs.declared.key.Key.{Key}
use Rattle.tf_registry.specs.Row.{lists_of}
use Rattle.tf_look_ups.specs.declared.finder.Part.{Part}
use Rattle.tf_query.specs.declared.walk.Coming.{Coming}
use Rattle.tf_look_ups.specs.Finder.{AreSilent}
use Rattle.tf_query.specs.Walk.{AreComing, AreTableRows}
use Rattle.tf_query.proofs.Walking.{coming_of}
use Rattle.tf_query.proofs.walk.Walk.search.Goals as goal

coming_if : {V : Type 0} (lists : List (List (Key × Option V))) (place : ℕ) (part : Part) (table : List (Key × Option V)) → AreSilent part (take place lists) → slice_get lists place ≡ Some table → (coming : Option (Coming V)) → IfSome coming (λ c. (c.part ≡ part) × AreTableRows table c.keys.now c.entries.now)
    → IfSome coming (λ c. AreComing lists c.part c.keys.now c.entries.now)
coming_if lists place part table silent there None rows = tt
coming_if lists place part table silent there (Some c) rows = subst (λ p. AreComing lists p c.keys.now c.entries.now) (sym rows.0) (coming_of lists place part table c.keys.now c.entries.now silent there rows.1)

pub invariant_of-self : goal.invariant_of-self
invariant_of-self g c =
    let references = c.self.inside.references.now in
    let place = c.in-Some.place in
    let table = c.table_at-table.result.now in
    let lists = lists_of references in
    coming_if lists place c.in-Some.part table c.in-Some.ensures.newest.silent c.table_at-table.ensures c.behind-self-inside.result c.behind-self-inside.ensures
