use Rattle.std.proofs.Common.{◌∙◌, subst, List, arith}
use Rattle.tf_registry.specs.Table.{Shown}
use Rattle.tf_registry.specs.Row.{IsRow}
use Rattle.tf_registry.proofs.Picks.{none_at, picked_by, room_left}
use Rattle.tf_registry.proofs.tables.Tables.next_run.Goals as goal

pub returns-in_default-clause-none : goal.returns-in_default-clause-none
returns-in_default-clause-none g c =
    none_at c.args.self.now c.as_slice-references.result.now (c.as_slice-references.ensures.value ∙ c.self.view_is)
    (subst (λ (ts : List (Shown g.row.V.Denot)). IsRow ts) c.self.view_is c.self.invariant.0) c.in_default.ensures.none

pub returns-in_default-clause-full : goal.returns-in_default-clause-full
returns-in_default-clause-full g c = λ full.
    let row = subst (λ (ts : List (Shown g.row.V.Denot)). IsRow ts) c.self.view_is c.self.invariant.0 in
    let few = none_at c.args.self.now c.as_slice-references.result.now (c.as_slice-references.ensures.value ∙ c.self.view_is) row c.in_default.ensures.none in
    let room = room_left c.args.self.now row few in
    absurd (omega (arith, room, full))

pub returns-clause-some : goal.returns-clause-some
returns-clause-some g c =
    let found =
    picked_by c.args.self.now c.as_slice-references.result.now c.in-Some.place c.in-Some.ensures.some.0
    c.index-references-place.result c.index-references-place-2.result
    (c.as_slice-references.ensures.value ∙ c.self.view_is)
    (subst (λ (ts : List (Shown g.row.V.Denot)). IsRow ts) c.self.view_is c.self.invariant.0)
    c.in-Some.ensures.some.1 c.in-Some.ensures.first c.in-Some.ensures.within
    c.index-references-place.is c.index-references-place-2.is in
    found.picked

pub returns-clause-run : goal.returns-clause-run
returns-clause-run g c =
    let found =
    picked_by c.args.self.now c.as_slice-references.result.now c.in-Some.place c.in-Some.ensures.some.0
    c.index-references-place.result c.index-references-place-2.result
    (c.as_slice-references.ensures.value ∙ c.self.view_is)
    (subst (λ (ts : List (Shown g.row.V.Denot)). IsRow ts) c.self.view_is c.self.invariant.0)
    c.in-Some.ensures.some.1 c.in-Some.ensures.first c.in-Some.ensures.within
    c.index-references-place.is c.index-references-place-2.is in
    found.is_run

pub returns-clause-stands : goal.returns-clause-stands
returns-clause-stands g c =
    let found =
    picked_by c.args.self.now c.as_slice-references.result.now c.in-Some.place c.in-Some.ensures.some.0
    c.index-references-place.result c.index-references-place-2.result
    (c.as_slice-references.ensures.value ∙ c.self.view_is)
    (subst (λ (ts : List (Shown g.row.V.Denot)). IsRow ts) c.self.view_is c.self.invariant.0)
    c.in-Some.ensures.some.1 c.in-Some.ensures.first c.in-Some.ensures.within
    c.index-references-place.is c.index-references-place-2.is in
    found.stands
