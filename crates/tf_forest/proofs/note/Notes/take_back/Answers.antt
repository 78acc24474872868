use Rattle.std.proofs.Common.{◌-◌, ℕ, List, length, take, drop, sym, ap, subst, ◌∙◌, arith}
use Rattle.tf_rows.specs.declared.change.Step.{Step}
use Rattle.tf_rows.specs.Changes.{all_stepped}
use Rattle.tf_rows.specs.Resident.{AreAmong, accounts_before}
use Rattle.tf_forest.specs.Forest.{Noted}
use Rattle.tf_forest.specs.Notes.{noted}
use Rattle.tf_forest.proofs.Noting.{few_last, noted_split, rest_count, same_last, same_rest}
use Rattle.tf_forest.proofs.note.Notes.take_back.Goals as goal

pub overflow_sub-left : goal.overflow_sub-left
overflow_sub-left g c =
    let few = few_last c.self.inside.notes.items c.pop.new.self.items c.in-Some.note c.self.inside.steps c.in-Some.ensures.items c.self.invariant in
    omega (arith, c.len.ensures, few)

pub take_steps-requires-clause-can : goal.take_steps-requires-clause-can
take_steps-requires-clause-can g c =
    let n : ℕ = length c.self.inside.steps - c.in-Some.note.steps in
    let rest : List Noted = noted c.pop.new.self.items (take n c.self.inside.steps) in
    let newest : Noted = record { steps = drop n c.self.inside.steps; formers = c.in-Some.note.formers } in
    let split = noted_split c.self.inside.notes.items c.pop.new.self.items c.in-Some.note c.self.inside.steps c.in-Some.ensures.items c.self.invariant in
    rw c.len.ensures (c.requires rest newest (sym c.self.view_is ∙ split))

pub invariant_of-self-2 : goal.invariant_of-self-2
invariant_of-self-2 g c =
    rest_count c.self.inside.notes.items c.pop.new.self.items c.in-Some.note c.self.inside.steps c.in-Some.ensures.items c.self.invariant
    ∙ ap (λ (n : ℕ). length (take (n - c.in-Some.note.steps) c.self.inside.steps)) (sym c.len.ensures)
    ∙ ap (λ (steps : List Step). length steps) (sym c.take_steps.ensures.left)

pub returns-clause-rows : goal.returns-clause-rows
returns-clause-rows g c = λ others last is.
    let n : ℕ = length c.self.inside.steps - c.in-Some.note.steps in
    let rest : List Noted = noted c.pop.new.self.items (take n c.self.inside.steps) in
    let newest : Noted = record { steps = drop n c.self.inside.steps; formers = c.in-Some.note.formers } in
    let split = noted_split c.self.inside.notes.items c.pop.new.self.items c.in-Some.note c.self.inside.steps c.in-Some.ensures.items c.self.invariant in
    c.take_steps.ensures.rows
    ∙ ap (λ (n : ℕ). all_stepped (drop (n - c.in-Some.note.steps) c.self.inside.steps) (g.S.RowSet.parts c.args.rows.now)) c.len.ensures
    ∙ ap (λ (note : Noted). all_stepped note.steps (g.S.RowSet.parts c.args.rows.now)) (same_last rest others newest last (sym split ∙ c.self.view_is ∙ is))

pub returns-clause-others : goal.returns-clause-others
returns-clause-others g c = λ others last is.
    let n : ℕ = length c.self.inside.steps - c.in-Some.note.steps in
    let rest : List Noted = noted c.pop.new.self.items (take n c.self.inside.steps) in
    let newest : Noted = record { steps = drop n c.self.inside.steps; formers = c.in-Some.note.formers } in
    let split = noted_split c.self.inside.notes.items c.pop.new.self.items c.in-Some.note c.self.inside.steps c.in-Some.ensures.items c.self.invariant in
    ap (noted c.pop.new.self.items) c.take_steps.ensures.left
    ∙ ap (λ (n : ℕ). noted c.pop.new.self.items (take (n - c.in-Some.note.steps) c.self.inside.steps)) c.len.ensures
    ∙ same_rest rest others newest last (sym split ∙ c.self.view_is ∙ is)

pub returns-clause-resident : goal.returns-clause-resident
returns-clause-resident g c = λ others last is accounts among.
    let n : ℕ = length c.self.inside.steps - c.in-Some.note.steps in
    let rest : List Noted = noted c.pop.new.self.items (take n c.self.inside.steps) in
    let newest : Noted = record { steps = drop n c.self.inside.steps; formers = c.in-Some.note.formers } in
    let split = noted_split c.self.inside.notes.items c.pop.new.self.items c.in-Some.note c.self.inside.steps c.in-Some.ensures.items c.self.invariant in
    subst (λ (note : Noted). AreAmong (accounts_before note.formers accounts) c.back.new.self)
    (same_last rest others newest last (sym split ∙ c.self.view_is ∙ is)) (c.back.ensures accounts among)
