use Rattle.std.proofs.Common.{◌-◌, ◌∷◌, [], ◌++◌, List, length, ap, ◌∙◌, arith}
use Rattle.std.proofs.lemmas.List.{length-append}
use Rattle.tf_rows.specs.declared.change.Step.{Step}
use Rattle.tf_forest.specs.declared.note.Note.{Note}
use Rattle.tf_forest.specs.Forest.{Noted}
use Rattle.tf_forest.specs.Notes.{noted}
use Rattle.tf_forest.proofs.Noting.{noted-last, step_count-last}
use Rattle.tf_forest.proofs.note.Notes.add.Goals as goal

pub invariant_of-self-in-Ok : goal.invariant_of-self-in-Ok
invariant_of-self-in-Ok g c =
    let note : Note = record { steps = c.len.result - c.len-from.result; formers = c.args.formers } in
    let last = step_count-last c.self.inside.notes.items note in
    let more = ap (λ (steps : List Step). length steps) c.in-Ok.ensures.steps.is in
    let both = length-append c.self.inside.steps c.in-Ok.ensures.steps.steps in
    rw (c.push_reserved.ensures.items, c.reserve.ensures.items) (omega (arith, last, more, both, c.len.ensures, c.len-from.ensures, c.self.invariant))

pub returns-in-Ok-clause-noted : goal.returns-in-Ok-clause-noted
returns-in-Ok-clause-noted g c =
    let note : Note = record { steps = c.len.result - c.len-from.result; formers = c.args.formers } in
    let more = ap (λ (steps : List Step). length steps) c.in-Ok.ensures.steps.is in
    let both = length-append c.self.inside.steps c.in-Ok.ensures.steps.steps in
    record {
      steps = c.in-Ok.ensures.steps.steps;
      is = ap (λ (notes : List Note). noted notes c.add_entry.new.steps) (c.push_reserved.ensures.items ∙ ap (λ (notes : List Note). notes ++ note ∷ []) c.reserve.ensures.items)
          ∙ ap (noted (c.self.inside.notes.items ++ note ∷ [])) c.in-Ok.ensures.steps.is
          ∙ noted-last c.self.inside.notes.items note c.self.inside.steps c.in-Ok.ensures.steps.steps c.self.invariant (omega (arith, more, both, c.len.ensures, c.len-from.ensures))
          ∙ ap (λ (notes : List Noted). notes ++ record { steps = c.in-Ok.ensures.steps.steps; formers = c.args.formers } ∷ []) c.self.view_is;
      can = c.in-Ok.ensures.steps.can;
      back = c.in-Ok.ensures.steps.back;
    }
