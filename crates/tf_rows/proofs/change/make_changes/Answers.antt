use Rattle.std.proofs.Common.{◌≡◌, ℕ, ◌++◌, List, length, take, drop, refl, ap, sym, ◌∙◌, subst, arith}
use Rattle.std.proofs.Math.Seq.{drop-append_seam, take-append_seam}
use Rattle.std.proofs.lemmas.Grind.{common_steps}
use Rattle.std.proofs.lemmas.List.{length-append}
use Rattle.tf_rows.specs.declared.change.Step.{Step}
use Rattle.tf_rows.specs.Changes.{CanStepAll, all_stepped}
use Rattle.tf_rows.proofs.Touched.{more_added, none_added}
use Rattle.tf_rows.proofs.change.make_changes.Goals as goal

-- steps behind others are dropped, and the others left, where these are counted
behind : (old new steps : List Step) (from : ℕ) → new ≡ old ++ steps → from ≡ length old → drop from new ≡ steps
behind old new steps from is count = ap (λ (ss : List Step). drop from ss) is ∙ ap (λ (n : ℕ). drop n (old ++ steps)) count ∙ drop-append_seam old steps

in_front : (old new steps : List Step) (from : ℕ) → new ≡ old ++ steps → from ≡ length old → take from new ≡ old
in_front old new steps from is count = ap (λ (ss : List Step). take from ss) is ∙ ap (λ (n : ℕ). take n (old ++ steps)) count ∙ take-append_seam old steps

pub loop-change-init : goal.loop-change-init
loop-change-init g c = record {
  single = c.requires.single;
  can = c.requires.can;
  steps = none_added g.S.RowSet.has_row g.S.RowSet.fits g.S.RowSet.takes_any c.args.steps.now (g.S.RowSet.parts c.args.set.now);
  rows = refl;
  from = c.len-from.ensures;
  sealed = refl;
}

pub take_steps-requires-clause-left : goal.take_steps-requires-clause-left
take_steps-requires-clause-left g c =
    let steps = c.loop-change.invariant.steps in
    let many = ap (λ (ss : List Step). length ss) (c.in-Err.ensures.err.1 ∙ steps.is) in
    omega (arith, many, length-append c.args.steps.now steps.steps, c.loop-change.invariant.from)

pub take_steps-requires-clause-can : goal.take_steps-requires-clause-can
take_steps-requires-clause-can g c =
    let steps = c.loop-change.invariant.steps in
    subst (λ (ss : List Step). CanStepAll g.S.RowSet.has_row g.S.RowSet.fits g.S.RowSet.takes_any ss (g.S.RowSet.parts c.make_change.new.set))
    (sym (behind c.args.steps.now c.make_change.new.steps steps.steps c.len-from.result (c.in-Err.ensures.err.1 ∙ steps.is) c.loop-change.invariant.from))
    (subst (CanStepAll g.S.RowSet.has_row g.S.RowSet.fits g.S.RowSet.takes_any steps.steps) (sym c.in-Err.ensures.err.0) steps.can)

pub returns-in-Err-clause-sealed : goal.returns-in-Err-clause-sealed
returns-in-Err-clause-sealed g c = c.take_steps.ensures.sealed ∙ c.make_change.ensures.sealed ∙ c.loop-change.invariant.sealed

pub returns-in-Err-clause-err : goal.returns-in-Err-clause-err
returns-in-Err-clause-err g c =
    let steps = c.loop-change.invariant.steps in
    let is = c.in-Err.ensures.err.1 ∙ steps.is in (
      c.take_steps.ensures.rows
          ∙ ap (λ (ss : List Step). all_stepped ss (g.S.RowSet.parts c.make_change.new.set)) (behind c.args.steps.now c.make_change.new.steps steps.steps c.len-from.result is c.loop-change.invariant.from)
          ∙ ap (all_stepped steps.steps) c.in-Err.ensures.err.0
          ∙ steps.back,
      c.take_steps.ensures.left ∙ in_front c.args.steps.now c.make_change.new.steps steps.steps c.len-from.result is c.loop-change.invariant.from,
    )

pub returns-in-Err-clause-refusal : goal.returns-in-Err-clause-refusal
returns-in-Err-clause-refusal g c = c.in-Err.ensures.refusal

pub returns-clause-steps : goal.returns-clause-steps
returns-clause-steps g c = c.loop-change.invariant.steps

pub returns-clause-sealed : goal.returns-clause-sealed
returns-clause-sealed g c = c.loop-change.invariant.sealed

pub loop-change-preserved : goal.loop-change-preserved
loop-change-preserved g c = record {
  single = grind (arith, common_steps);
  can = grind (arith, common_steps);
  steps = more_added g.S.RowSet.has_row g.S.RowSet.fits g.S.RowSet.takes_any c.args.steps.now c.loop-change.steps c.make_change.new.steps (g.S.RowSet.parts c.args.set.now) (g.S.RowSet.parts c.loop-change.set) (g.S.RowSet.parts c.make_change.new.set)
      c.loop-change.invariant.steps c.in-Ok.ensures.steps;
  rows = grind (arith, common_steps);
  from = c.loop-change.invariant.from;
  sealed = c.make_change.ensures.sealed ∙ c.loop-change.invariant.sealed;
}
