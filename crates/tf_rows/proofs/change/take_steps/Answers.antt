use Rattle.std.proofs.Common.{◌∷◌, [], List, length, take, drop, sym, ◌∙◌, ap, subst, arith}
use Rattle.std.proofs.lemmas.List.{length-append, take-append-le}
use Rattle.tf_rows.specs.declared.change.Step.{Step}
use Rattle.tf_rows.specs.Changes.{CanStepAll, all_stepped}
use Rattle.tf_rows.specs.Parts.{Parts}
use Rattle.tf_rows.proofs.Stepping.{all_stepped-last, popped}
use Rattle.tf_rows.proofs.Touched.{dropped}
use Rattle.tf_rows.proofs.change.take_steps.Goals as goal

pub take_step-requires : goal.take_step-requires
take_step-requires g c =
    let long = length-append c.pop.new.self (c.in-Some.step ∷ []) in
    let whole = ap (λ (ss : List Step). length ss) c.in-Some.ensures in
    (popped g.S.RowSet.has_row g.S.RowSet.fits g.S.RowSet.takes_any (drop c.args.left c.loop-steps.steps) (drop c.args.left c.pop.new.self) c.in-Some.step (g.S.RowSet.parts c.loop-steps.set)
    (dropped c.loop-steps.steps c.pop.new.self c.in-Some.step c.args.left c.in-Some.ensures (omega (arith, long, whole, c.len.ensures, c.loop-steps-test.true))) c.loop-steps.invariant.can).0

pub loop-steps-preserved-in-Some : goal.loop-steps-preserved-in-Some
loop-steps-preserved-in-Some g c =
    let long = length-append c.pop.new.self (c.in-Some.step ∷ []) in
    let whole = ap (λ (ss : List Step). length ss) c.in-Some.ensures in
    let n = c.args.left in
    let rest = dropped c.loop-steps.steps c.pop.new.self c.in-Some.step n c.in-Some.ensures (omega (arith, long, whole, c.len.ensures, c.loop-steps-test.true)) in
    let taken = c.take_step.ensures.rows in
    let left = popped g.S.RowSet.has_row g.S.RowSet.fits g.S.RowSet.takes_any (drop n c.loop-steps.steps) (drop n c.pop.new.self) c.in-Some.step (g.S.RowSet.parts c.loop-steps.set) rest c.loop-steps.invariant.can in
    record {
      many = omega (arith, long, whole, c.len.ensures, c.loop-steps-test.true);
      can = subst (CanStepAll g.S.RowSet.has_row g.S.RowSet.fits g.S.RowSet.takes_any (drop n c.pop.new.self)) (sym {A = Parts} taken) left.1;
      left = sym (take-append-le n c.pop.new.self (c.in-Some.step ∷ []) (omega (arith, long, whole, c.len.ensures, c.loop-steps-test.true)))
          ∙ ap (take n) (sym c.in-Some.ensures) ∙ c.loop-steps.invariant.left;
      rows = ap (all_stepped (drop n c.pop.new.self)) taken
          ∙ sym (all_stepped-last (drop n c.pop.new.self) c.in-Some.step (g.S.RowSet.parts c.loop-steps.set))
          ∙ ap (λ (ss : List Step). all_stepped ss (g.S.RowSet.parts c.loop-steps.set)) (sym rest)
          ∙ c.loop-steps.invariant.rows;
      sealed = c.take_step.ensures.sealed ∙ c.loop-steps.invariant.sealed;
    }
