use Rattle.std.proofs.Common.{◌≡◌, ◌<◌, ap, sym, ◌∙◌, arith, rules}
use Rattle.crossbeam_queue.specs.Passes.{view}
use Rattle.tf_jobs.proofs.Rules.{grows}
use Rattle.tf_jobs.proofs.queue.grown.Goals as goal

pub another-spent-requires-clause-rule : goal.another-spent-requires-clause-rule
another-spent-requires-clause-rule g c =
    let is = c.loop-part.invariant.1 in
    let parts = ap (λ v. v.parts) is in
    let whole = ap (λ v. v.whole) is in
    grows _ _ (omega (arith, parts)) (parts ∙ sym whole)
