use Rattle.rayon.proofs.ListFacts.{AllZip-weaken, IfOk-then}
use Rattle.rayon.proofs.ToStd.{slice-AllZip}
use Rattle.tf_query_all.specs.Many.{IsAnswer}
use Rattle.tf_query_all.proofs.answer_filters.Goals as goal

pub returns-clause-ok : goal.returns-clause-ok
returns-clause-ok g c = IfOk-then c.answer_each.result _ _ c.answer_each.ensures.ok
    (λ all each. slice-AllZip each.0 c.args.filters.now each.1 (IsAnswer (g.V.Asked.journal c.args.asked.now)) all.items
    (AllZip-weaken _ (λ question answer. IsAnswer (g.V.Asked.journal c.args.asked.now) question.now answer) (λ question answer is. is.0) each.0 all.items each.2))

pub answer_each-requires-clause-refusals : goal.answer_each-requires-clause-refusals
answer_each-requires-clause-refusals g c κs within question refusal is = is.1
