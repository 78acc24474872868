use Rattle.std.proofs.Common.{◌≡◌, ap, subst, ◌∙◌, Ok}
use Rattle.rayon.proofs.ListFacts.{IfOk-then}
use Rattle.tf_records.specs.declared.refusal.Refusal.TheVariants.{NoMemory}
use Rattle.rayon.proofs.iter.map.Map.TheSendSync as map
use Rattle.rayon.proofs.slice.Iter.TheSendSync as iter
use Rattle.std.proofs.Crossing.{crosses}
use denote.Param.Send.{sendable}
use Rattle.tf_query_all.proofs.AllAnswers.{collected-answers, collected-fails, only-refuses}
use Rattle.tf_query_all.proofs.each.answer_each.Goals as goal

pub returns-in-Ok-clause-ok : goal.returns-in-Ok-clause-ok
returns-in-Ok-clause-ok g c =
    let done = c.in-Ok.ensures in
    let chain = done.1 in
    let slice = ap (λ it. it.slice.now) c.map.ensures.base ∙ c.par_iter.ensures in
    IfOk-then c.in-Ok.answers _ _
    (collected-answers (λ all. all.items) _ (λ question answer. goal.F-post g c.args.answer question (Ok answer))
    (λ question answer is. subst (λ f. goal.F-post g f question (Ok answer)) c.map.ensures.f is)
    chain.0 done.0 c.in-Ok.answers chain.2 done.2)
    (λ all each. (chain.0, chain.1 ∙ slice, each))

pub returns-in-Ok-clause-refusal : goal.returns-in-Ok-clause-refusal
returns-in-Ok-clause-refusal g c =
    let done = c.in-Ok.ensures in
    let chain = done.1 in
    collected-fails (λ all. all.items) _ (λ refusal. refusal ≡ NoMemory) (λ question answered is.
    only-refuses (goal.F-post g c.args.answer question) (λ refusal. refusal ≡ NoMemory) (c.requires.refusals question) answered
    (subst (λ f. goal.F-post g f question answered) c.map.ensures.f is))
    chain.0 done.0 c.in-Ok.answers chain.2 done.2

pub collect-collected-requires-send-Self : goal.collect-collected-requires-send-Self
collect-collected-requires-send-Self g c κs within = search (map.the_send, iter.the_send, crosses, sendable) depth 14
