use Rattle.std.proofs.Common.{◌∙◌, ap, ℕ, not, ◌&&◌, ◌||◌, true, arith}
use Rattle.std.specs.Prelude.{is_some}
use Rattle.std.specs.List.{list_all}
use Rattle.std.proofs.lemmas.List.{take_all}
use Rattle.tf_query.specs.declared.condition.Condition.{Condition}
use Rattle.tf_query.specs.Asked.{meets_at}
use Rattle.tf_query.specs.Conditions.{asks_nothing, is_left, meets_all}
use Rattle.tf_query.proofs.Narrowing.{asked, ok-both, none-more, one-asked, one-met, some-more, unasked}
use Rattle.tf_query.proofs.scans.narrowed.Goals as goal
use Rattle.tf_query.proofs.scans.narrowed.Goals.{then-condition-ne0+in-Ok, else-condition-ne0}

pub loop-condition-preserved : goal.loop-condition-preserved
loop-condition-preserved g c = elim c.if-condition-ne0.branch [
  | then-condition-ne0+in-Ok w ↦ rw w.left-is (record {
    direction = ok-both w.index_scan-asked.result _ _ w.in-Ok.ensures.direction w.index_scan-asked.ensures.direction (λ s e f. e ∙ f);
    some = one-asked asks_nothing c.args.conditions.now c.loop-condition.condition-index _ true _ _ (omega arith) (some-more _ _ w.if-condition-ne0.true) c.loop-condition.invariant.some;
    members = λ (t : ℕ). one-met (λ (k : Condition). meets_at c.args.manifest.now k.row k.value t) c.args.conditions.now c.loop-condition.condition-index _ _ _ _ (omega arith)
        (ok-both w.index_scan-asked.result _ _ w.in-Ok.ensures.members w.index_scan-asked.ensures.members (λ s left has. left t ∙ ap (λ b. is_left t c.loop-condition.left && b) (has t ∙ asked _ _ w.if-condition-ne0.true))) (c.loop-condition.invariant.members t);
  })
  | else-condition-ne0 w ↦ rw w.left-is (record {
    direction = c.loop-condition.invariant.direction;
    some = one-asked asks_nothing c.args.conditions.now c.loop-condition.condition-index _ _ _ _ (omega arith) (none-more _ _ w.if-condition-ne0.false) c.loop-condition.invariant.some;
    members = λ (t : ℕ). one-met (λ (k : Condition). meets_at c.args.manifest.now k.row k.value t) c.args.conditions.now c.loop-condition.condition-index _ _ _ _ (omega arith)
        (unasked _ _ _ w.if-condition-ne0.false) (c.loop-condition.invariant.members t);
  })
]

pub returns-clause-direction : goal.returns-clause-direction
returns-clause-direction g c = c.loop-condition.invariant.direction

pub returns-clause-some : goal.returns-clause-some
returns-clause-some g c =
    c.loop-condition.invariant.some
    ∙ ap (λ conditions. is_some c.args.scan || not (list_all asks_nothing conditions)) (take_all c.loop-condition.condition-index c.args.conditions.now c.loop-condition-test.false)

pub returns-clause-members : goal.returns-clause-members
returns-clause-members g c = λ (t : ℕ).
    c.loop-condition.invariant.members t
    ∙ ap (λ conditions. is_left t c.args.scan && meets_all c.args.manifest.now conditions t) (take_all c.loop-condition.condition-index c.args.conditions.now c.loop-condition-test.false)

pub returns-clause-refusal : goal.returns-clause-refusal
returns-clause-refusal g c = tt
