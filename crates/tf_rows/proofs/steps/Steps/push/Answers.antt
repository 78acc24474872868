use Rattle.std.proofs.Common.{◌≡◌, ◌∷◌, [], ◌++◌, List, Option, Some, None, length, append-nil, ap, subst, ◌∙◌}
use Rattle.std.specs.Prelude.{is_some}
use Rattle.tf_manifest.specs.declared.value.Value.{Value}
use Rattle.tf_rows.specs.declared.change.Step.TheVariants as step
use Rattle.tf_rows.specs.Packed.{had_count, steps_of}
use Rattle.tf_rows.proofs.Touched.{pushed_count, pushed_steps}
use Rattle.tf_rows.proofs.steps.Steps.push.Goals as goal

pub invariant_of-self-in-Some : goal.invariant_of-self-in-Some
invariant_of-self-in-Some g c =
    rw (c.push_reserved.ensures.items, c.reserve.ensures.items, c.push_reserved-in-Some.ensures.items, c.reserve-2.ensures.items)
    (pushed_count c.self.inside.touched.items c.self.inside.entries.items c.key.result (Some c.in-Some.entry) c.self.invariant (c.key.ensures.had ∙ ap is_some c.in-Some.is))

pub invariant_of-self-in-None : goal.invariant_of-self-in-None
invariant_of-self-in-None g c =
    rw (c.push_reserved.ensures.items, c.reserve.ensures.items, c.reserve-2.ensures.items)
    (subst (λ (es : List (Option Value)). had_count (c.self.inside.touched.items ++ c.key.result ∷ []) ≡ length es) (append-nil c.self.inside.entries.items)
    (pushed_count c.self.inside.touched.items c.self.inside.entries.items c.key.result None c.self.invariant (c.key.ensures.had ∙ ap is_some c.in-None.is)))

pub returns-in-Some-clause-ok : goal.returns-in-Some-clause-ok
returns-in-Some-clause-ok g c =
    let back = step.Key c.args.row c.args.key.now c.args.before.now in
    rw (c.push_reserved.ensures.items, c.reserve.ensures.items, c.push_reserved-in-Some.ensures.items, c.reserve-2.ensures.items, ← c.self.view_is)
    (pushed_steps c.self.inside.touched.items c.self.inside.entries.items c.key.result back c.args.before.now (Some c.in-Some.entry) c.self.invariant c.in-Some.is c.key.ensures.step)

pub returns-in-None-clause-ok : goal.returns-in-None-clause-ok
returns-in-None-clause-ok g c =
    let back = step.Key c.args.row c.args.key.now c.args.before.now in
    rw (c.push_reserved.ensures.items, c.reserve.ensures.items, c.reserve-2.ensures.items, ← c.self.view_is)
    (subst (λ (es : List (Option Value)). steps_of (c.self.inside.touched.items ++ c.key.result ∷ []) es ≡ steps_of c.self.inside.touched.items c.self.inside.entries.items ++ back ∷ []) (append-nil c.self.inside.entries.items)
    (pushed_steps c.self.inside.touched.items c.self.inside.entries.items c.key.result back c.args.before.now None c.self.invariant c.in-None.is c.key.ensures.step))
