use Rattle.std.proofs.Common.{List, Option, length, sym, ap, ◌∙◌, arith}
use Rattle.tf_manifest.specs.declared.value.Value.{Value}
use Rattle.tf_rows.specs.Packed.{had_count}
use Rattle.tf_rows.proofs.Touched.{popped_count, popped_entry_count, popped_steps, popped_entry_steps, no_entry}
use Rattle.tf_rows.proofs.steps.Steps.pop.Goals as goal

pub invariant_of-self-then-not-had : goal.invariant_of-self-then-not-had
invariant_of-self-then-not-had g c =
    popped_count c.pop.new.self.items c.self.inside.entries.items c.in_ok-touched.touched
    (ap had_count (sym c.in_ok-touched.ensures.items) ∙ c.self.invariant) (sym c.had.ensures ∙ c.if-not-had.true)

pub returns-then-not-had : goal.returns-then-not-had
returns-then-not-had g c =
    sym c.self.view_is
    ∙ popped_steps c.self.inside.touched.items c.pop.new.self.items c.self.inside.entries.items c.in_ok-touched.touched c.step.result
    c.in_ok-touched.ensures.items c.self.invariant (sym c.had.ensures ∙ c.if-not-had.true) c.step.ensures

pub unreachable-requires : goal.unreachable-requires
unreachable-requires g c =
    no_entry c.self.inside.touched.items c.pop.new.self.items c.self.inside.entries.items c.in_ok-touched.touched
    c.in_ok-touched.ensures.items c.self.invariant (sym c.had.ensures ∙ c.if-not-had.false)
    (omega (arith, c.in-None.ensures.cases.0, c.self.inside.entries.ok.0))

pub invariant_of-self-2 : goal.invariant_of-self-2
invariant_of-self-2 g c =
    popped_entry_count c.pop.new.self.items c.pop-2.new.self.items c.in_ok-touched.touched c.in-Some.entry
    (ap had_count (sym c.in_ok-touched.ensures.items) ∙ c.self.invariant ∙ ap (λ (es : List (Option Value)). length es) c.in-Some.ensures.items) (sym c.had.ensures ∙ c.if-not-had.false)

pub returns : goal.returns
returns g c =
    sym c.self.view_is
    ∙ popped_entry_steps c.self.inside.touched.items c.pop.new.self.items c.self.inside.entries.items c.pop-2.new.self.items c.in_ok-touched.touched c.in-Some.entry c.step-in-Some.result
    c.in_ok-touched.ensures.items c.in-Some.ensures.items c.self.invariant (sym c.had.ensures ∙ c.if-not-had.false) c.step-in-Some.ensures
