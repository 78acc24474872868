use Rattle.std.proofs.Common.{◌≡◌, Option, Some, None, Bool, true, not, sym, ◌∙◌, ap}
use Rattle.std.specs.Option.{is_some}
use Rattle.std.proofs.lemmas.Bool.{false≢true}
use Rattle.tf_manifest.specs.declared.row.Row.TheVariants as row
use Rattle.tf_rows.proofs.HeldKeys.{held_dropped}
use Rattle.tf_rows.proofs.due_set.DueSet.sweep.Goals as goal

-- what a look-up says
nothing : {X : Type 0} (o : Option X) (b : Bool) → is_some o ≡ not b → b ≡ true → o ≡ None
nothing None b is none = cc
nothing (Some x) b is none = absurd (false≢true (sym (is ∙ ap not none)))

pub loop-key-preserved-then-is_none : goal.loop-key-preserved-then-is_none
loop-key-preserved-then-is_none g c = λ journal shows held.
    let key = c.in-Some.key in
    held_dropped c.loop-key.self-inside.keys c.remove.new.self key journal c.remove.ensures.rows
    (sym (shows row.Expiry key) ∙ sym c.find.ensures ∙ nothing c.find.result c.is_none.result c.is_none.ensures c.if-is_none.true)
    (c.loop-key.invariant journal shows held)
