use Rattle.std.proofs.Common.{refl}
use Rattle.tf_scan.specs.declared.direction.Direction.TheVariants.{Rising, Falling}
use Rattle.tf_query.proofs.Reading.{no-lower, no-upper, sought, sought-within, unbounded-from, upper}
use Rattle.tf_query.proofs.timestamps.seek_first.Goals as goal

pub returns-then-window-ne0-clause-from : goal.returns-then-window-ne0-clause-from
returns-then-window-ne0-clause-from g c = sought _ Rising c.args.window.now _ _ _ c.in-Rising.ensures.value (λ t. refl) c.seek.ensures.others c.in-Rising.ensures.in_order

pub returns-then-window-ne0-clause-same : goal.returns-then-window-ne0-clause-same
returns-then-window-ne0-clause-same g c = sought-within _ Rising c.args.window.now _ _ _ c.in-Rising.ensures.value (λ t. refl) c.seek.ensures.others

pub returns-else-window-ne0-clause-from : goal.returns-else-window-ne0-clause-from
returns-else-window-ne0-clause-from g c = unbounded-from _ Rising c.args.window.now _ c.in-Rising.ensures.value (no-lower c.args.window.now c.if-window-ne0.false) c.in-Rising.ensures.in_order

pub returns-then-window-ne0-2-clause-from : goal.returns-then-window-ne0-2-clause-from
returns-then-window-ne0-2-clause-from g c = sought _ Falling c.args.window.now _ _ _ c.in-Falling.ensures.value (upper c.args.window.now c.if-window-ne0-2.true) c.seek-then-window-ne0-2.ensures.others c.in-Falling.ensures.in_order

pub returns-then-window-ne0-2-clause-same : goal.returns-then-window-ne0-2-clause-same
returns-then-window-ne0-2-clause-same g c = sought-within _ Falling c.args.window.now _ _ _ c.in-Falling.ensures.value (upper c.args.window.now c.if-window-ne0-2.true) c.seek-then-window-ne0-2.ensures.others

pub returns-else-window-ne0-2-clause-from : goal.returns-else-window-ne0-2-clause-from
returns-else-window-ne0-2-clause-from g c = unbounded-from _ Falling c.args.window.now _ c.in-Falling.ensures.value (no-upper c.args.window.now c.if-window-ne0-2.false) c.in-Falling.ensures.in_order
