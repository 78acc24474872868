use Rattle.std.proofs.Common.{refl}
use Rattle.tf_query.specs.Conditions.{fields_at}
use Rattle.tf_query.proofs.Asked.{all-found, first-alike, first-read, some-met}
use Rattle.tf_query.proofs.filters.field_timestamps.Goals as goal

pub returns-in-Ok-Some-clause-ok : goal.returns-in-Ok-Some-clause-ok
returns-in-Ok-Some-clause-ok g c =
    let narrowed = rw c.in-Ok-Some.field-0-is at c.in-Ok-Some.ensures in
    first-read c.timestamps_within.result (λ v. v.items) c.args.window.now c.args.window.now _ (fields_at c.args.manifest.now c.args.objects.now c.args.conditions.now) _ refl
    narrowed.direction c.timestamps_within.ensures.ok c.timestamps_within.ensures.in_order
    (some-met c.args.manifest.now c.args.objects.now c.args.conditions.now _ narrowed.some narrowed.members)

pub returns-in-Ok-None-clause-ok : goal.returns-in-Ok-None-clause-ok
returns-in-Ok-None-clause-ok g c =
    let narrowed = rw c.in-Ok-None.field-0-is at c.in-Ok-None.ensures in
    first-alike c.object_timestamps.result (λ v. v.items) c.args.window.now c.args.window.now _ (fields_at c.args.manifest.now c.args.objects.now c.args.conditions.now) refl
    (all-found c.args.manifest.now c.args.objects.now c.args.conditions.now narrowed.some) c.object_timestamps.ensures.ok
