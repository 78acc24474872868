use Rattle.std.proofs.Common.{refl}
use Rattle.tf_query.proofs.Asked.{first-read}
use Rattle.tf_query.proofs.timestamps.timestamps_unless_refused.Goals as goal

pub returns-in-Ok-clause-ok : goal.returns-in-Ok-clause-ok
returns-in-Ok-clause-ok g c accepts direction members =
    first-read c.timestamps_within.result (λ v. v.items) c.args.window.now c.args.window.now _ accepts _ refl (rw c.in-Ok.is at direction) c.timestamps_within.ensures.ok c.timestamps_within.ensures.in_order
    (rw c.in-Ok.is at members)
