use Rattle.std.proofs.Common.{refl}
use Rattle.tf_rows.specs.Changes.{listed}
use Rattle.tf_rows.proofs.Made.{begun, fitting, further, last_made}
use Rattle.tf_rows.proofs.Single.{single_first, single_second}
use Rattle.tf_rows.proofs.change.make_two.Goals as goal

pub make_any-requires-clause-single : goal.make_any-requires-clause-single
make_any-requires-clause-single g c = single_first (listed c.args.first.now) (listed c.args.second.now) c.requires.single

pub make_any-requires-clause-can : goal.make_any-requires-clause-can
make_any-requires-clause-can g c = fitting _ _ _ _ _ _ _ _ _ refl _ _ (begun _ _ _ _ c.args.steps.now _ _ refl c.requires.can)

pub make_any-requires-in-Ok-clause-single : goal.make_any-requires-in-Ok-clause-single
make_any-requires-in-Ok-clause-single g c = single_second (listed c.args.first.now) (listed c.args.second.now) c.requires.single

pub make_any-requires-in-Ok-clause-can : goal.make_any-requires-in-Ok-clause-can
make_any-requires-in-Ok-clause-can g c = (further _ _ _ _ _ _ (listed c.args.first.now) (listed c.args.first.now) (listed c.args.second.now) refl _ _ (begun _ _ _ _ c.args.steps.now _ _ refl c.requires.can) _ _ tt c.in-Ok.ensures.made).can

pub returns-in-Ok-clause-made : goal.returns-in-Ok-clause-made
returns-in-Ok-clause-made g c =
    last_made _ _ _ _ _ _ (listed c.args.second.now) _ _
    (further _ _ _ _ _ _ (listed c.args.first.now) (listed c.args.first.now) (listed c.args.second.now) refl _ _ (begun _ _ _ _ c.args.steps.now _ _ refl c.requires.can) _ _ tt c.in-Ok.ensures.made)
    _ _ _ c.make_any-in-Ok.ensures.made
