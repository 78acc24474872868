use Rattle.std.proofs.Common.{ℕ}
use Rattle.tf_query.proofs.Asked.{account-members}
use Rattle.tf_query.proofs.Narrowing.{given-err, given-ok}
use Rattle.tf_query.proofs.scans.account_scan.Goals as goal

pub present-requires : goal.present-requires
present-requires g c = c.narrowed.ensures.some

pub returns-in-Ok-clause-direction : goal.returns-in-Ok-clause-direction
returns-in-Ok-clause-direction g c = given-ok c.narrowed.result c.present.result _ _ c.present.ensures.scan c.narrowed.ensures.direction (λ scan same. same)

pub returns-in-Ok-clause-members : goal.returns-in-Ok-clause-members
returns-in-Ok-clause-members g c =
    given-ok c.narrowed.result c.present.result _ _ c.present.ensures.scan c.narrowed.ensures.members
    (λ scan left (t : ℕ). account-members c.args.manifest.now c.args.filter.now c.field_conditions-fields.result _ _ c.field_conditions-fields.ensures c.in-Ok.ensures.members left t)

pub returns-in-Ok-clause-refusal : goal.returns-in-Ok-clause-refusal
returns-in-Ok-clause-refusal g c = given-err c.narrowed.result c.present.result _ c.present.ensures.refusal c.narrowed.ensures.refusal
