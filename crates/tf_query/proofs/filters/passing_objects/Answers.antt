use Rattle.std.proofs.Common.{◌∙◌, ℕ, ap, refl}
use Rattle.std.specs.Prelude.{is_some}
use Rattle.tf_manifest.specs.declared.kind.Kind.TheVariants as kind
use Rattle.tf_manifest.specs.View.{View, tables_by}
use Rattle.tf_look_ups.specs.Reads.{transfer_in}
use Rattle.tf_query.proofs.Asked.{first-tested, transfers-in}
use Rattle.tf_query.proofs.filters.passing_objects.Goals as goal

pub returns-in-Ok-clause-ok : goal.returns-in-Ok-clause-ok
returns-in-Ok-clause-ok g c =
    first-tested c.passing_within.result (λ v. v.items) c.args.manifest.now c.args.window.now c.args.window.now c.args.residual.now c.args.residual.now _
    (λ t. is_some (transfer_in c.args.manifest.now t)) _ refl refl c.in-Ok.ensures.direction c.passing_within.ensures.ok c.passing_within.ensures.in_order
    (λ (t : ℕ). c.in-Ok.ensures.members t ∙ transfers-in c.args.manifest.now _ (c.row.ensures.row ∙ ap (λ (v : View). tables_by v kind.Transfer) c.manifest.view_is) t)
