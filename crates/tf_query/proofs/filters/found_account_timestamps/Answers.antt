use Rattle.std.proofs.Common.{◌∙◌, ap}
use Rattle.tf_manifest.specs.declared.kind.Kind.TheVariants as kind
use Rattle.tf_manifest.specs.View.{View, tables_by}
use Rattle.tf_query.specs.Asked.{account_fields_at}
use Rattle.tf_query.specs.Windows.{query_window}
use Rattle.tf_query.proofs.Asked.{account-fields, first-alike}
use Rattle.tf_query.proofs.filters.found_account_timestamps.Goals as goal

pub returns-clause-ok : goal.returns-clause-ok
returns-clause-ok g c =
    first-alike c.field_timestamps.result (λ v. v.items) (query_window c.args.filter.now) c.of_query_filter-window.result _ (account_fields_at c.args.manifest.now c.args.filter.now) c.of_query_filter-window.ensures
    (account-fields c.args.manifest.now c.args.filter.now c.account_conditions.result _ c.account_conditions.ensures (c.row-accounts.ensures.row ∙ ap (λ (v : View). tables_by v kind.Account) c.manifest.view_is))
    c.field_timestamps.ensures.ok
