use Rattle.std.proofs.Common.{◌∙◌, ap}
use Rattle.tf_query.specs.Asked.{transfer_fields_at}
use Rattle.tf_query.specs.Conditions.{transfer_conditions}
use Rattle.tf_query.specs.Residual.{query_lead, query_residual}
use Rattle.tf_query.specs.Windows.{query_window}
use Rattle.tf_query.proofs.Asked.{each-found, first-tested, tested-alike, transfer-members}
use Rattle.tf_query.proofs.filters.tested_transfers.Goals as goal

pub returns-in-Ok-Some-clause-ok : goal.returns-in-Ok-Some-clause-ok
returns-in-Ok-Some-clause-ok g c =
    let narrowed = rw c.in-Ok-Some.field-0-is at c.in-Ok-Some.ensures in
    first-tested c.passing_within.result (λ v. v.items) c.args.manifest.now (query_window c.args.filter.now) c.of_query_filter-window.result (query_residual c.args.tested c.args.filter.now) c.of_query_filter-residual.result _
    (transfer_fields_at c.args.manifest.now (query_lead c.args.tested c.args.filter.now)) _ c.of_query_filter-window.ensures c.of_query_filter-residual.ensures
    (narrowed.direction ∙ ap (λ w. w.direction) c.of_query_filter-window.ensures) c.passing_within.ensures.ok c.passing_within.ensures.in_order
    (transfer-members c.args.manifest.now (query_lead c.args.tested c.args.filter.now) c.transfer_conditions.result _ (c.transfer_conditions.ensures ∙ ap (λ f. transfer_conditions f) c.query_lead.ensures) narrowed.some narrowed.members)

pub returns-in-Ok-None-clause-ok : goal.returns-in-Ok-None-clause-ok
returns-in-Ok-None-clause-ok g c =
    let narrowed = rw c.in-Ok-None.field-0-is at c.in-Ok-None.ensures in
    tested-alike c.passing_objects.result (λ v. v.items) c.args.manifest.now (query_window c.args.filter.now) c.of_query_filter-window.result (query_residual c.args.tested c.args.filter.now) c.of_query_filter-residual.result _
    (transfer_fields_at c.args.manifest.now (query_lead c.args.tested c.args.filter.now)) c.of_query_filter-window.ensures c.of_query_filter-residual.ensures
    (each-found c.args.manifest.now (query_lead c.args.tested c.args.filter.now) c.transfer_conditions.result (c.transfer_conditions.ensures ∙ ap (λ f. transfer_conditions f) c.query_lead.ensures) narrowed.some)
    c.passing_objects.ensures.ok
