use Rattle.std.proofs.Common.{◌∙◌, ap, ℕ}
use Rattle.tf_query.specs.Asked.{account_filter_at}
use Rattle.tf_query.specs.Residual.{account_lead, account_residual}
use Rattle.tf_query.specs.Windows.{account_window}
use Rattle.tf_query.proofs.Asked.{first-tested}
use Rattle.tf_query.proofs.filters.tested_account_transfers.Goals as goal

pub returns-in-Ok-clause-ok : goal.returns-in-Ok-clause-ok
returns-in-Ok-clause-ok g c =
    first-tested c.passing_within.result (λ v. v.items) c.args.manifest.now (account_window c.args.filter.now) c.of_account_filter-window.result (account_residual c.args.tested c.args.filter.now) c.of_account_filter-residual.result _
    (account_filter_at c.args.manifest.now (account_lead c.args.tested c.args.filter.now)) _ c.of_account_filter-window.ensures c.of_account_filter-residual.ensures
    (c.in-Ok.ensures.direction ∙ ap (λ w. w.direction) c.of_account_filter-window.ensures) c.passing_within.ensures.ok c.passing_within.ensures.in_order
    (λ (t : ℕ). c.in-Ok.ensures.members t ∙ ap (λ f. account_filter_at c.args.manifest.now f t) c.account_lead-lead.ensures)
