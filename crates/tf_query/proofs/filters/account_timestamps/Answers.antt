use Rattle.std.proofs.Common.{refl}
use Rattle.tf_query.specs.Asked.{account_filter_at}
use Rattle.tf_query.specs.Windows.{account_window}
use Rattle.tf_query.proofs.Asked.{first-alike}
use Rattle.tf_query.proofs.filters.account_timestamps.Goals as goal

pub returns-clause-ok : goal.returns-clause-ok
returns-clause-ok g c =
    let accepts = account_filter_at c.args.manifest.now c.args.filter.now in
    first-alike c.timestamps_unless_refused.result (λ v. v.items) (account_window c.args.filter.now) c.of_account_filter-window.result accepts accepts c.of_account_filter-window.ensures (λ t. refl)
    (c.timestamps_unless_refused.ensures.ok accepts c.account_scan-scan.ensures.direction c.account_scan-scan.ensures.members)
