use Rattle.std.proofs.Common.{◌∙◌, ap, get_or, refl, []}
use Rattle.tf_manifest.specs.View.{View}
use Rattle.tf_query.specs.History.{has_sums}
use Rattle.tf_query.specs.Windows.{account_window}
use Rattle.tf_query.proofs.Asked.{first-alike, ok-map}
use Rattle.tf_query.proofs.Summed.{sums_left}
use Rattle.tf_query.proofs.history.summed_timestamps.Goals as goal

pub returns-clause-ok : goal.returns-clause-ok
returns-clause-ok g c =
    let accepts = has_sums c.args.manifest.now c.args.filter.now.account_id in
    first-alike c.timestamps_unless_refused.result (λ v. v.items) (account_window c.args.filter.now) c.of_account_filter-window.result accepts accepts c.of_account_filter-window.ensures (λ t. refl)
    (c.timestamps_unless_refused.ensures.ok accepts
    (ok-map c.leaf.result _ _ c.leaf.ensures.direction (λ scan same. same ∙ c.expecting-sums.ensures.direction))
    (ok-map c.leaf.result _ _ c.leaf.ensures.left (λ scan same. sums_left c.args.manifest.now c.args.filter.now.account_id c.row-tables.result.now _ _
    (c.row-tables.ensures.row ∙ ap (λ (view : View). get_or view.sums 0 []) c.manifest.view_is) same c.expecting-sums.ensures.members)))
