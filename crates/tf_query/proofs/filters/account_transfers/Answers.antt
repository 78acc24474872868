use Rattle.std.proofs.Common.{◌∙◌, refl, sym}
use Rattle.tf_query.specs.Asked.{account_filter_at}
use Rattle.tf_look_ups.specs.Reads.{transfer_in}
use Rattle.tf_query.specs.Residual.{account_lead, account_residual}
use Rattle.tf_query.specs.Windows.{account_window}
use Rattle.tf_journal.specs.Filter.{account_search}
use Rattle.tf_journal.specs.Journal.{transfers_of}
use Rattle.tf_query.proofs.Asked.{nothing, of-first, tested-answer}
use Rattle.tf_query.proofs.filters.account_transfers.Goals as goal

pub returns-clause-ok : goal.returns-clause-ok
returns-clause-ok g c journal sound shows =
    of-first c.scanned_account_transfers.result (λ v. v.items) (transfer_in c.args.manifest.now) (account_window c.args.filter.now) (account_filter_at c.args.manifest.now c.args.filter.now) _ c.scanned_account_transfers.ensures.ok
    (c.scans_answer_filters.ensures.account_transfers c.args.manifest.now journal sound shows c.args.filter.now (sym c.is_valid_account_filter.ensures ∙ c.if-not-is_valid_account_filter.false) (account_window c.args.filter.now).direction refl)

pub returns-then-not-is_valid_account_filter-clause-ok : goal.returns-then-not-is_valid_account_filter-clause-ok
returns-then-not-is_valid_account_filter-clause-ok g c journal sound shows =
    c.new.ensures.items ∙ nothing (account_search c.args.filter.now) (transfers_of journal) (sym c.is_valid_account_filter.ensures ∙ c.if-not-is_valid_account_filter.true)

pub returns-then-tested-clause-ok : goal.returns-then-tested-clause-ok
returns-then-tested-clause-ok g c journal sound shows =
    tested-answer c.tested_account_transfers.result (λ v. v.items) c.args.manifest.now (account_residual c.tested_of_account_filter-tested.result c.args.filter.now) (account_window c.args.filter.now) (account_filter_at c.args.manifest.now (account_lead c.tested_of_account_filter-tested.result c.args.filter.now)) _ c.tested_account_transfers.ensures.ok
    (c.leads_answer_filters.ensures.account_transfers c.args.manifest.now journal sound shows c.tested_of_account_filter-tested.result c.args.filter.now (sym c.is_valid_account_filter.ensures ∙ c.if-not-is_valid_account_filter.false))
