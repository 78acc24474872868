use Rattle.std.proofs.Common.{◌≡◌, ◌∙◌, refl, sym, ap, subst, List, IfOk}
use Rattle.std.specs.List.{filter_map}
use Rattle.std.specs.Prelude.{vec_capacity}
use Rattle.tf_records.specs.declared.transfer.Transfer.{Transfer}
use Rattle.tf_query.specs.Asked.{transfer_fields_at}
use Rattle.tf_look_ups.specs.Reads.{transfer_in}
use Rattle.tf_query.specs.Residual.{query_lead, query_residual}
use Rattle.tf_query.specs.Windows.{query_window}
use Rattle.tf_journal.specs.Filter.{query_search, searched_transfer}
use Rattle.tf_journal.specs.Journal.{transfers_of}
use Rattle.tf_query.proofs.Asked.{answered, few-rows, nothing, tested-answer}
use Rattle.tf_query.proofs.filters.found_transfers.Goals as goal

pub returns-in-Ok-clause-ok : goal.returns-in-Ok-clause-ok
returns-in-Ok-clause-ok g c journal sound shows =
    let read = transfer_in c.args.manifest.now in
    subst (λ (rows : List Transfer). IfOk c.transfers_at.result (λ v. v.items ≡ rows))
    (ap (filter_map read) c.as_slice.ensures.value
    ∙ answered read (query_window c.args.filter.now) (transfer_fields_at c.args.manifest.now c.args.filter.now) c.in-Ok.timestamps.items _ c.in-Ok.ensures.ok
    (c.scans_answer_filters.ensures.transfers c.args.manifest.now journal sound shows c.args.filter.now (sym c.is_valid_query_filter.ensures ∙ c.if-not-is_valid_query_filter.false) (query_window c.args.filter.now).direction refl))
    c.transfers_at.ensures.ok

pub returns-then-not-is_valid_query_filter-clause-ok : goal.returns-then-not-is_valid_query_filter-clause-ok
returns-then-not-is_valid_query_filter-clause-ok g c journal sound shows =
    c.new.ensures.items ∙ nothing (query_search searched_transfer c.args.filter.now) (transfers_of journal) (sym c.is_valid_query_filter.ensures ∙ c.if-not-is_valid_query_filter.true)

pub returns-in-Ok-clause-room : goal.returns-in-Ok-clause-room
returns-in-Ok-clause-room g c =
    few-rows c.transfers_at.result (λ rows. vec_capacity rows) (query_window c.args.filter.now) (transfer_fields_at c.args.manifest.now c.args.filter.now) c.in-Ok.timestamps.items _ c.as_slice.ensures.value c.in-Ok.ensures.ok c.transfers_at.ensures.room

pub returns-then-tested-clause-ok : goal.returns-then-tested-clause-ok
returns-then-tested-clause-ok g c journal sound shows =
    tested-answer c.tested_transfers.result (λ v. v.items) c.args.manifest.now (query_residual c.tested_of_query_filter-tested.result c.args.filter.now) (query_window c.args.filter.now) (transfer_fields_at c.args.manifest.now (query_lead c.tested_of_query_filter-tested.result c.args.filter.now)) _ c.tested_transfers.ensures.ok
    (c.leads_answer_filters.ensures.transfers c.args.manifest.now journal sound shows c.tested_of_query_filter-tested.result c.args.filter.now (sym c.is_valid_query_filter.ensures ∙ c.if-not-is_valid_query_filter.false))
