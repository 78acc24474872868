use Rattle.std.proofs.Common.{◌≡◌, ◌∙◌, refl, sym, ap, subst, map, List, IfOk}
use Rattle.std.specs.List.{filter_map}
use Rattle.std.specs.Prelude.{vec_capacity}
use Rattle.tf_records.specs.declared.account.Account.{Account}
use Rattle.tf_query.specs.Asked.{account_fields_at}
use Rattle.tf_look_ups.specs.Reads.{shown_in}
use Rattle.tf_query.specs.Windows.{query_window}
use Rattle.tf_journal.specs.Filter.{query_search, searched_account}
use Rattle.tf_journal.specs.Journal.{accounts_of}
use Rattle.tf_journal.specs.Lookup.{shown}
use Rattle.tf_query.proofs.Asked.{answered, few-rows, nothing}
use Rattle.tf_query.proofs.filters.found_accounts.Goals as goal

pub returns-in-Ok-clause-ok : goal.returns-in-Ok-clause-ok
returns-in-Ok-clause-ok g c journal sound shows =
    let read = shown_in c.args.manifest.now in
    subst (λ (rows : List Account). IfOk c.accounts_at.result (λ v. v.items ≡ rows))
    (ap (filter_map read) c.as_slice.ensures.value
    ∙ answered read (query_window c.args.filter.now) (account_fields_at c.args.manifest.now c.args.filter.now) c.in-Ok.timestamps.items _ c.in-Ok.ensures.ok
    (c.scans_answer_filters.ensures.accounts c.args.manifest.now journal sound shows c.args.filter.now (sym c.is_valid_query_filter.ensures ∙ c.if-not-is_valid_query_filter.false) (query_window c.args.filter.now).direction refl))
    c.accounts_at.ensures.ok

pub returns-then-not-is_valid_query_filter-clause-ok : goal.returns-then-not-is_valid_query_filter-clause-ok
returns-then-not-is_valid_query_filter-clause-ok g c journal sound shows =
    c.new.ensures.items ∙ ap (map (shown journal)) (nothing (query_search searched_account c.args.filter.now) (accounts_of journal) (sym c.is_valid_query_filter.ensures ∙ c.if-not-is_valid_query_filter.true))

pub returns-in-Ok-clause-room : goal.returns-in-Ok-clause-room
returns-in-Ok-clause-room g c =
    few-rows c.accounts_at.result (λ rows. vec_capacity rows) (query_window c.args.filter.now) (account_fields_at c.args.manifest.now c.args.filter.now) c.in-Ok.timestamps.items _ c.as_slice.ensures.value c.in-Ok.ensures.ok c.accounts_at.ensures.room
