use Rattle.std.proofs.Common.{◌≡◌, List, IfOk, subst}
use Rattle.tf_records.specs.declared.account.Account.{Account}
use Rattle.tf_journal.specs.Lookup.{shown_with_id}
use Rattle.tf_query.proofs.Asked.{filter_map-alike}
use Rattle.tf_query.proofs.look_ups.accounts_with_ids.Goals as goal

pub returns-in-Ok-clause-ok : goal.returns-in-Ok-clause-ok
returns-in-Ok-clause-ok g c journal sound shows =
    subst (λ (rows : List Account). IfOk c.accounts_under_ids.result (λ v. v.items ≡ rows))
    (filter_map-alike _ (shown_with_id journal) c.args.ids.now (λ id. c.rows_find_ids.ensures.shown c.args.manifest.now journal sound shows id))
    c.accounts_under_ids.ensures.ok
