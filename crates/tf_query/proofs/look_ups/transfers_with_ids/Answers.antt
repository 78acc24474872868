use Rattle.std.proofs.Common.{◌≡◌, List, IfOk, subst}
use Rattle.tf_records.specs.declared.transfer.Transfer.{Transfer}
use Rattle.tf_journal.specs.Lookup.{transfer_with_id}
use Rattle.tf_query.proofs.Asked.{filter_map-alike}
use Rattle.tf_query.proofs.look_ups.transfers_with_ids.Goals as goal

pub returns-in-Ok-clause-ok : goal.returns-in-Ok-clause-ok
returns-in-Ok-clause-ok g c journal sound shows =
    subst (λ (rows : List Transfer). IfOk c.transfers_under_ids.result (λ v. v.items ≡ rows))
    (filter_map-alike _ (transfer_with_id journal) c.args.ids.now (λ id. c.rows_find_ids.ensures.transfers c.args.manifest.now journal sound shows id))
    c.transfers_under_ids.ensures.ok
