use Rattle.std.proofs.Common.{◌≡◌, List, IfOk}
use Rattle.std.specs.Arc.{arc_value}
use Rattle.tf_journal.specs.declared.entry.Entry.{Entry}
use Rattle.tf_journal.specs.Answer.{found_transfers_of}
use Rattle.tf_query.proofs.Versions.{of-version}
use Rattle.tf_query.proofs.version.Version.query_transfers.Goals as goal

pub returns-clause-ok : goal.returns-clause-ok
returns-clause-ok g c =
    of-version (λ (journal : List Entry). IfOk c.found_transfers.result (λ rows. rows.items ≡ found_transfers_of journal c.args.filter.now))
    c.deref.result.now (arc_value c.self.inside.manifest) _ c.deref.ensures c.self.view_is c.self.invariant c.found_transfers.ensures.ok
