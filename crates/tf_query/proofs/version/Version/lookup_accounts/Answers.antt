use Rattle.std.proofs.Common.{◌≡◌, List, IfOk}
use Rattle.std.specs.Arc.{arc_value}
use Rattle.tf_journal.specs.declared.entry.Entry.{Entry}
use Rattle.tf_journal.specs.Answer.{looked_up_accounts}
use Rattle.tf_query.proofs.Versions.{of-version}
use Rattle.tf_query.proofs.version.Version.lookup_accounts.Goals as goal

pub returns-clause-ok : goal.returns-clause-ok
returns-clause-ok g c =
    of-version (λ (journal : List Entry). IfOk c.accounts_with_ids.result (λ rows. rows.items ≡ looked_up_accounts journal c.args.ids.now))
    c.deref.result.now (arc_value c.self.inside.manifest) _ c.deref.ensures c.self.view_is c.self.invariant c.accounts_with_ids.ensures.ok
