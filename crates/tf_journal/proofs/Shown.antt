-- Accounts as answers show them.
use Rattle.std.proofs.Common.{arith, ◌≡◌, List}
use Rattle.std.proofs.lemmas.Grind.{common_steps}
use Rattle.tf_records.specs.declared.account.Account.{Account}
use Rattle.tf_journal.specs.declared.entry.Entry.{Entry}
use Rattle.tf_journal.specs.Closed.{is_closed}
use Rattle.tf_journal.specs.Flags.{is_marked_closed}
use Rattle.tf_journal.specs.Lookup.{shown}

-- an account is shown as closed just where it is
pub shown_closed : (journal : List Entry) (account : Account) → is_marked_closed (shown journal account) ≡ is_closed journal account
shown_closed journal account = grind (arith, common_steps)
