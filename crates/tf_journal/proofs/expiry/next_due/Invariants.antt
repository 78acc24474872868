use Rattle.std.proofs.Common.{◌≡◌, take, None}
use Rattle.std.specs.List.{fold}
use Rattle.tf_journal.specs.Expired.{first_due}
use Rattle.tf_journal.proofs.expiry.next_due.Given as goal

abbrev pub invariant-loop-entry : goal.invariant-loop-entry
invariant-loop-entry l = l.first ≡ fold (first_due l.entries l.at) None (take l.entry-index l.entries)
