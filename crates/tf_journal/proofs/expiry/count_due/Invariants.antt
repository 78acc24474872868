use Rattle.std.proofs.Common.{◌≡◌, take, min}
use Rattle.std.specs.List.{count_by}
use Rattle.tf_journal.specs.Expired.{holds_due}
use Rattle.tf_journal.proofs.expiry.count_due.Given as goal

abbrev pub invariant-loop-entry : goal.invariant-loop-entry
invariant-loop-entry l = l.count ≡ min l.most (count_by (holds_due l.entries l.at) (take l.entry-index l.entries))
