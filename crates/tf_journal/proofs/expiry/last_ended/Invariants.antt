use Rattle.std.proofs.Common.{◌≡◌, ℕ, take, Some, true}
use Rattle.std.specs.List.{list_any}
use Rattle.tf_journal.specs.Expired.{ends}
use Rattle.tf_journal.proofs.expiry.last_ended.Given as goal

abbrev pub invariant-loop-entry : goal.invariant-loop-entry
invariant-loop-entry l = (p : ℕ) → l.last ≡ Some p → list_any (ends p) (take l.entry-index l.entries) ≡ true
