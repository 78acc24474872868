use Rattle.std.proofs.Common.{◌≡◌, take}
use Rattle.tf_journal.specs.Balances.{balances_of}
use Rattle.tf_journal.proofs.balances.balances.Given as goal

abbrev pub invariant-loop-i : goal.invariant-loop-i
invariant-loop-i l = l.sums ≡ balances_of (take l.i l.entries) l.id
