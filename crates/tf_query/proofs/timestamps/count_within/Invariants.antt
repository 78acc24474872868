use Rattle.std.proofs.Common.{◌≡◌, true, take}
use Rattle.std.specs.List.{AllByRecursion}
use Rattle.tf_journal.specs.Filter.{is_within}
use Rattle.tf_query.proofs.timestamps.count_within.Given as goal

abbrev pub invariant-loop-place : goal.invariant-loop-place
invariant-loop-place l = AllByRecursion (λ t. is_within l.window.low l.window.high t ≡ true) (take l.place l.timestamps)
