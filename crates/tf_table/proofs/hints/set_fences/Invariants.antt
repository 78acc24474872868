use Rattle.std.proofs.Common.{◌≡◌, length}
use Rattle.tf_table.proofs.hints.set_fences.Given as goal

abbrev pub invariant-loop-place : goal.invariant-loop-place
invariant-loop-place g l = length l.words.items ≡ length l.initial.words.items
