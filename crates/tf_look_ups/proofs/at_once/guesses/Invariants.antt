use Rattle.std.proofs.Common.{◌≡◌, length}
use Rattle.tf_look_ups.proofs.at_once.guesses.Given as goal

abbrev pub invariant-loop-place : goal.invariant-loop-place
invariant-loop-place g l = length l.guesses ≡ 16
