use Rattle.std.proofs.Common.{◌≡◌, vec_len}
use Rattle.tf_crew_tests.proofs.crews.zeros.Given as goal

abbrev pub invariant-loop-place : goal.invariant-loop-place
invariant-loop-place l = vec_len l.zeros ≡ l._place
