use Rattle.std.proofs.Common.{◌≡◌, length}
use Rattle.tf_look_ups.proofs.at_once.probes.Given as goal

abbrev pub invariant-loop-place : goal.invariant-loop-place
invariant-loop-place g l = record {
  tables : length l.tables ≡ 16;
  probes : length l.probes ≡ 16;
}
