use Rattle.std.proofs.Common.{◌≡◌, length, take}
use Rattle.tf_mutable.proofs.log.sealed_run.Given as goal

abbrev pub invariant-loop-row : goal.invariant-loop-row
invariant-loop-row g l = record {
  rows : l.draft.rows ≡ take l.row-index l.rows;
  room : l.draft.room ≡ length l.rows;
}
