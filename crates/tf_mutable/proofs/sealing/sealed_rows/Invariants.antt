use Rattle.std.proofs.Common.{◌≡◌, ◌++◌, length}
use Rattle.tf_mutable.proofs.sealing.sealed_rows.Given as goal

abbrev pub invariant-loop-key : goal.invariant-loop-key
invariant-loop-key g l = record {
  rows : l.draft.rows ++ l.key-iterator ≡ l.tree;
  room : l.draft.room ≡ length l.tree;
}
