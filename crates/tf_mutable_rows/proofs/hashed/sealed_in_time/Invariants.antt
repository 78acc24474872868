use Rattle.std.proofs.Common.{◌≡◌, length}
use Rattle.tf_table.specs.Key.{key_cmp}
use Rattle.tf_table.proofs.Keys.{exact_keys, keys_total}
use Rattle.tf_mutable.specs.Mutable.{in_order}
use Rattle.tf_mutable_rows.specs.Hashed.{keyed}
use Rattle.tf_mutable_rows.proofs.Gathered.{AreAmong}
use Rattle.tf_mutable_rows.proofs.hashed.sealed_in_time.Given as goal

abbrev pub invariant-loop-timestamp : goal.invariant-loop-timestamp
invariant-loop-timestamp g l = record {
  rows : length l.draft.rows ≡ l.timestamp-index;
  room : l.draft.room ≡ length l.times;
  among : AreAmong key_cmp keys_total exact_keys l.draft.rows (in_order (keyed l.rows.entries));
}
