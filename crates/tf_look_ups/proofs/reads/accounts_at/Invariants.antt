use Rattle.std.proofs.Common.{◌≡◌, ◌≤◌, length, take}
use Rattle.std.specs.List.{filter_map}
use Rattle.std.specs.Prelude.{vec_capacity, vec_len}
use Rattle.tf_look_ups.specs.Reads.{shown_in}
use Rattle.tf_look_ups.proofs.reads.accounts_at.Given as goal

abbrev pub invariant-loop-timestamp : goal.invariant-loop-timestamp
invariant-loop-timestamp g l = record {
  found : l.rows.items ≡ filter_map (shown_in l.manifest) (take l.timestamp-index l.timestamps);
  few : vec_len l.rows ≤ l.timestamp-index;
  room : vec_capacity l.rows ≡ length l.timestamps;
}
