use Rattle.std.proofs.Common.{◌≡◌, ◌+◌, ◌≤◌, ◌++◌, take}
use Rattle.std.specs.List.{filter_map}
use Rattle.std.specs.Option.{option_copied}
use Rattle.std.specs.Prelude.{vec_capacity, vec_len}
use Rattle.tf_look_ups.proofs.reads.push_records.Given as goal

abbrev pub invariant-loop-record : goal.invariant-loop-record
invariant-loop-record g l = record {
  found : l.rows.items ≡ l.fn.rows.items ++ filter_map option_copied (take l.record-index l.found);
  few : vec_len l.rows ≤ vec_len l.fn.rows + l.record-index;
  room : vec_capacity l.rows ≡ vec_capacity l.fn.rows;
}
