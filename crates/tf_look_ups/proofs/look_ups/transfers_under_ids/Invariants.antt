use Rattle.std.proofs.Common.{◌≡◌, ◌+◌, ◌≤◌, ◌++◌, length}
use Rattle.std.specs.List.{filter_map}
use Rattle.std.specs.Option.{option_and_then}
use Rattle.std.specs.Prelude.{vec_capacity, vec_len, IfSome}
use Rattle.tf_look_ups.specs.Reads.{id_lists, transfer_stamp_in, transfer_in}
use Rattle.tf_look_ups.proofs.look_ups.transfers_under_ids.Given as goal

abbrev pub invariant-loop-rest : goal.invariant-loop-rest
invariant-loop-rest g l = record {
  found : l.rows.items ++ filter_map (λ id. option_and_then (transfer_in l.manifest) (transfer_stamp_in l.manifest id)) l.rest ≡ filter_map (λ id. option_and_then (transfer_in l.manifest) (transfer_stamp_in l.manifest id)) l.ids;
  few : vec_len l.rows + length l.rest ≤ length l.ids;
  room : vec_capacity l.rows ≡ length l.ids;
  tables : IfSome l.tables (λ t. t.items ≡ id_lists l.manifest);
}

abbrev pub decreases-loop-rest : goal.decreases-loop-rest
decreases-loop-rest g l = length l.rest
