use Rattle.std.proofs.Common.{◌≡◌, ◌≤◌, length, take}
use Rattle.std.specs.List.{filter_map}
use Rattle.std.specs.Option.{option_and_then}
use Rattle.std.specs.Prelude.{vec_capacity, vec_len}
use Rattle.tf_look_ups.specs.Reads.{account_stamp_in, shown_in}
use Rattle.tf_look_ups.proofs.look_ups.accounts_under_ids.Given as goal

abbrev pub invariant-loop-id : goal.invariant-loop-id
invariant-loop-id g l = record {
  found : l.rows.items ≡ filter_map (λ id. option_and_then (shown_in l.manifest) (account_stamp_in l.manifest id)) (take l.id-index l.ids);
  few : vec_len l.rows ≤ l.id-index;
  room : vec_capacity l.rows ≡ length l.ids;
}
