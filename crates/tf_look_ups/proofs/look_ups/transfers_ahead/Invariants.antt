use Rattle.std.proofs.Common.{◌≡◌, length, map, take}
use Rattle.std.specs.Option.{option_and_then, option_copied}
use Rattle.tf_look_ups.specs.Reads.{transfer_stamp_in, transfer_in}
use Rattle.tf_look_ups.proofs.look_ups.transfers_ahead.Given as goal

abbrev pub invariant-loop-place : goal.invariant-loop-place
invariant-loop-place g l = record {
  found : map option_copied (take l.place l.found) ≡ map (λ id. option_and_then (transfer_in l.manifest) (transfer_stamp_in l.manifest id)) (take l.place l.ids);
  wide : length l.found ≡ 16;
}
