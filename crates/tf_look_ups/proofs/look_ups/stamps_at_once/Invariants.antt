use Rattle.std.proofs.Common.{◌≡◌, length, map, take}
use Rattle.tf_look_ups.specs.Reads.{transfer_stamp_in}
use Rattle.tf_look_ups.proofs.look_ups.stamps_at_once.Given as goal

abbrev pub invariant-loop-place : goal.invariant-loop-place
invariant-loop-place g l = record {
  found : take l.place l.stamps ≡ map (transfer_stamp_in l.manifest) (take l.place l.ids);
  wide : length l.stamps ≡ 16;
}
