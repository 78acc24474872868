use Rattle.std.proofs.Common.{◌≡◌, length, map, take}
use Rattle.tf_look_ups.specs.Reads.{stamp_by}
use Rattle.tf_look_ups.proofs.look_ups.stamps_one_by_one.Given as goal

abbrev pub invariant-loop-place : goal.invariant-loop-place
invariant-loop-place g l = record {
  same : l.tables ≡ l.initial.tables;
  found : take l.place l.stamps ≡ map (stamp_by l.initial.tables) (take l.place l.ids);
  wide : length l.stamps ≡ 16;
}
