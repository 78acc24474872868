use Rattle.std.proofs.Common.{◌≡◌, length, map, take}
use Rattle.std.specs.Option.{option_copied}
use Rattle.tf_registry.specs.Row.{content_at}
use Rattle.tf_manifest.specs.Rows.{key_of}
use Rattle.tf_look_ups.specs.Reads.{stored_record}
use Rattle.tf_look_ups.proofs.reads.find_transfers.Given as goal

abbrev pub invariant-loop-place : goal.invariant-loop-place
invariant-loop-place g l = record {
  found : map option_copied (take l.place l.found) ≡ map (λ t. stored_record (content_at (key_of 0 t) l.fn.transfers)) (take l.place l.timestamps);
  wide : length l.found ≡ 16;
  same : l.transfers ≡ l.fn.transfers;
}
