use Rattle.std.proofs.Common.{◌≡◌, length, map, take}
use Rattle.std.specs.Option.{option_and_then, option_copied}
use Rattle.tf_table.specs.Content.{entry_of}
use Rattle.tf_registry.specs.Row.{lists_of}
use Rattle.tf_manifest.specs.Rows.{key_of}
use Rattle.tf_look_ups.proofs.at_once.entries_at_stamps.Given as goal

abbrev pub invariant-loop-place : goal.invariant-loop-place
invariant-loop-place g l = record {
  found : map option_copied (take l.place l.found) ≡ map (option_and_then (λ t. entry_of (key_of 0 t) (lists_of l.references))) (take l.place l.stamps);
  wide : length l.found ≡ 16;
}
