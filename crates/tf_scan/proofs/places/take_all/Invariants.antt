use Rattle.std.proofs.Common.{◌≡◌, take}
use Rattle.std.specs.Option.{option_copied, option_map}
use Rattle.tf_table.specs.Content.{entry_of}
use Rattle.tf_manifest.specs.Rows.{key_of}
use Rattle.tf_scan.specs.Place.{lists_left, Takes}
use Rattle.tf_scan.proofs.Walked.{IsWalked}
use Rattle.tf_scan.proofs.places.take_all.Given as goal

abbrev pub invariant-loop-place : goal.invariant-loop-place
invariant-loop-place g l = record {
  walked : IsWalked (Takes l.direction l.value l.timestamp) l.place-index l.initial.places l.places;
  newest : option_map option_copied l.newest ≡ entry_of (key_of l.value l.timestamp) (lists_left l.direction l.value (take l.place-index l.initial.places));
}
