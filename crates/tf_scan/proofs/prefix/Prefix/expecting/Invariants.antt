use Rattle.std.proofs.Common.{◌≡◌, ℕ, length, take}
use Rattle.std.specs.List.{AllByRecursion}
use Rattle.tf_table.specs.Content.{entry_of}
use Rattle.tf_registry.specs.Row.{lists_of}
use Rattle.tf_manifest.specs.Rows.{key_of}
use Rattle.tf_scan.specs.Place.{lists_left, IsPlace}
use Rattle.tf_scan.proofs.prefix.Prefix.expecting.Given as goal

abbrev pub invariant-loop-reference : goal.invariant-loop-reference
invariant-loop-reference g l = record {
  right : AllByRecursion (IsPlace l.direction l.value) l.places.items;
  count : length l.places.items ≡ l.reference-index;
  same : (t : ℕ) → entry_of (key_of l.value t) (lists_left l.direction l.value l.places.items) ≡ entry_of (key_of l.value t) (lists_of (take l.reference-index l.reference-items));
}
