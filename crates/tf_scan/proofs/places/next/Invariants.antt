use Rattle.std.proofs.Common.{◌≡◌, sum_by}
use Rattle.std.specs.List.{AllByRecursion}
use Rattle.tf_scan.specs.Prefix.{prefix_of}
use Rattle.tf_scan.specs.Place.{lists_left, steps_left, IsPlace}
use Rattle.tf_scan.specs.Turn.{IsTurn}
use Rattle.tf_scan.proofs.places.next.Given as goal

abbrev pub invariant-loop-timestamp : goal.invariant-loop-timestamp
invariant-loop-timestamp g l = record {
  right : AllByRecursion (IsPlace l.direction l.value) l.places;
  turn : IsTurn l.direction l.turn l.places;
  same : prefix_of l.direction l.value (lists_left l.direction l.value l.places) ≡ prefix_of l.direction l.value (lists_left l.direction l.value l.initial.places);
}

abbrev pub decreases-loop-timestamp : goal.decreases-loop-timestamp
decreases-loop-timestamp g l = sum_by (steps_left l.direction l.value) l.places
