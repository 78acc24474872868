use Rattle.std.proofs.Common.{◌-◌, length}
use Rattle.std.specs.List.{AllByRecursion}
use Rattle.tf_scan.specs.Prefix.{prefix_of}
use Rattle.tf_scan.specs.Place.{lists_left, IsPlace}
use Rattle.tf_scan.specs.Turn.{IsTurn}
use Rattle.tf_scan.proofs.Moves.{HasMoved}
use Rattle.tf_scan.proofs.places.take_into.Given as goal

abbrev pub invariant-loop-taken : goal.invariant-loop-taken
invariant-loop-taken g l = record {
  right : AllByRecursion (IsPlace l.direction l.value) l.places;
  turn : IsTurn l.direction l.turn l.places;
  moved : HasMoved (prefix_of l.direction l.value (lists_left l.direction l.value l.initial.places)) (prefix_of l.direction l.value (lists_left l.direction l.value l.places)) l.taken l.initial.out l.out;
}

abbrev pub decreases-loop-taken : goal.decreases-loop-taken
decreases-loop-taken g l = length l.initial.out - l.taken
