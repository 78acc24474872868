use Rattle.std.proofs.Common.{◌≡◌, ◌-◌, ◌≤◌, length, drop}
use Rattle.tf_scan.specs.Turn.{nearest_at, nearest_but}
use Rattle.tf_scan.proofs.turn.Turn.of.Given as goal

abbrev pub invariant-loop-rest : goal.invariant-loop-rest
invariant-loop-rest g l = record {
  within : l.rest ≤ l.turn.place;
  inside : l.turn.place ≤ length l.places;
  found : l.found ≡ nearest_at l.direction (l.turn.place - l.rest) (drop l.rest l.places);
  until : l.turn.until ≡ nearest_but l.direction (l.turn.place - l.rest) (drop l.rest l.places);
}

abbrev pub decreases-loop-rest : goal.decreases-loop-rest
decreases-loop-rest g l = l.rest
