use Rattle.tf_scan.specs.Place.{Seeks}
use Rattle.tf_scan.proofs.Walked.{IsWalked}
use Rattle.tf_scan.proofs.places.seek_all.Given as goal

abbrev pub invariant-loop-place : goal.invariant-loop-place
invariant-loop-place g l = IsWalked (Seeks l.direction l.value l.timestamp) l.place-index l.initial.places l.places
