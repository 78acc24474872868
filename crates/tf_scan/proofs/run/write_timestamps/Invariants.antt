use Rattle.std.proofs.Common.{◌≡◌, length}
use Rattle.tf_scan.specs.Run.{WritesKeys}
use Rattle.tf_scan.proofs.run.write_timestamps.Given as goal

abbrev pub invariant-loop-to : goal.invariant-loop-to
invariant-loop-to l = (w : WritesKeys l.direction l.turn.until l.from l.to l.initial.keys l.initial.out l.out) × (w.others ≡ l.left)

abbrev pub decreases-loop-to : goal.decreases-loop-to
decreases-loop-to l = length l.left
