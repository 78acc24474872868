use Rattle.std.proofs.Common.{◌≡◌, ◌+◌, length}
use Rattle.std.specs.List.{zip}
use Rattle.tf_scan.specs.Run.{WritesEntries}
use Rattle.tf_scan.proofs.run.write_entries.Given as goal

abbrev pub invariant-loop-to : goal.invariant-loop-to
invariant-loop-to g l = record {
  written : (w : WritesEntries l.direction l.turn.until l.from l.to l.passed l.initial.keys l.initial.entries l.initial.out l.out) × (w.left ≡ zip l.left_keys l.left_entries);
  paired : length l.left_keys ≡ length l.left_entries;
  many : l.passed + length l.left_keys ≡ length l.initial.keys;
}

abbrev pub decreases-loop-to : goal.decreases-loop-to
decreases-loop-to g l = length l.left_keys
