use Rattle.std.proofs.Common.{◌≡◌, drop}
use Rattle.tf_scan.specs.Order.{those_from}
use Rattle.tf_scan.proofs.buffer.count_before.Given as goal

abbrev pub invariant-loop-count : goal.invariant-loop-count
invariant-loop-count l = those_from l.direction l.timestamp (drop l.count l.timestamps) ≡ those_from l.direction l.timestamp l.timestamps
