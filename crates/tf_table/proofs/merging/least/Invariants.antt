use Rattle.std.proofs.Common.{◌≡◌, ◌≤◌, length, drop, map}
use Rattle.tf_table.specs.Key.{key_cmp}
use Rattle.tf_table.specs.Merge.{least_at}
use Rattle.tf_table.proofs.merging.least.Given as goal

abbrev pub invariant-loop-rest : goal.invariant-loop-rest
invariant-loop-rest g l = record {
  within : l.rest ≤ length l.tables;
  found : l.found ≡ least_at key_cmp (drop l.rest (map (λ table. table.now) l.tables)) (drop l.rest l.places);
}

abbrev pub decreases-loop-rest : goal.decreases-loop-rest
decreases-loop-rest g l = l.rest
