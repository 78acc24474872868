use Rattle.std.proofs.Common.{◌≡◌, ◌++◌, take, drop, map}
use Rattle.tf_table.specs.Key.{key_cmp}
use Rattle.tf_table.specs.Merge.{passed}
use Rattle.tf_table.proofs.merging.pass.Given as goal

abbrev pub invariant-loop-i : goal.invariant-loop-i
invariant-loop-i g l =
    take l.i l.places ++ passed key_cmp l.key (drop l.i (map (λ table. table.now) l.tables)) (drop l.i l.places)
    ≡ passed key_cmp l.key (map (λ table. table.now) l.tables) l.initial.places
