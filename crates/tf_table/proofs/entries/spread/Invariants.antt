use Rattle.std.proofs.Common.{◌≡◌, replicate, vec_capacity}
use Rattle.tf_table.proofs.entries.spread.Given as goal

abbrev pub invariant-loop-row : goal.invariant-loop-row
invariant-loop-row g l = record {
  items : l.entries.items ≡ replicate l._row l.same;
  room : vec_capacity l.entries ≡ l.room;
}
