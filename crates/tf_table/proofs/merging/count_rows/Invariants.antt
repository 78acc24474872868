use Rattle.std.proofs.Common.{◌≡◌, take, map, length, sum_by}
use Rattle.tf_sorted.specs.Rows.{IsRising}
use Rattle.tf_table.specs.Key.{key_cmp}
use Rattle.tf_table.specs.Merge.{EachList}
use Rattle.tf_table.proofs.merging.count_rows.Given as goal

abbrev pub invariant-loop-table : goal.invariant-loop-table
invariant-loop-table g l = record {
  rows : l.rows ≡ sum_by (λ table. length table.now) (take l.table-index l.tables);
  rising : EachList (IsRising key_cmp) (take l.table-index (map (λ table. table.now) l.tables));
}
