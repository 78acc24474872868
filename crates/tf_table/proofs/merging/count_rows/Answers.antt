use Rattle.std.proofs.Common.{◌≡◌, ◌+◌, length, arith, rules, ap}
use Rattle.std.proofs.lemmas.List.Sums.{sum_by_more}
use Rattle.tf_sorted.specs.Rows.{IsRising}
use Rattle.tf_table.specs.Key.{key_cmp}
use Rattle.tf_table.proofs.Walks.{tables_more}
use Rattle.tf_table.proofs.merging.count_rows.Goals as goal

pub loop-table-preserved : goal.loop-table-preserved
loop-table-preserved g c =
    let added : c.in_ok-rows.rows ≡ c.loop-table.rows + c.len.result = search rules in
    let here = ap (λ table. length table.now) c.table-item.is in
    let more = sum_by_more (λ table. length table.now) c.args.tables.now c.loop-table.table-index c.table-item.result (omega arith) in
    record {
      rows = omega (arith, added, here, more, c.len.ensures.value, c.loop-table.invariant.rows);
      rising = tables_more (IsRising key_cmp) c.args.tables.now c.loop-table.table-index c.table-item.result (omega arith) c.table-item.is c.len.ensures.rising c.loop-table.invariant.rising;
    }
