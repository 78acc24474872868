use Rattle.std.proofs.Common.{◌≡◌, ◌+◌, length}
use Rattle.tf_sorted.specs.Rows.{rows_from}
use Rattle.tf_table.specs.Key.{key_cmp}
use Rattle.tf_manifest.specs.declared.row.Row.TheVariants as row
use Rattle.tf_rows.specs.Due.{due_pairs}
use Rattle.tf_rows.specs.Spelled.{pairs_in}
use Rattle.tf_rows.proofs.due.due_count.Given as goal

-- the pairs that were counted and those that are left are all
abbrev pub invariant-loop-count : goal.invariant-loop-count
invariant-loop-count g l =
    let pairs = due_pairs l.at (pairs_in (g.S.RowSet.parts l.rows) row.Expiry) in
    l.count + length (rows_from key_cmp l.from pairs) ≡ length pairs
