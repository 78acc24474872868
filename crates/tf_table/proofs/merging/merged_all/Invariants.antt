use Rattle.std.proofs.Common.{◌≡◌, length, sum_by}
use Rattle.tf_table.specs.Key.{key_cmp}
use Rattle.tf_table.proofs.Keys.{keys_total, exact_keys}
use Rattle.tf_table.proofs.Least.{left_of, rows_left}
use Rattle.tf_table.proofs.Combine.{Combines}
use Rattle.tf_table.proofs.Walks.{lists_of}
use Rattle.tf_table.proofs.merging.merged_all.Given as goal

abbrev pub invariant-loop-row : goal.invariant-loop-row
invariant-loop-row g l = record {
  room : l.draft.room ≡ sum_by (λ table. length table.now) l.tables;
  places : length l.places.items ≡ length l.tables;
  combines : Combines key_cmp keys_total exact_keys l.bottom (lists_of l.tables) (left_of (lists_of l.tables) l.places.items) l.draft.rows;
}

abbrev pub decreases-loop-row : goal.decreases-loop-row
decreases-loop-row g l = rows_left key_cmp keys_total (left_of (lists_of l.tables) l.places.items)
