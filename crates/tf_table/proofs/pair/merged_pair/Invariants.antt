use Rattle.std.proofs.Common.{◌≡◌, ◌+◌, [], ◌∷◌, length}
use Rattle.tf_table.specs.Key.{key_cmp}
use Rattle.tf_table.proofs.Keys.{keys_total, exact_keys}
use Rattle.tf_table.proofs.Least.{left_of, rows_left}
use Rattle.tf_table.proofs.Combine.{Combines}
use Rattle.tf_table.proofs.pair.merged_pair.Given as goal

abbrev pub invariant-loop-step : goal.invariant-loop-step
invariant-loop-step g l = record {
  room : l.draft.room ≡ length l.newer + length l.older;
  combines : Combines key_cmp keys_total exact_keys l.bottom (l.newer ∷ l.older ∷ []) (left_of (l.newer ∷ l.older ∷ []) (l.newer_place ∷ l.older_place ∷ [])) l.draft.rows;
}

abbrev pub decreases-loop-step : goal.decreases-loop-step
decreases-loop-step g l = rows_left key_cmp keys_total (left_of (l.newer ∷ l.older ∷ []) (l.newer_place ∷ l.older_place ∷ []))
