use Rattle.std.proofs.Common.{◌≡◌, ◌<◌, ℕ, [], length, slice_index_or}
use Rattle.tf_mutable_rows.proofs.mutable_tables.clear_all.Given as goal

abbrev pub invariant-loop-place : goal.invariant-loop-place
invariant-loop-place g l = (length l.indexes ≡ length l.initial.indexes) × ((i : ℕ) → i < l.place → slice_index_or l.indexes i [] ≡ [])
