-- What the fields of a cursor downwards mean, and what holds of them.
use Rattle.std.specs.Prelude.{◌≡◌, ℕ, ◌≤◌, List, ◌++◌, length, take, reverse, Option}
use Rattle.std.specs.declared.cmp.Ordering.{Ordering}
use denote.Bor.{Bor}
use Rattle.tf_btree.specs.Subtree.{Subtree}
use Rattle.tf_sorted.specs.Rows.{IsRising}
use Rattle.tf_btree.specs.Run.{pairs, rows_of, AllLeaves}
use Rattle.tf_btree.specs.Cursor.{rows_at}
use Rattle.tf_btree.specs.RunBack.{rows_before, HasBefore}

-- the rows that are left, from the greatest key down: those of the run up to its place, those of the leaves before it, and those before these
abbrev pub rows_left_back : {K V : Type 0} → (K → K → Ordering) → Option (Bor (Subtree K V)) → List K → List V → ℕ → List (Subtree K V) → Option K → List (K × V)
rows_left_back cmp root ks vs at leaves before = reverse (rows_before cmp before (rows_at root) ++ (rows_of leaves ++ pairs (take at ks) (take at vs)))

-- a run has a value for each key, leaves with rows are before it, the rows rise, and some are before its branch where that has a key
pub record IsBackCursor {K V : Type 0} (cmp : K → K → Ordering) (root : Option (Bor (Subtree K V))) (ks : List K) (vs : List V) (at : ℕ) (leaves : List (Subtree K V)) (before : Option K) : Type 0 where
  pub same : length ks ≡ length vs
  pub within : at ≤ length ks
  pub filled : AllLeaves leaves
  pub rising : IsRising cmp (rows_at root)
  pub more : HasBefore cmp before (rows_at root)
