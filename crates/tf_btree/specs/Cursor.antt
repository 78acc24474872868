-- What a cursor's fields mean, and what holds of them.
use Rattle.std.specs.Prelude.{◌≡◌, ℕ, ◌<◌, ◌≤◌, List, [], ◌++◌, length, drop, Option, Some, None, IsSome}
use Rattle.std.specs.declared.cmp.Ordering.{Ordering}
use denote.Bor.{Bor}
use Rattle.tf_btree.specs.Subtree.{Subtree, rows}
use Rattle.tf_sorted.specs.Rows.{IsRising, value_at}
use Rattle.tf_btree.specs.Run.{pairs, rows_of, AllLeaves, rows_after}

-- the rows below a lent root
abbrev pub rows_at : {K V : Type 0} → Option (Bor (Subtree K V)) → List (K × V)
rows_at None = []
rows_at (Some r) = rows r.now

-- the rows that are left: those of the run from its place on, those of the leaves behind it, and those from the next key on
abbrev pub rows_left : {K V : Type 0} → (K → K → Ordering) → Option (Bor (Subtree K V)) → List K → List V → ℕ → List (Subtree K V) → Option K → List (K × V)
rows_left cmp root ks vs at leaves next = (pairs (drop at ks) (drop at vs) ++ rows_of leaves) ++ rows_after cmp next (rows_at root)

-- the next key is that of a row
abbrev pub IsKeyOf : {K V : Type 0} → (K → K → Ordering) → List (K × V) → Option K → Type 0
IsKeyOf cmp all_rows None = Unit {0}
IsKeyOf cmp all_rows (Some k) = IsSome (value_at cmp k all_rows)

-- a run has a value for each key, leaves with rows are behind it, the rows rise, and the next key is one of theirs
pub record IsCursor {K V : Type 0} (cmp : K → K → Ordering) (root : Option (Bor (Subtree K V))) (ks : List K) (vs : List V) (at : ℕ) (leaves : List (Subtree K V)) (next : Option K) : Type 0 where
  pub same : length ks ≡ length vs
  pub within : at ≤ length ks
  pub filled : AllLeaves leaves
  pub rising : IsRising cmp (rows_at root)
  pub member : IsKeyOf cmp (rows_at root) next

-- the next run: it has rows, and with those behind it all that were left
pub record IsNextRun {K V : Type 0} (cmp : K → K → Ordering) (all_rows : List (K × V)) (leaves : List (Subtree K V)) (next : Option K) (ks : List K) (vs : List V) (further : List (Subtree K V)) (behind : Option K) : Type 0 where
  pub same : length ks ≡ length vs
  pub some : 0 < length ks
  pub filled : AllLeaves further
  pub all : rows_of leaves ++ rows_after cmp next all_rows ≡ (pairs ks vs ++ rows_of further) ++ rows_after cmp behind all_rows
  pub member : IsKeyOf cmp all_rows behind
