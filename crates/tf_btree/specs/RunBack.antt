-- A run of rows in one leaf that ends at some key, and the rows before it.
use Rattle.std.specs.Prelude.{◌≡◌, ℕ, ◌<◌, Bool, true, not, List, [], ◌++◌, length, take, slice_index_or, Option, Some, None}
use Rattle.std.specs.declared.cmp.Ordering.{Ordering}
use Rattle.std.specs.declared.ops.Bound.{Bound}
use Rattle.std.specs.declared.ops.Bound.TheVariants.{Included, Excluded, Unbounded}
use Rattle.std.specs.Ordering.{is_lt, is_gt}
use Rattle.tf_btree.specs.Subtree.{Subtree, joined}
use Rattle.tf_sorted.specs.Rows.{first_key, rows_below, rows_upto}
use Rattle.tf_btree.specs.Run.{pairs, rows_of, AllLeaves}

module _ {K : Type 0} (cmp : K → K → Ordering) where
  -- whether a key lies within this end
  abbrev pub is_within : Bound K → K → Bool
  is_within (Included k) q = not (is_gt (cmp q k))
  is_within (Excluded k) q = is_lt (cmp q k)
  is_within Unbounded q = true

module _ {K V : Type 0} (cmp : K → K → Ordering) where
  -- the rows whose key lies within this end
  abbrev pub rows_to : Bound K → List (K × V) → List (K × V)
  rows_to (Included k) rows = rows_upto cmp k rows
  rows_to (Excluded k) rows = rows_below cmp k rows
  rows_to Unbounded rows = rows

  -- the rows before the first key of a run's branch; with no such key there are none
  abbrev pub rows_before : Option K → List (K × V) → List (K × V)
  rows_before None rows = []
  rows_before (Some k) rows = rows_below cmp k rows

  -- some row is before this key, if it is one
  abbrev pub HasBefore : Option K → List (K × V) → Type 0
  HasBefore None rows = Unit {0}
  HasBefore (Some k) rows = 0 < length (rows_below cmp k rows)

-- the first key of the back, where the front has rows
abbrev pub IsCut : {K V : Type 0} → Option K → List (K × V) → List (K × V) → Type 0
IsCut None front back = front ≡ []
IsCut (Some k) front back = (0 < length front) × (first_key back ≡ Some k)

-- the leaves and the run behind them have the last rows within the end, and their branch begins with the key `before`, where rows are before it
pub record IsRunTo {K V : Type 0} (cmp : K → K → Ordering) (end : Bound K) (all_rows : List (K × V)) (ks : List K) (vs : List V) (leaves : List (Subtree K V)) (before : Option K) : Type 0 where
  pub same : length ks ≡ length vs
  pub filled : AllLeaves leaves
  pub front : List (K × V)
  pub back : List (K × V)
  pub split : all_rows ≡ front ++ back
  pub cut : IsCut before front back
  pub all : rows_to cmp end all_rows ≡ front ++ (rows_of leaves ++ pairs ks vs)
  pub some : 0 < length (rows_to cmp end all_rows) → 0 < length ks

-- the run before: it has rows, and with those before it all that were left
pub record IsRunBefore {K V : Type 0} (cmp : K → K → Ordering) (all_rows : List (K × V)) (leaves : List (Subtree K V)) (before : Option K) (ks : List K) (vs : List V) (earlier : List (Subtree K V)) (further : Option K) : Type 0 where
  pub same : length ks ≡ length vs
  pub some : 0 < length ks
  pub filled : AllLeaves earlier
  pub all : rows_before cmp before all_rows ++ rows_of leaves ≡ rows_before cmp further all_rows ++ (rows_of earlier ++ pairs ks vs)
  pub more : HasBefore cmp further all_rows

-- the entry at i has the last row within the end, if any has one
pub record IsLastWithin {K V : Type 0} (cmp : K → K → Ordering) (end : Bound K) (ps : List (List (K × V))) (i : ℕ) : Type 0 where
  pub in_range : i < length ps
  pub all : rows_to cmp end (joined ps) ≡ joined (take i ps) ++ rows_to cmp end (slice_index_or ps i [])
  pub some : 0 < i → 0 < length (rows_to cmp end (slice_index_or ps i []))
