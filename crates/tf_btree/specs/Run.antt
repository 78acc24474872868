-- A run of rows in one leaf, and the rows that follow it.
use Rattle.std.specs.Prelude.{◌≡◌, ◌<◌, List, [], ◌∷◌, ◌++◌, length, map, Option, Some, None}
use Rattle.std.specs.declared.cmp.Ordering.{Ordering}
use Rattle.tf_btree.specs.Subtree.{Subtree, joined, rows}
use Rattle.tf_btree.specs.Node.{single_rows}
use Rattle.tf_sorted.specs.Rows.{first_key, rows_from}

-- each key with its value
abbrev pub pairs : {K V : Type 0} → List K → List V → List (K × V)
pairs ks vs = joined (single_rows ks vs)

-- the rows of these subtrees
abbrev pub rows_of : {K V : Type 0} → List (Subtree K V) → List (K × V)
rows_of cs = joined (map rows cs)

-- each of these subtrees is a leaf with rows
abbrev pub AllLeaves : {K V : Type 0} → List (Subtree K V) → Type 0
AllLeaves [] = Unit {0}
AllLeaves (c ∷ cs) = (c.height ≡ 0) × (0 < length c.parts) × AllLeaves cs

-- the run and the leaves behind it have the first rows from k on, and those behind these begin with the key `next`
pub record IsRunFrom {K V : Type 0} (cmp : K → K → Ordering) (k : K) (all_rows : List (K × V)) (ks : List K) (vs : List V) (leaves : List (Subtree K V)) (next : Option K) : Type 0 where
  pub same : length ks ≡ length vs
  pub filled : AllLeaves leaves
  pub front : List (K × V)
  pub back : List (K × V)
  pub split : all_rows ≡ front ++ back
  pub begins : first_key back ≡ next
  pub all : rows_from cmp k all_rows ≡ (pairs ks vs ++ rows_of leaves) ++ back

-- the rows from the key behind a run and its leaves on
abbrev pub rows_after : {K V : Type 0} → (K → K → Ordering) → Option K → List (K × V) → List (K × V)
rows_after cmp None all_rows = []
rows_after cmp (Some k) all_rows = rows_from cmp k all_rows
