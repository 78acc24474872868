-- What a node shows: its kind, its height, the rows below each of its entries, and how full its children are.
use Rattle.std.specs.Prelude.{◌≡◌, ℕ, suc, ◌<◌, Bool, List, [], ◌∷◌, ◌++◌, length, slice_index_or}
use Rattle.std.specs.declared.cmp.Ordering.{Ordering}
use Rattle.tf_sorted.specs.Rows.{IsRising}
use Rattle.tf_btree.specs.Shape.{Fill, shape_of}

-- the lists, one after another
abbrev pub joined : {X : Type 0} → List (List X) → List X
joined [] = []
joined (p ∷ ps) = p ++ joined ps

-- an entry of a leaf has one row, an entry of a branch the rows of a child; a leaf has no children
pub record Subtree (K V : Type 0) : Type 0 where
  pub is_branch : Bool
  pub height : ℕ
  pub parts : List (List (K × V))
  pub fills : List Fill

-- the rows in key order
abbrev pub rows : {K V : Type 0} → Subtree K V → List (K × V)
rows s = joined s.parts

-- the node as its parent sees it
abbrev pub fill_of : {K V : Type 0} → Subtree K V → Fill
fill_of s = record { entries = length s.parts; below = shape_of s.fills }

-- the child at i of a branch: it has the rows and the fill that are seen there, and entries, is one level lower, and its keys rise where those of all do
pub record IsChildAt {K V : Type 0} (s : Subtree K V) (i : ℕ) (child : Subtree K V) : Type 0 where
  pub entry : slice_index_or s.parts i [] ≡ rows child
  pub fill : slice_index_or s.fills i (fill_of child) ≡ fill_of child
  pub fills : length s.fills ≡ length s.parts
  pub level : s.height ≡ suc child.height
  pub some : 0 < length child.parts
  pub rising : (cmp : K → K → Ordering) → IsRising cmp (rows s) → IsRising cmp (rows child)
