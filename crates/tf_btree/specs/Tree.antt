-- What a tree's fields mean, and what holds of them.
use Rattle.std.specs.Prelude.{◌≡◌, ℕ, ◌^◌, ◌<◌, List, [], length, Option, Some, None, true}
use Rattle.std.specs.declared.boxed.Box.{Box}
use Rattle.std.specs.declared.cmp.Ordering.{Ordering}
use Rattle.tf_btree.specs.Shape.{IsFilled, half_full}
use Rattle.tf_btree.specs.Subtree.{Subtree, rows, fill_of}
use Rattle.tf_sorted.specs.Rows.{IsRising}

-- the rows under a root
abbrev pub rows_under : {K V A : Type 0} → Option (Box (Subtree K V) A) → List (K × V)
rows_under None = []
rows_under (Some b) = rows b.value

-- a root has entries, two at least where they are children, and each node below it is at least half full, but for those on the right edge
pub record IsRoot {K V : Type 0} (s : Subtree K V) : Type 0 where
  pub some : 0 < length s.parts
  pub two : s.is_branch ≡ true → 1 < length s.parts
  pub filled : IsFilled true (fill_of s)

-- and where there is a root, it is one
abbrev pub IsRootIfAny : {K V A : Type 0} → Option (Box (Subtree K V) A) → Type 0
IsRootIfAny None = Unit {0}
IsRootIfAny (Some b) = IsRoot b.value

-- there are rows, and where levels are below the root, more rows than half a full node's entries to the power of these levels
pub record IsTall {K V : Type 0} (s : Subtree K V) : Type 0 where
  pub some : 0 < length (rows s)
  pub least : 0 < s.height → half_full ^ s.height < length (rows s)

-- the keys rise, the count is right, and the nodes are those of a root
pub record IsTree {K V A : Type 0} (cmp : K → K → Ordering) (root : Option (Box (Subtree K V) A)) (len : ℕ) : Type 0 where
  pub rising : IsRising cmp (rows_under root)
  pub counted : len ≡ length (rows_under root)
  pub shape : IsRootIfAny root
