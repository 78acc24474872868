-- What an edit of a node leaves.
use Rattle.std.specs.Prelude.{◌≡◌, ◌<◌, ◌≤◌, List, [], ◌∷◌, ◌++◌, length, Option, Some, None, IsSome, IfSome, IfNone, Result, IfOk, OnOk, OnErr, Bool, false}
use Rattle.std.specs.declared.cmp.Ordering.{Ordering}
use Rattle.std.specs.declared.boxed.Box.{Box}
use Rattle.tf_btree.specs.Shape.{Fill, IsFilled, capacity}
use Rattle.tf_btree.specs.Subtree.{Subtree, rows, fill_of}
use Rattle.tf_sorted.specs.Rows.{value_at, with_row}

-- the node is of its old kind and height, and has entries
pub record KeepsLevel {K V : Type 0} (old new : Subtree K V) : Type 0 where
  pub kind : new.is_branch ≡ old.is_branch
  pub height : new.height ≡ old.height
  pub some : 0 < length new.parts

-- the node stands beside another: as high, and with entries
pub record IsBeside {K V : Type 0} (old new : Subtree K V) : Type 0 where
  pub height : new.height ≡ old.height
  pub some : 0 < length new.parts

-- what an insert of (k, v) gives, and the rows that it makes of the old ones
pub record IsInsert {K V E : Type 0} (cmp : K → K → Ordering) (k : K) (v : V) (old_rows : List (K × V)) (result : Result (Option V) E) (new_rows : List (K × V)) : Type 0 where
  pub all : OnOk result (new_rows ≡ with_row cmp k v old_rows)
  pub value : IfOk result (λ old. old ≡ value_at cmp k old_rows)
  pub absent : OnErr result (value_at cmp k old_rows ≡ None)

-- the node and what was split off it, if it was, which is only where it was full; else it has no entry less
pub record IsParted {K V A : Type 0} (old new : Subtree K V) (right : Option (Box (Subtree K V) A)) : Type 0 where
  pub level : KeepsLevel old new
  pub behind : IfSome right (λ b. IsBeside old b.value)
  pub full : IsSome right → capacity ≤ length old.parts
  pub entries : IfNone right (length old.parts ≤ length new.parts)

-- these rows are in the node and in one behind it of the same height
pub record IsSplitOf {K V : Type 0} (old new right : Subtree K V) (all_rows : List (K × V)) : Type 0 where
  pub level : KeepsLevel old new
  pub beside : IsBeside old right
  pub all : rows new ++ rows right ≡ all_rows

-- the rows of the node that was split off, if one was
abbrev pub rows_behind : {K V A : Type 0} → Option (Box (Subtree K V) A) → List (K × V)
rows_behind None = []
rows_behind (Some b) = rows b.value

-- the node that was split off, if one was, as its parent sees it
abbrev pub fills_behind : {K V A : Type 0} → Option (Box (Subtree K V) A) → List Fill
fills_behind None = []
fills_behind (Some b) = fill_of b.value ∷ []

-- the node is filled; where one was split off, that one may be on the right edge instead of it
abbrev pub IsFilledWith : {K V A : Type 0} → Bool → Subtree K V → Option (Box (Subtree K V) A) → Type 0
IsFilledWith edge new None = IsFilled edge (fill_of new)
IsFilledWith edge new (Some b) = IsFilled false (fill_of new) × IsFilled edge (fill_of b.value)
