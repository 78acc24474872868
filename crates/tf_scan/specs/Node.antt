-- What the fields of a part of a scan mean, and what holds of them.
use Rattle.std.specs.Prelude.{◌≡◌, ℕ, suc, max, true, false, List, [], ◌∷◌, ◌++◌, Option, Some, None}
use Rattle.tf_scan.specs.declared.direction.Direction.{Direction}
use Rattle.tf_scan.specs.declared.head.Head.{Head}
use Rattle.tf_scan.specs.declared.head.Head.TheVariants.{Unread, At, End}
use Rattle.tf_scan.specs.declared.node.Kind.{Kind}
use Rattle.tf_scan.specs.declared.node.Kind.TheVariants.{Leaf, Join}
use Rattle.tf_scan.specs.declared.operation.Operation.{Operation}
use Rattle.tf_scan.specs.declared.operation.Operation.TheVariants.{Union, Intersection}
use Rattle.tf_scan.specs.Order.{AllBehind, IsInOrder}
use Rattle.tf_scan.specs.Sets.{union_of, intersection_of}
use Rattle.tf_scan.specs.Part.{Part}
use Rattle.tf_scan.specs.Place.{is_past}
use Rattle.tf_scan.specs.Run.{AreWritten}

-- what an operation makes of two lists
abbrev pub join_of : Operation → Direction → List ℕ → List ℕ → List ℕ
join_of Union d ts us = union_of d ts us
join_of Intersection d ts us = intersection_of ts us

-- what is left behind the head; `left` tells it of a leaf
abbrev pub left_behind : {P A : Type 0} → (P → List ℕ) → Direction → Kind P A → List ℕ
left_behind left d (Leaf p) = left p.value
left_behind left d (Join o a b) = join_of o d a.value.left b.value.left

-- what is left with the head in front of it: where a part was found at its end, nothing is
abbrev pub with_head : Head → List ℕ → List ℕ
with_head Unread ts = ts
with_head (At t) ts = t ∷ ts
with_head End ts = []

-- a leaf has height 0
abbrev pub height_of : {P A : Type 0} → Kind P A → ℕ
height_of (Leaf p) = 0
height_of (Join o a b) = suc (max a.value.height b.value.height)

-- a part of this direction, in order
pub record IsPartOf (d : Direction) (part : Part) : Type 0 where
  pub direction : part.direction ≡ d
  pub in_order : IsInOrder d part.left

-- the part is in order, and has its old direction and height
pub record KeepsPart (old new : Part) : Type 0 where
  pub direction : new.direction ≡ old.direction
  pub height : new.height ≡ old.height
  pub in_order : IsInOrder old.direction new.left

-- a leaf has the direction of its part, and what a join is made of has it too
abbrev pub IsKind : {P A : Type 0} → (P → Direction) → (P → List ℕ) → Direction → Kind P A → Type 0
IsKind direction left d (Leaf p) = (direction p.value ≡ d) × IsInOrder d (left p.value)
IsKind direction left d (Join o a b) = IsPartOf d a.value × IsPartOf d b.value

-- the head comes before all that is left behind it
abbrev pub IsHead : Direction → Head → List ℕ → Type 0
IsHead d Unread ts = Unit {0}
IsHead d (At t) ts = AllBehind d t ts
IsHead d End ts = Unit {0}

-- what holds of the fields of a part
pub record IsNode {P A : Type 0} (direction : P → Direction) (left : P → List ℕ) (d : Direction) (head : Head) (kind : Kind P A) : Type 0 where
  pub below : IsKind direction left d kind
  pub first : IsHead d head (left_behind left d kind)

-- each of these comes before the timestamp, if there is one
abbrev pub ArePast : Direction → Option ℕ → List ℕ → Type 0
ArePast d until [] = Unit {0}
ArePast d until (t ∷ ts) = (is_past d t until ≡ true) × ArePast d until ts

-- the first timestamp, if there is one, doesn't come before the other
abbrev pub IsNotPast : Direction → Option ℕ → Option ℕ → Type 0
IsNotPast d until None = Unit {0}
IsNotPast d until (Some t) = is_past d t until ≡ false

-- the first timestamps of a part, which come before another, if there is one, were taken out and written
pub record WritesPart (until : Option ℕ) (from to : ℕ) (old new : Part) (out_old out_new : List ℕ) : Type 0 where
  pub ts : List ℕ
  pub past : ArePast old.direction until ts
  pub front : old.left ≡ ts ++ new.left
  pub kept : KeepsPart old new
  pub written : AreWritten ts from to out_old out_new

-- the first timestamps of a union were taken out of its parts and written
pub record WritesUnion (d : Direction) (from to : ℕ) (left right left_new right_new : Part) (out_old out_new : List ℕ) : Type 0 where
  pub ts : List ℕ
  pub front : union_of d left.left right.left ≡ ts ++ union_of d left_new.left right_new.left
  pub left_kept : KeepsPart left left_new
  pub right_kept : KeepsPart right right_new
  pub written : AreWritten ts from to out_old out_new
