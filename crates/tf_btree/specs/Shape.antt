-- The shape of the nodes below a node, and when they are filled: at least half full, but for those on the right edge.
use Rattle.std.specs.Prelude.{◌≡◌, ℕ, suc, ◌≤◌, List, [], ◌∷◌, drop, slice_index_or, slice_set, Bool, false}

-- the most entries of a node, and the least of one that isn't on the right edge
abbrev pub capacity : ℕ
capacity = 32

abbrev pub half_full : ℕ
half_full = 16

-- the children of a node: of the first one its entries and the nodes below it, and then the others
pub data Shape : Type 0 where
  childless : Shape
  child : ℕ → Shape → Shape → Shape

-- a node as its parent sees it: how many entries it has, and the nodes below it
pub record Fill : Type 0 where
  pub entries : ℕ
  pub below : Shape

-- the shape of these children
abbrev pub shape_of : List Fill → Shape
shape_of [] = childless
shape_of (f ∷ fs) = child f.entries f.below (shape_of fs)

-- a child is on the right edge if its parent is and there are no others behind it
abbrev pub edge_before : Shape → Bool → Bool
edge_before childless edge = edge
edge_before (child n below others) edge = false

-- each node is at least half full, but for those on the right edge; `edge` says that the parent is there
abbrev pub AreFilled : Shape → Bool → Type 0
AreFilled childless edge = Unit {0}
AreFilled (child n below others) edge = (edge_before others edge ≡ false → half_full ≤ n) × AreFilled below (edge_before others edge) × AreFilled others edge

-- the children are filled
abbrev pub AllFilled : Bool → List Fill → Type 0
AllFilled edge fs = AreFilled (shape_of fs) edge

-- whether the child at i is on the right edge
abbrev pub edge_at : Bool → List Fill → ℕ → Bool
edge_at edge fs i = edge_before (shape_of (drop (suc i) fs)) edge

-- a node is at least half full, unless it is on the right edge, and the nodes below it are filled
pub record IsFilled (edge : Bool) (f : Fill) : Type 0 where
  pub half : edge ≡ false → half_full ≤ f.entries
  pub below : AreFilled f.below edge

-- the node with one more entry
abbrev pub one_more : Fill → Fill
one_more f = record { entries = suc f.entries; below = f.below }

-- a node without entries
abbrev pub no_entries : Fill
no_entries = record { entries = 0; below = childless }

-- the children, with one more entry in the one at i
abbrev pub one_more_at : ℕ → List Fill → List Fill
one_more_at i fs = slice_set fs i (one_more (slice_index_or fs i no_entries))
