-- What the runs of one node mean, and what holds of them.
use Rattle.std.specs.Prelude.{◌≡◌, ℕ, suc, ◌≤◌, ◌^◌, List, [], ◌∷◌, length, map, max, Option, Some, None, Bool, true, false}
use Rattle.std.specs.declared.boxed.Box.{Box}
use Rattle.std.proofs.Common.{arith}
use Rattle.tf_sorted.specs.Rows.{first_key}
use Rattle.tf_btree.specs.Shape.{IsFilled, capacity, half_full}
use Rattle.tf_btree.specs.Subtree.{Subtree, rows, fill_of}
use denote.Param.Weighed.{most}

-- what a box holds
abbrev pub unbox : {X Z : Type 0} → Box X Z → X
unbox b = b.value

-- what the boxes hold
abbrev pub unboxed : {X Z : Type 0} → List (Box X Z) → List X
unboxed bs = map unbox bs

-- a node of this kind without entries
abbrev pub empty_node : {K V : Type 0} → Bool → Subtree K V
empty_node false = record { is_branch = false; height = 0; parts = []; fills = [] }
empty_node true = record { is_branch = true; height = 1; parts = []; fills = [] }

-- each key with its value, as a list of its own
abbrev pub single_rows : {K V : Type 0} → List K → List V → List (List (K × V))
single_rows [] vs = []
single_rows (k ∷ ks) [] = []
single_rows (k ∷ ks) (v ∷ vs) = ((k, v) ∷ []) ∷ single_rows ks vs

-- the rows below each entry
abbrev pub parts_of : {K V : Type 0} → Bool → List K → List V → List (Subtree K V) → List (List (K × V))
parts_of false ks vs cs = single_rows ks vs
parts_of true ks vs cs = map rows cs

-- the height of a branch over these children
abbrev pub height_over : {K V : Type 0} → List (Subtree K V) → ℕ
height_over [] = 1
height_over (c ∷ cs) = suc c.height

-- a leaf has height 0
abbrev pub height_of : {K V : Type 0} → Bool → List (Subtree K V) → ℕ
height_of false cs = 0
height_of true cs = height_over cs

abbrev pub subtree_of : {K V : Type 0} → Bool → List K → List V → List (Subtree K V) → Subtree K V
subtree_of b ks vs cs = record { is_branch = b; height = height_of b cs; parts = parts_of b ks vs cs; fills = map fill_of cs }

-- the node has no more rows than full nodes would hold, and where it and those below it are half full, as many as half full ones do
pub record IsCounted {K V : Type 0} (s : Subtree K V) : Type 0 where
  pub least : IsFilled false (fill_of s) → half_full ^ suc s.height ≤ length (rows s)
  pub most : length (rows s) ≤ capacity ^ suc s.height

-- the node may stand below a branch of this height
pub record IsChild {K V : Type 0} (h : ℕ) (c : Subtree K V) : Type 0 where
  pub level : suc c.height ≡ h
  pub counted : IsCounted c

-- each of these may
abbrev pub AllChildren : {K V : Type 0} → ℕ → List (Subtree K V) → Type 0
AllChildren h [] = Unit {0}
AllChildren h (c ∷ cs) = IsChild h c × AllChildren h cs

-- a leaf has as many values as keys; the children of a branch are equally high, and have the rows that their nodes must hold
abbrev pub IsOfKind : {K V : Type 0} → Bool → List K → List V → List (Subtree K V) → Type 0
IsOfKind false ks vs cs = (cs ≡ []) × (length ks ≡ length vs)
IsOfKind true ks vs cs = (vs ≡ []) × AllChildren (height_over cs) cs

-- the keys are the first ones below each entry, so none is empty
pub record IsNode {K V : Type 0} (b : Bool) (ks : List K) (vs : List V) (cs : List (Subtree K V)) : Type 0 where
  pub kind : IsOfKind b ks vs cs
  pub first_keys : map Some ks ≡ map first_key (parts_of b ks vs cs)

-- there is room for this many entries, whatever the kind, and no more are there
pub record HasRoom (most_entries : ℕ) (b : Bool) (entries keys_room values_room children_room : ℕ) : Type 0 where
  pub entries_fit : entries ≤ most_entries
  pub keys_fit : most_entries ≤ keys_room
  pub values_fit : b ≡ false → most_entries ≤ values_room
  pub children_fit : b ≡ true → most_entries ≤ children_room

most_le : {K V A : Type 0} (μ : Box (Subtree K V) A → ℕ) → ((b : Box (Subtree K V) A) → μ b ≤ suc b.value.height) → (h : ℕ) (bs : List (Box (Subtree K V) A)) → AllChildren h (unboxed bs) → most μ bs ≤ h
most_le μ by h [] a = omega arith
most_le μ by h (b ∷ bs) a = let e = most_le μ by h bs a.1 in let f = a.0.level in omega (arith, by b)

pub most_le-height : {K V A : Type 0} (μ : Box (Subtree K V) A → ℕ) → ((b : Box (Subtree K V) A) → μ b ≤ suc b.value.height) → (k : Bool) (ks : List K) (vs : List V) (bs : List (Box (Subtree K V) A)) → IsOfKind k ks vs (unboxed bs) → max (most μ bs) 0 ≤ height_of k (unboxed bs)
most_le-height μ by k ks vs [] h = omega arith
most_le-height μ by true ks vs (b ∷ bs) h = let e = most_le μ by (suc b.value.height) bs h.1.1 in omega (arith, by b)
most_le-height μ by false ks vs (b ∷ bs) h = absurd (cc)
