-- A full node that is split for one more entry: how many entries are where.
use Rattle.tf_btree.proofs.Words.{◌≡◌, ℕ, ◌-◌, ◌<◌, ◌≤◌, List, [], length, take, drop, Bool, false, ◌∙◌, ap, arith, insert, length-insert, length-take, length-drop, take_all, drop_all, capacity, half_full, Fill, IsFilled, Subtree, fill_of}
use Rattle.tf_btree.proofs.Filled.{filled_branch}

taken_none : (n : ℕ) (fs : List Fill) → fs ≡ [] → take n fs ≡ []
taken_none n fs e = rw e (take_all n [] (omega arith))

dropped_none : (n : ℕ) (fs : List Fill) → fs ≡ [] → drop n fs ≡ []
dropped_none n fs e = rw e (drop_all n [] (omega arith))

-- a leaf is filled where it has enough rows
leaf_filled : {K V : Type 0} (edge : Bool) (s : Subtree K V) → s.fills ≡ [] → (edge ≡ false → half_full ≤ length s.parts) → IsFilled edge (fill_of s)
leaf_filled edge s none half = filled_branch edge s [] none tt half

pub half_some : (n : ℕ) → half_full ≤ n → 0 < n
half_some n h = omega arith

pub front_only : (i : ℕ) (X : Type 0) → i ≤ half_full → i ≡ capacity → X
front_only i X h e = absurd (omega arith)

-- the first n entries of a full list, and the others
module _ {X : Type 0} (ps : List X) (n i : ℕ) (full : length ps ≡ capacity) where
  pub front_bounds : (qs : List X) → qs ≡ take n ps → n ≡ half_full → i ≤ half_full → i ≤ length qs
  front_bounds qs e half le = omega (arith, ap length e, length-take n ps)

  pub front_room : (qs : List X) → qs ≡ take n ps → n ≡ half_full → length qs < capacity
  front_room qs e half = omega (arith, ap length e, length-take n ps)

  pub back_bounds : (qs : List X) → qs ≡ drop n ps → n ≤ i → i ≤ capacity → i - n ≤ length qs
  back_bounds qs e le end = omega (arith, ap length e, length-drop n ps)

  pub back_room : (qs : List X) → qs ≡ drop n ps → half_full ≤ n → length qs < capacity
  back_room qs e half = omega (arith, ap length e, length-drop n ps)

  pub all_kept : (qs : List X) → qs ≡ take n ps → n ≡ capacity → qs ≡ ps
  all_kept qs e all = e ∙ take_all n ps (omega arith)

-- both parts of a leaf are filled
module _ {K V : Type 0} (old left right : Subtree K V) (n i : ℕ) (full : length old.parts ≡ capacity) (none : old.fills ≡ []) where
  pub left_more : (x : List (K × V)) → left.parts ≡ insert (take n old.parts) i x → left.fills ≡ take n old.fills → n ≡ half_full → i ≤ half_full → IsFilled false (fill_of left)
  left_more x e f half le = leaf_filled false left (f ∙ taken_none n old.fills none)
      (λ off. let short = length-take n old.parts in omega (arith, ap length e, length-insert (take n old.parts) i x (omega arith)))

  pub right_rest : (edge : Bool) → right.parts ≡ drop n old.parts → right.fills ≡ drop n old.fills → n ≡ half_full → IsFilled edge (fill_of right)
  right_rest edge e f half = leaf_filled edge right (f ∙ dropped_none n old.fills none) (λ off. omega (arith, ap length e, length-drop n old.parts))

  pub left_rest : left.parts ≡ take n old.parts → left.fills ≡ take n old.fills → half_full ≤ n → IsFilled false (fill_of left)
  left_rest e f half = leaf_filled false left (f ∙ taken_none n old.fills none) (λ off. omega (arith, ap length e, length-take n old.parts))

  pub right_more : (edge : Bool) (x : List (K × V)) → right.parts ≡ insert (drop n old.parts) (i - n) x → right.fills ≡ drop n old.fills → n ≤ i → i ≤ capacity → (edge ≡ false → n ≡ half_full) → IsFilled edge (fill_of right)
  right_more edge x e f le end half = leaf_filled edge right (f ∙ dropped_none n old.fills none)
      (λ off. let short = length-drop n old.parts in let at = half off in omega (arith, ap length e, length-insert (drop n old.parts) (i - n) x (omega arith)))

pub some_behind : {X : Type 0} (ps qs : List X) (n : ℕ) → qs ≡ drop n ps → 0 < length qs → n < length ps
some_behind ps qs n e some = omega (arith, ap length e, length-drop n ps)
