-- Two neighbours below a branch, joined or evened out: how many entries are where, and how high they stand.
use Rattle.tf_btree.proofs.Words.{◌≡◌, ℕ, suc, ◌+◌, ◌<◌, ◌≤◌, List, ◌++◌, length, Bool, true, false, refl, arith, insert, length-insert, length-append, capacity, half_full, AllFilled, IsFilled, Subtree, fill_of}

-- nodes of one height are of one kind
pub same_kinds : (a b : Bool) (m n : ℕ) → m ≡ n → (a ≡ false → m ≡ 0) → (a ≡ true → 0 < m) → (b ≡ false → n ≡ 0) → (b ≡ true → 0 < n) → b ≡ a
same_kinds true true m n e f g h i = refl
same_kinds false false m n e f g h i = refl
same_kinds true false m n e f g h i = absurd (let x = g refl in let y = h refl in omega arith)
same_kinds false true m n e f g h i = absurd (let x = f refl in let y = i refl in omega arith)

pub same_levels : (h m n : ℕ) → h ≡ suc m → h ≡ suc n → m ≡ n
same_levels h m n e f = omega arith

pub appended_some : {X : Type 0} (ps qs rs : List X) → rs ≡ ps ++ qs → 0 < length ps → 0 < length rs
appended_some ps qs rs e some = rw e (omega (arith, length-append ps qs))

-- what is left of the branch without the two has room for both
module _ {X : Type 0} (ps : List X) (n i : ℕ) (fewer : length ps + 2 ≡ n) (within : i + 1 < n) where
  pub rest_bounds : i ≤ length ps
  rest_bounds = omega arith

  pub rest_room : n ≤ capacity → length ps < capacity
  rest_room fits = omega arith

  module _ (qs : List X) (x : X) (one : qs ≡ insert ps i x) where
    pub one_bounds : i ≤ length qs
    one_bounds = rw one (omega (arith, length-insert ps i x (omega arith)))

    pub one_room : n ≤ capacity → length qs < capacity
    one_room fits = rw one (omega (arith, length-insert ps i x (omega arith)))

    pub one_fewer : n ≤ length qs + 1
    one_fewer = rw one (omega (arith, length-insert ps i x (omega arith)))

    pub two_fewer : (rs : List X) (y : X) → rs ≡ insert qs i y → n ≤ length rs + 1
    two_fewer rs y two = rw two (let long = one_fewer in omega (arith, length-insert qs i y one_bounds))

-- neighbours of which one is fuller, or neither
pub fuller : (m n p q : ℕ) → m ≡ p → n ≡ q → m < n → 0 < p → 1 < q
fuller m n p q e f lt some = omega arith

pub fuller_room : (m n p : ℕ) → m ≡ p → m < n → n ≤ capacity → p < capacity
fuller_room m n p e lt fits = omega arith

pub fuller_half : (m n p q r : ℕ) → m ≡ p → n ≡ q → m < n → capacity < p + q → r + 1 ≡ q → half_full ≤ r
fuller_half m n p q r e f lt many fewer = omega arith

pub fuller_half_first : (m n p q r : ℕ) → m ≡ p → n ≡ q → n < m → capacity < p + q → r + 1 ≡ p → half_full ≤ r
fuller_half_first m n p q r e f lt many fewer = omega arith

pub even_halves : (m n p q : ℕ) → m ≡ p → n ≡ q → n ≤ m → m ≤ n → capacity < p + q → (half_full ≤ p) × (half_full ≤ q)
even_halves m n p q e f le ge many = (omega arith, omega arith)

pub more_half : (p r : ℕ) → half_full ≤ suc p → r ≡ p + 1 → half_full ≤ r
more_half p r h e = omega arith

pub both_filled : {K V : Type 0} (edge : Bool) (s t : Subtree K V) → AllFilled false s.fills × AllFilled edge t.fills → half_full ≤ length s.parts → (edge ≡ false → half_full ≤ length t.parts) → IsFilled false (fill_of s) × IsFilled edge (fill_of t)
both_filled edge s t all h i = (record { half = λ _. h; below = all.0 }, record { half = i; below = all.1 })
