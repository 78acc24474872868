-- How many rows are below a node of some height.
use Rattle.tf_btree.proofs.Words.{◌≡◌, ℕ, zero, suc, ◌*◌, ◌^◌, ◌<◌, ◌≤◌, List, [], ◌∷◌, ◌++◌, length, map, Some, Bool, true, false, inl, inr, refl, sym, subst, arith, length-append, length-map, cases_lt, mul-suc, pow-suc, mul-le-mul_left, AllFilled, Subtree, joined, rows, fill_of, first_key}
use Rattle.tf_btree.proofs.Words.{capacity, half_full, IsCounted, AllChildren, height_over, subtree_of, IsNode, IsRoot, IsTall}
use Rattle.tf_btree.proofs.Entries.{length-parts}
use Rattle.tf_btree.proofs.Runs.{length-pairs}
use Rattle.tf_btree.proofs.Filled.{filled_before, filled_off}
use Rattle.tf_btree.proofs.InPlace.{some_first}

-- children that are filled, and any
least_rows : {K V : Type 0} (h : ℕ) (cs : List (Subtree K V)) → AllChildren h cs → AllFilled false (map fill_of cs) → half_full ^ h * length cs ≤ length (joined (map rows cs))
least_rows h [] a f = omega arith
least_rows h (c ∷ cs) a f =
    let own : half_full ^ h ≤ length (rows c) = subst (λ (n : ℕ). half_full ^ n ≤ length (rows c)) a.0.level (a.0.counted.least (filled_off (fill_of c) (map fill_of cs) f)) in
    omega (arith, mul-suc (half_full ^ h) (length cs), length-append (rows c) (joined (map rows cs)), least_rows h cs a.1 f.2)

most_rows : {K V : Type 0} (h : ℕ) (cs : List (Subtree K V)) → AllChildren h cs → length (joined (map rows cs)) ≤ capacity ^ h * length cs
most_rows h [] a = omega arith
most_rows h (c ∷ cs) a =
    let own : length (rows c) ≤ capacity ^ h = subst (λ (n : ℕ). length (rows c) ≤ capacity ^ n) a.0.level a.0.counted.most in
    omega (arith, mul-suc (capacity ^ h) (length cs), length-append (rows c) (joined (map rows cs)), most_rows h cs a.1)

-- so any node has as many as its height tells
node_counted : {K V : Type 0} (b : Bool) (ks : List K) (vs : List V) (cs : List (Subtree K V)) → IsNode b ks vs cs → length ks ≤ capacity → IsCounted (subtree_of b ks vs cs)
node_counted false ks vs cs n fits =
    let all = length-pairs ks vs n.kind.1 in
    let parts = length-parts false ks vs cs n in
    record { least = λ f. let half = f.half refl in omega arith; most = omega arith }
node_counted true ks vs cs n fits =
    let parts = length-parts true ks vs cs n in
    let many = length-map cs rows in
    let most = most_rows (height_over cs) cs n.kind.1 in
    let room = mul-le-mul_left (capacity ^ height_over cs) (let le : length cs ≤ capacity = omega arith in le) in
    record {
      least = λ f.
          let all = least_rows (height_over cs) cs n.kind.1 f.below in
          let half = f.half refl in
          let much = mul-le-mul_left (half_full ^ height_over cs) (let le : half_full ≤ length cs = omega arith in le) in
          omega (arith, pow-suc half_full (height_over cs));
      most = omega (arith, pow-suc capacity (height_over cs));
    }

pub is_counted : {K V : Type 0} (b : Bool) (ks : List K) (vs : List V) (cs : List (Subtree K V)) (s : Subtree K V) → IsNode b ks vs cs → length ks ≤ capacity → subtree_of b ks vs cs ≡ s → IsCounted s
is_counted {K} {V} b ks vs cs s n fits is = subst (λ (t : Subtree K V). IsCounted t) is (node_counted b ks vs cs n fits)

-- of a root's children the first is off the right edge, and the second has a row
root_rows : {K V : Type 0} (ks : List K) (cs : List (Subtree K V)) → AllChildren (height_over cs) cs → map Some ks ≡ map first_key (map rows cs) → 1 < length cs → AllFilled true (map fill_of cs) → half_full ^ height_over cs < length (joined (map rows cs))
root_rows ks [] a firsts two f = absurd (omega arith)
root_rows ks (c ∷ []) a firsts two f = absurd (omega arith)
root_rows [] (c ∷ d ∷ cs) a firsts two f = absurd (cc)
root_rows (k ∷ []) (c ∷ d ∷ cs) a firsts two f = absurd (cc)
root_rows (k ∷ l ∷ ks) (c ∷ d ∷ cs) a firsts two f =
    let first : Some l ≡ first_key (rows d) = cc in
    let some = some_first (rows d) l first in
    let own = a.0.counted.least (filled_before true (fill_of c) (fill_of d ∷ map fill_of cs) f (omega arith)) in
    omega (arith, length-append (rows c) (rows d ++ joined (map rows cs)), length-append (rows d) (joined (map rows cs)))

root_counted : {K V : Type 0} (b : Bool) (ks : List K) (vs : List V) (cs : List (Subtree K V)) → IsNode b ks vs cs → IsRoot (subtree_of b ks vs cs) → IsTall (subtree_of b ks vs cs)
root_counted false ks vs cs n r =
    let parts = length-parts false ks vs cs n in
    let all = length-pairs ks vs n.kind.1 in
    let some = r.some in
    record { some = omega arith; least = λ h. absurd (omega arith) }
root_counted true ks vs cs n r =
    let two = r.two refl in
    let all = root_rows ks cs n.kind.1 n.first_keys (omega (arith, length-map cs rows)) r.filled.below in
    record { some = omega arith; least = λ h. all }

pub is_tall : {K V : Type 0} (b : Bool) (ks : List K) (vs : List V) (cs : List (Subtree K V)) (s : Subtree K V) → IsNode b ks vs cs → subtree_of b ks vs cs ≡ s → IsRoot s → IsTall s
is_tall {K} {V} b ks vs cs s n is r = subst (λ (t : Subtree K V). IsTall t) is (root_counted b ks vs cs n (subst (λ (t : Subtree K V). IsRoot t) (sym is) r))

below_power : (h : ℕ) → h < half_full ^ h
below_power zero = omega arith
below_power (suc h) = omega (arith, pow-suc half_full h, below_power h)

pub height_below : {K V : Type 0} (s : Subtree K V) → IsTall s → s.height < length (rows s)
height_below s t = elim (cases_lt 0 s.height) [
  | inl lt ↦ omega (arith, below_power s.height, t.least lt)
  | inr le ↦ omega (arith, t.some)
]
