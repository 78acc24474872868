-- Timestamps in a direction: which comes before which, lists of them in order, and what is left of such a list.
use Rattle.std.specs.Prelude.{◌≡◌, ℕ, Bool, true, not, nat_lt, List, [], ◌∷◌, filter}
use Rattle.tf_scan.specs.declared.direction.Direction.{Direction}
use Rattle.tf_scan.specs.declared.direction.Direction.TheVariants.{Rising, Falling}

-- whether the first comes before the second: it is the lesser one where timestamps rise, and the greater one where they fall
abbrev pub is_before : Direction → ℕ → ℕ → Bool
is_before Rising t u = nat_lt t u
is_before Falling t u = nat_lt u t

-- the timestamp comes before each of these
abbrev pub AllBehind : Direction → ℕ → List ℕ → Type 0
AllBehind d t [] = Unit {0}
AllBehind d t (u ∷ us) = (is_before d t u ≡ true) × AllBehind d t us

-- each timestamp comes before all that stand behind it, so none comes twice
abbrev pub IsInOrder : Direction → List ℕ → Type 0
IsInOrder d [] = Unit {0}
IsInOrder d (t ∷ ts) = AllBehind d t ts × IsInOrder d ts

-- those that come before t
abbrev pub those_before : Direction → ℕ → List ℕ → List ℕ
those_before d t ts = filter (λ u. is_before d u t) ts

-- those that come behind t
abbrev pub those_behind : Direction → ℕ → List ℕ → List ℕ
those_behind d t ts = filter (λ u. is_before d t u) ts

-- those that don't come before t: what a seek of t leaves
abbrev pub those_from : Direction → ℕ → List ℕ → List ℕ
those_from d t ts = filter (λ u. not (is_before d u t)) ts
