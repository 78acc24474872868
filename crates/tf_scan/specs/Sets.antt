-- Unions and intersections of lists of timestamps.
use Rattle.std.specs.Prelude.{ℕ, Bool, false, ◌||◌, nat_eq, List, [], ◌∷◌, ◌++◌, filter}
use Rattle.tf_scan.specs.declared.direction.Direction.{Direction}
use Rattle.tf_scan.specs.Order.{those_before, those_behind}

-- whether the timestamp is one of these
abbrev pub is_among : ℕ → List ℕ → Bool
is_among t [] = false
is_among t (u ∷ us) = nat_eq t u || is_among t us

-- these and the timestamp t, which stands between those before it and those behind it
abbrev pub with_timestamp : Direction → ℕ → List ℕ → List ℕ
with_timestamp d t ts = those_before d t ts ++ t ∷ those_behind d t ts

-- the timestamps of both lists, each of the first put into the second
abbrev pub union_of : Direction → List ℕ → List ℕ → List ℕ
union_of d [] us = us
union_of d (t ∷ ts) us = with_timestamp d t (union_of d ts us)

-- the timestamps that are in both lists
abbrev pub intersection_of : List ℕ → List ℕ → List ℕ
intersection_of ts us = filter (λ t. is_among t us) ts
