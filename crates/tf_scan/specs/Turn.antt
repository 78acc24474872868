-- Whose turn it is among the places of a prefix.
use Rattle.std.specs.Prelude.{◌≡◌, ℕ, zero, suc, List, [], ◌∷◌, Option, None}
use Rattle.tf_scan.specs.declared.direction.Direction.{Direction}
use Rattle.tf_scan.specs.declared.place.Place.{Place}
use Rattle.tf_scan.specs.declared.turn.Turn.{Turn}
use Rattle.tf_scan.specs.Place.{nearest_in, nearest_of, nearer}

-- the nearest timestamp of the place with this number, None where there is no such place
abbrev pub nearest_at : {V A : Type 0} → Direction → ℕ → List (Place V A) → Option ℕ
nearest_at d i [] = None
nearest_at d zero (p ∷ ps) = nearest_in d p
nearest_at d (suc i) (p ∷ ps) = nearest_at d i ps

-- the nearest timestamp of all other places
abbrev pub nearest_but : {V A : Type 0} → Direction → ℕ → List (Place V A) → Option ℕ
nearest_but d i [] = None
nearest_but d zero (p ∷ ps) = nearest_of d ps
nearest_but d (suc i) (p ∷ ps) = nearer d (nearest_in d p) (nearest_but d i ps)

-- the turn lasts up to the nearest timestamp of the other places
abbrev pub IsTurn : {V A : Type 0} → Direction → Turn → List (Place V A) → Type 0
IsTurn d turn places = turn.until ≡ nearest_but d turn.place places
