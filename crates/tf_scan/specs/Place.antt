-- What is left of each table in a prefix, and what holds of it.
use Rattle.std.specs.Prelude.{◌≡◌, ℕ, suc, ◌-◌, ◌^◌, ◌<◌, ◌≤◌, Bool, true, false, not, ◌&&◌, if◌then◌else◌, nat_eq, nat_lt, List, [], ◌∷◌, ◌++◌, length, map, slice_get, Option, Some, None}
use Rattle.std.specs.List.{AllByRecursion}
use Rattle.tf_sorted.specs.Rows.{IsRising, rows_from, rows_upto}
use Rattle.tf_table.specs.declared.key.Key.{Key}
use Rattle.tf_table.specs.declared.span.Span.{Span}
use Rattle.tf_table.specs.Key.{key_cmp}
use Rattle.tf_table.specs.Content.{entry_at}
use Rattle.tf_table.specs.Span.{timestamps}
use Rattle.tf_manifest.specs.Rows.{key_of}
use Rattle.tf_scan.specs.declared.direction.Direction.{Direction}
use Rattle.tf_scan.specs.declared.direction.Direction.TheVariants.{Rising, Falling}
use Rattle.tf_scan.specs.declared.place.Place.{Place}
use Rattle.tf_scan.specs.declared.place.Place.TheVariants.{Closed, Open, End}
use Rattle.tf_scan.specs.Order.{is_before}

-- the rows of the value with timestamps in the span
abbrev pub rows_within : {V : Type 0} → ℕ → Span → List (Key × Option V) → List (Key × Option V)
rows_within value span rows = rows_upto key_cmp (key_of value span.latest) (rows_from key_cmp (key_of value span.earliest) rows)

-- the timestamps that don't come before t
abbrev pub span_from : Direction → ℕ → Span
span_from Rising t = record { earliest = t; latest = 2 ^ 64 - 1 }
span_from Falling t = record { earliest = 0; latest = t }

-- the rows that are still to come
abbrev pub rows_left : {V A : Type 0} → Direction → ℕ → Place V A → List (Key × Option V)
rows_left d value (Closed table bound _) = rows_within value (span_from d bound) table.now
rows_left d value (Open rows) = rows
rows_left d value End = []

-- those of each place
abbrev pub lists_left : {V A : Type 0} → Direction → ℕ → List (Place V A) → List (List (Key × Option V))
lists_left d value places = map (rows_left d value) places

-- the timestamp of a span that comes first
abbrev pub first_of : Direction → Span → ℕ
first_of Rising span = span.earliest
first_of Falling span = span.latest

-- the last of some timestamps
abbrev pub last_in : List ℕ → Option ℕ
last_in [] = None
last_in (t ∷ []) = Some t
last_in (t ∷ u ∷ ts) = last_in (u ∷ ts)

-- the one of rising timestamps that comes first
abbrev pub first_in : Direction → List ℕ → Option ℕ
first_in Rising ts = slice_get ts 0
first_in Falling ts = last_in ts

-- a timestamp before which no row comes, None at the end
abbrev pub nearest_in : {V A : Type 0} → Direction → Place V A → Option ℕ
nearest_in d (Closed table bound _) = Some bound
nearest_in d (Open rows) = first_in d (timestamps rows)
nearest_in d End = None

-- of two timestamps the one that comes first
abbrev pub nearer : Direction → Option ℕ → Option ℕ → Option ℕ
nearer d None u = u
nearer d (Some t) None = Some t
nearer d (Some t) (Some u) = if is_before d u t then Some u else Some t

-- the nearest timestamp of all places
abbrev pub nearest_of : {V A : Type 0} → Direction → List (Place V A) → Option ℕ
nearest_of d [] = None
nearest_of d (p ∷ ps) = nearer d (nearest_in d p) (nearest_of d ps)

-- the timestamp, if there is one, doesn't come before t
abbrev pub IsFrom : Direction → ℕ → Option ℕ → Type 0
IsFrom d t None = Unit {0}
IsFrom d t (Some n) = is_before d n t ≡ false

-- whether the timestamp comes before the nearest one
abbrev pub is_past : Direction → ℕ → Option ℕ → Bool
is_past d u None = true
is_past d u (Some n) = is_before d u n

-- whether the timestamp lies in the span
abbrev pub is_within : Span → ℕ → Bool
is_within span t = not (nat_lt t span.earliest) && not (nat_lt span.latest t)

-- rows of the value, in key order
pub record IsAt {E : Type 0} (value : ℕ) (rows : List (Key × E)) : Type 0 where
  pub rising : IsRising key_cmp rows
  pub values : AllByRecursion (λ (r : Key × E). r.0.value ≡ value) rows

-- what always holds of a place
abbrev pub IsPlace : {V A : Type 0} → Direction → ℕ → Place V A → Type 0
IsPlace d value (Closed table bound _) = IsRising key_cmp table.now
IsPlace d value (Open rows) = IsAt value rows
IsPlace d value End = Unit {0}

-- the row, or the key, was taken from the side of these that comes first
abbrev pub IsTaken : {X : Type 0} → Direction → X → List X → List X → Type 0
IsTaken Rising row old new = old ≡ row ∷ new
IsTaken Falling row old new = old ≡ new ++ row ∷ []

-- the rows whose keys don't come before the key
abbrev pub rows_behind : {E : Type 0} → Direction → Key → List (Key × E) → List (Key × E)
rows_behind Rising key rows = rows_from key_cmp key rows
rows_behind Falling key rows = rows_upto key_cmp key rows

-- at the timestamps of the value that pass the test there are the old entries, and at the others none
abbrev pub Keeps : {V : Type 0} → ℕ → (ℕ → Bool) → List (Key × Option V) → List (Key × Option V) → Type 0
Keeps value stays old new = (t : ℕ) → entry_at (key_of value t) new ≡ (if stays t then entry_at (key_of value t) old else None)

-- how many steps are left at most
abbrev pub steps_left : {V A : Type 0} → Direction → ℕ → Place V A → ℕ
steps_left d value (Closed table bound _) = suc (length (rows_within value (span_from d bound) table.now))
steps_left d value (Open rows) = length rows
steps_left d value End = 0

-- the same once the table was searched
abbrev pub opened : {V A : Type 0} → Direction → ℕ → Place V A → Place V A
opened d value (Closed table bound _) = Open (rows_within value (span_from d bound) table.now)
opened d value (Open rows) = Open rows
opened d value End = End

-- the row at the timestamp was taken out, if it was there
pub record Takes {V A : Type 0} (d : Direction) (value t : ℕ) (old new : Place V A) : Type 0 where
  pub right : IsPlace d value new
  pub others : Keeps value (λ u. not (nat_eq u t)) (rows_left d value old) (rows_left d value new)
  pub steps : steps_left d value new ≤ steps_left d value old
  pub fewer : nearest_in d old ≡ Some t → steps_left d value new < steps_left d value old

-- the rows before the timestamp were taken out
pub record Seeks {V A : Type 0} (d : Direction) (value t : ℕ) (old new : Place V A) : Type 0 where
  pub right : IsPlace d value new
  pub others : Keeps value (λ u. not (is_before d u t)) (rows_left d value old) (rows_left d value new)
