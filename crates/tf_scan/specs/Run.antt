-- Runs: rows that are taken out one after another, and timestamps that are written into a list.
use Rattle.std.specs.Prelude.{◌≡◌, ℕ, ◌+◌, ◌-◌, ◌≤◌, true, List, [], ◌∷◌, ◌++◌, Option, length, map, take, drop}
use Rattle.std.specs.List.{AllByRecursion, zip}
use Rattle.std.specs.declared.cmp.Ordering.TheVariants.{Less}
use Rattle.tf_table.specs.declared.key.Key.{Key}
use Rattle.tf_table.specs.Key.{key_cmp}
use Rattle.tf_table.specs.Content.{values_of}
use Rattle.tf_table.specs.Span.{timestamps}
use Rattle.tf_scan.specs.declared.direction.Direction.{Direction}
use Rattle.tf_scan.specs.declared.direction.Direction.TheVariants.{Rising, Falling}
use Rattle.tf_scan.specs.declared.place.Place.{Place}
use Rattle.tf_scan.specs.declared.place.Place.TheVariants.{Closed, Open, End}
use Rattle.tf_scan.specs.Place.{lists_left, is_past, IsPlace, IsTaken}
use Rattle.tf_scan.specs.Prefix.{prefix_of}

-- the next row was taken out of a searched table, which is this one and comes before the timestamp, if there is one
abbrev pub IsStep : {V A : Type 0} → Direction → Option ℕ → Key × Option V → Place V A → Place V A → Type 0
IsStep d until row (Closed table bound _) new = ⊥
IsStep {V} d until row (Open rows) new = (others : List (Key × Option V)) × (new ≡ Open others) × IsTaken d row rows others × (is_past d row.0.timestamp until ≡ true)
IsStep d until row End new = ⊥

-- these rows were taken out in turn
abbrev pub AreTaken : {V A : Type 0} → Direction → Option ℕ → List (Key × Option V) → Place V A → Place V A → Type 0
AreTaken d until [] old new = new ≡ old
AreTaken {V} {A} d until (row ∷ rows) old new = (mid : Place V A) × IsStep d until row old mid × AreTaken d until rows mid new

-- these stand in the new list from one place up to another, and else it is as it was
pub record AreWritten (ts : List ℕ) (from to : ℕ) (old new : List ℕ) : Type 0 where
  pub count : from + length ts ≡ to
  pub inside : to ≤ length old
  pub list : new ≡ take from old ++ (ts ++ drop to old)

-- these were taken in turn from the side that comes first, and each comes before the timestamp, if there is one
abbrev pub AreFirst : {X : Type 0} → (X → ℕ) → Direction → Option ℕ → List X → List X → List X → Type 0
AreFirst time d until [] old new = new ≡ old
AreFirst {X} time d until (x ∷ xs) old new = (mid : List X) × IsTaken d x old mid × (is_past d (time x) until ≡ true) × AreFirst time d until xs mid new

-- the key is below each of these
abbrev pub IsBelowAll : Key → List Key → Type 0
IsBelowAll key [] = Unit {0}
IsBelowAll key (other ∷ others) = (key_cmp key other ≡ Less) × IsBelowAll key others

-- each of the keys is below those behind it
abbrev pub AreRising : List Key → Type 0
AreRising [] = Unit {0}
AreRising (key ∷ keys) = IsBelowAll key keys × AreRising keys

-- the keys at both ends have one value and come before the timestamp, if there is one
pub record EndsArePast (d : Direction) (until : Option ℕ) (keys : List Key) : Type 0 where
  pub least : Key
  pub greatest : Key
  pub above : List Key
  pub below : List Key
  pub first : IsTaken Rising least keys above
  pub last : IsTaken Falling greatest keys below
  pub value : least.value ≡ greatest.value
  pub past_least : is_past d least.timestamp until ≡ true
  pub past_greatest : is_past d greatest.timestamp until ≡ true

-- without so many of these, from the side that comes first
abbrev pub without : {X : Type 0} → Direction → ℕ → List X → List X
without Rising n xs = drop n xs
without Falling n xs = take (length xs - n) xs

-- the first of these keys have their timestamps written
pub record WritesKeys (d : Direction) (until : Option ℕ) (from to : ℕ) (keys : List Key) (out_old out_new : List ℕ) : Type 0 where
  pub first : List Key
  pub others : List Key
  pub taken : AreFirst (λ (key : Key). key.timestamp) d until first keys others
  pub written : AreWritten (map (λ (key : Key). key.timestamp) first) from to out_old out_new

-- rows were taken in turn, and the timestamps of those with a value were written
pub record WritesRows {V : Type 0} (d : Direction) (until : Option ℕ) (from to : ℕ) (old new : List (Key × Option V)) (out_old out_new : List ℕ) : Type 0 where
  pub rows : List (Key × Option V)
  pub taken : AreFirst (λ (row : Key × Option V). row.0.timestamp) d until rows old new
  pub written : AreWritten (timestamps (values_of rows)) from to out_old out_new

-- rows with these keys and entries were passed over in turn, so many of them, and the timestamps of those with a value were written
pub record WritesEntries {V : Type 0} (d : Direction) (until : Option ℕ) (from to passed : ℕ) (keys : List Key) (entries : List (Option V)) (out_old out_new : List ℕ) : Type 0 where
  pub left : List (Key × Option V)
  pub writes : WritesRows d until from to (zip keys entries) left out_old out_new
  pub count : passed + length left ≡ length (zip keys entries)

-- rows were taken out of a place in turn, and the timestamps of those with a value were written
pub record WritesRun {V A : Type 0} (d : Direction) (until : Option ℕ) (from to : ℕ) (old new : Place V A) (out_old out_new : List ℕ) : Type 0 where
  pub rows : List (Key × Option V)
  pub taken : AreTaken d until rows old new
  pub written : AreWritten (timestamps (values_of rows)) from to out_old out_new

-- the first timestamps of a prefix were taken out and written
pub record WritesPrefix {V A : Type 0} (d : Direction) (value from to : ℕ) (old new : List (Place V A)) (out_old out_new : List ℕ) : Type 0 where
  pub ts : List ℕ
  pub right : AllByRecursion (IsPlace d value) new
  pub front : prefix_of d value (lists_left d value old) ≡ ts ++ prefix_of d value (lists_left d value new)
  pub written : AreWritten ts from to out_old out_new
