-- In which part of time tables have nothing.
use Rattle.std.specs.Prelude.{◌≡◌, ℕ, ◌-◌, ◌<◌, ◌≤◌, List, Option, Some, None, ⊤, ◌&&◌, false, not, nat_lt, length, slice_get, take}
use Rattle.std.specs.Option.{option_and_then}
use Rattle.tf_table.specs.declared.key.Key.{Key}
use Rattle.tf_table.specs.declared.span.Span.{Span}
use Rattle.tf_table.specs.Content.{entry_at, entry_of}
use Rattle.tf_manifest.specs.Rows.{key_of}
use Rattle.tf_look_ups.specs.declared.finder.Part.{Part}

-- a timestamp lies in a part of time
abbrev pub IsInPart : Part → ℕ → Type 0
IsInPart part t = (part.first ≤ t) × (t ≤ part.last)

-- it lies outside a span, if there is one
abbrev pub IsOutside : Option Span → ℕ → Type 0
IsOutside None t = ⊤
IsOutside (Some span) t = (not (nat_lt t span.earliest) && not (nat_lt span.latest t)) ≡ false

-- the lists have no row in a part of time
abbrev pub AreSilent : {V : Type 0} → Part → List (List (Key × Option V)) → Type 0
AreSilent part lists = (key : Key) → IsInPart part key.timestamp → entry_of key lists ≡ None

-- the list at a place has these entries, at one timestamp after another from this one on
abbrev pub IsDatedAt : {V : Type 0} → ℕ → ℕ → List (Option V) → List (List (Key × Option V)) → Type 0
IsDatedAt place from entries lists = (t : ℕ) → from ≤ t → t - from < length entries → option_and_then (λ rows. entry_at (key_of 0 t) rows) (slice_get lists place) ≡ slice_get entries (t - from)

-- the first list that has a key stands at the place, those before it have nothing in the part of time, and this is its entry
pub record IsNewest {V : Type 0} (key : Key) (lists : List (List (Key × Option V))) (place : ℕ) (part : Part) (entry : Option V) : Type 0 where
  pub found : entry_of key lists ≡ Some entry
  pub silent : AreSilent part (take place lists)
