-- What lists of rows say of a key, newest first. A row is a key with a value, or with None, a tombstone.
use Rattle.std.specs.Prelude.{◌≡◌, ℕ, ◌-◌, ◌<◌, ◌≤◌, List, [], ◌∷◌, Option, Some, None, Bool, true, false, length, slice_get}
use Rattle.std.specs.List.{All}
use Rattle.std.specs.declared.cmp.Ordering.{Ordering}
use Rattle.tf_sorted.specs.Rows.{value_at, with_row}
use Rattle.tf_table.specs.declared.key.Key.{Key}
use Rattle.tf_table.specs.Key.{key_cmp}

-- the first of the two that is there
abbrev pub first_some : {X : Type 0} → Option X → Option X → Option X
first_some (Some x) o = Some x
first_some None o = o

module _ {K E : Type 0} (cmp : K → K → Ordering) where
  -- what the first list that has the key has at it
  abbrev pub first_at : K → List (List (K × E)) → Option E
  first_at key [] = None
  first_at key (rows ∷ lists) = first_some (value_at cmp key rows) (first_at key lists)

  -- the older rows with each newer row put among them
  abbrev pub overlaid : List (K × E) → List (K × E) → List (K × E)
  overlaid [] older = older
  overlaid (r ∷ newer) older = with_row cmp r.0 r.1 (overlaid newer older)

  -- the rows of the oldest list with those of each newer one put among them
  abbrev pub combined : List (List (K × E)) → List (K × E)
  combined [] = []
  combined (rows ∷ lists) = overlaid rows (combined lists)

-- the rows with a value, as pairs of a key and its value
abbrev pub values_of : {K V : Type 0} → List (K × Option V) → List (K × V)
values_of [] = []
values_of ((key, Some v) ∷ rows) = (key, v) ∷ values_of rows
values_of ((key, None) ∷ rows) = values_of rows

-- each of the rows is a tombstone
abbrev pub AreTombstones : {K V : Type 0} → List (K × Option V) → Type 0
AreTombstones rows = All (λ row. row.1 ≡ None) rows

-- the rows have the same entry, each of them
abbrev pub HaveOneEntry : {K V : Type 0} → List (K × Option V) → Type 0
HaveOneEntry {K} {V} rows = (entry : Option V) × All (λ row. row.1 ≡ entry) rows

-- pairs as rows
abbrev pub rows_with : {K V : Type 0} → List (K × V) → List (K × Option V)
rows_with [] = []
rows_with ((key, v) ∷ pairs) = (key, Some v) ∷ rows_with pairs

-- the entry of a key in one table, if the table has the key
abbrev pub entry_at : {V : Type 0} → Key → List (Key × Option V) → Option (Option V)
entry_at key rows = value_at key_cmp key rows

-- the entries are those of one timestamp after another, from this one on, under no value
abbrev pub AreDated : {V : Type 0} → ℕ → List (Option V) → List (Key × Option V) → Type 0
AreDated from entries rows = (t : ℕ) → from ≤ t → t - from < length entries → entry_at (record { value = 0; timestamp = t }) rows ≡ slice_get entries (t - from)

-- the entry of a key in tables, newest first: that of the first table that has the key
abbrev pub entry_of : {V : Type 0} → Key → List (List (Key × Option V)) → Option (Option V)
entry_of key tables = first_at key_cmp key tables

-- the pairs of tables, newest first: the keys whose entry is a value, in order, each with that value
abbrev pub content_of : {V : Type 0} → List (List (Key × Option V)) → List (Key × V)
content_of tables = values_of (combined key_cmp tables)

-- an entry, unless it is a tombstone
abbrev pub value_only : {V : Type 0} → Option (Option V) → Option (Option V)
value_only None = None
value_only (Some None) = None
value_only (Some (Some v)) = Some (Some v)

-- an entry as a merge keeps it: at the bottom nothing is older, so a tombstone goes
abbrev pub kept : {V : Type 0} → Bool → Option (Option V) → Option (Option V)
kept true entry = value_only entry
kept false entry = entry

-- a row as a merge keeps it
abbrev pub kept_row : {K V : Type 0} → Bool → K × Option V → List (K × Option V)
kept_row true (key, None) = []
kept_row true (key, Some v) = (key, Some v) ∷ []
kept_row false r = r ∷ []
