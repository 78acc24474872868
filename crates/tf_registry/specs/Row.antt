-- What the tables of a row say together, newest first, and what always holds of them.
use Rattle.std.specs.Prelude.{◌≡◌, ℕ, ◌+◌, ◌^◌, ◌≤◌, List, [], ◌∷◌, map, Option, Bool, true, false}
use Rattle.std.specs.Option.{option_flatten}
use Rattle.tf_table.specs.declared.key.Key.{Key}
use Rattle.tf_table.specs.Content.{entry_of}
use Rattle.tf_registry.specs.Table.{Shown}

-- the rows of each table
abbrev pub lists_of : {V : Type 0} → List (Shown V) → List (List (Key × Option V))
lists_of {V} tables = map (λ (t : Shown V). t.table.rows) tables

-- the level of each table
abbrev pub levels_of : {V : Type 0} → List (Shown V) → List ℕ
levels_of {V} tables = map (λ (t : Shown V). t.table.level) tables

-- the value of a key in lists of rows, newest first: that of its entry, unless it is a tombstone
abbrev pub value_in : {V : Type 0} → Key → List (List (Key × Option V)) → Option V
value_in key lists = option_flatten (entry_of key lists)

-- the value of a key in the content of the tables
abbrev pub content_at : {V : Type 0} → Key → List (Shown V) → Option V
content_at key tables = value_in key (lists_of tables)

-- each key has one value in both
abbrev pub SameContent : {V : Type 0} → List (Shown V) → List (Shown V) → Type 0
SameContent old new = (key : Key) → content_at key new ≡ content_at key old

-- whether the list is empty
abbrev pub is_nil : {X : Type 0} → List X → Bool
is_nil [] = true
is_nil (x ∷ xs) = false

-- a table is marked oldest exactly where none is older
abbrev pub OldestIsLast : {V : Type 0} → List (Shown V) → Type 0
OldestIsLast [] = Unit {0}
OldestIsLast (t ∷ ts) = (t.table.oldest ≡ is_nil ts) × OldestIsLast ts

-- each of the tables has this level or a higher one
abbrev pub AllFrom : {V : Type 0} → ℕ → List (Shown V) → Type 0
AllFrom level [] = Unit {0}
AllFrom level (t ∷ ts) = (level ≤ t.table.level) × AllFrom level ts

-- levels don't fall from the newest to the oldest
abbrev pub LevelsRise : {V : Type 0} → List (Shown V) → Type 0
LevelsRise [] = Unit {0}
LevelsRise (t ∷ ts) = AllFrom t.table.level ts × LevelsRise ts

-- how many sealed tables of level 0 the tables are made of at least
abbrev pub weight : {V : Type 0} → List (Shown V) → ℕ
weight [] = 0
weight (t ∷ ts) = 2 ^ t.table.level + weight ts

-- what always holds of a row's tables. No more are pushed into a registry than 1,048,576
pub record IsRow {V : Type 0} (tables : List (Shown V)) : Type 0 where
  pub oldest : OldestIsLast tables
  pub levels : LevelsRise tables
  pub light : weight tables ≤ 1048576
