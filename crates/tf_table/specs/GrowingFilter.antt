-- A filter in parts, each the words of one filter: a value is known where a part that has words holds it.
use Rattle.std.specs.Prelude.{◌<◌, ℕ, List, [], ◌∷◌, length, ◌⊎◌}
use Rattle.tf_table.specs.Filter.{Holds}

-- a part has words, and the value's bits are set among them
abbrev pub HasPut : List ℕ → ℕ → Type 0
HasPut words value = (0 < length words) × Holds words (length words) value

-- a part has the value
abbrev pub Knows : List (List ℕ) → ℕ → Type 0
Knows [] value = ⊥
Knows (words ∷ parts) value = HasPut words value ⊎ Knows parts value
