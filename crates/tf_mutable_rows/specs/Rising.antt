-- Rows whose keys rise, one after another.
use Rattle.std.specs.Prelude.{List, [], ◌∷◌, Option, Some, None, Bool, true}
use Rattle.std.specs.Ordering.{is_lt}
use Rattle.tf_table.specs.declared.key.Key.{Key}
use Rattle.tf_table.specs.Key.{key_cmp}

-- the key of the last row, if there is one
abbrev pub last_key : {E : Type 0} → List (Key × E) → Option Key
last_key [] = None
last_key (r ∷ []) = Some r.0
last_key (r ∷ s ∷ rows) = last_key (s ∷ rows)

-- whether a key is above another one, if there is one
abbrev pub is_above : Key → Option Key → Bool
is_above key None = true
is_above key (Some last) = is_lt (key_cmp last key)
