-- Rows in a hash table, and what they mean.
use Rattle.std.specs.Prelude.{List, [], ◌∷◌}
use Rattle.tf_table.specs.declared.key.Key.{Key}
use Rattle.tf_mutable_rows.specs.declared.hashed.HashedKey.{HashedKey}

-- the key that a hash table has
abbrev pub key_of : HashedKey → Key
key_of hashed = record { value = hashed.value; timestamp = hashed.timestamp }

-- rows of a hash table, with their keys as rows have them
abbrev pub keyed : {E : Type 0} → List (HashedKey × E) → List (Key × E)
keyed [] = []
keyed (row ∷ rows) = (key_of row.0, row.1) ∷ keyed rows
