-- The timestamps at which tables, newest first, have a value of their keys.
use Rattle.std.specs.Prelude.{ℕ, Bool, is_some, List, [], ◌∷◌, Option, filter}
use Rattle.tf_table.specs.declared.key.Key.{Key}
use Rattle.tf_table.specs.Span.{timestamps}
use Rattle.tf_registry.specs.Row.{value_in}
use Rattle.tf_manifest.specs.Rows.{key_of}
use Rattle.tf_scan.specs.declared.direction.Direction.{Direction}
use Rattle.tf_scan.specs.Sets.{union_of}

-- whether the content of the tables has something at the key of this value and timestamp
abbrev pub has_timestamp : {V : Type 0} → ℕ → List (List (Key × Option V)) → ℕ → Bool
has_timestamp value lists t = is_some (value_in (key_of value t) lists)

-- the timestamps of all rows
abbrev pub all_timestamps : {V : Type 0} → Direction → List (List (Key × Option V)) → List ℕ
all_timestamps d [] = []
all_timestamps d (rows ∷ lists) = union_of d (timestamps rows) (all_timestamps d lists)

-- those of them that the content of the tables has with the value
abbrev pub prefix_of : {V : Type 0} → Direction → ℕ → List (List (Key × Option V)) → List ℕ
prefix_of d value lists = filter (λ t. has_timestamp value lists t) (all_timestamps d lists)
