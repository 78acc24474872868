-- What contracts see of a sealed table, and of one that stands in a row.
use Rattle.std.specs.Prelude.{ℕ, List, Option, Bool}
use Rattle.tf_table.specs.declared.key.Key.{Key}

-- a table's rows, a value or a tombstone at each key; its level; and whether it is the oldest of its row
pub record Table (V : Type 0) : Type 0 where
  pub rows : List (Key × Option V)
  pub level : ℕ
  pub oldest : Bool

-- a table under its number in the registry
pub record Shown (V : Type 0) : Type 0 where
  pub number : ℕ
  pub table : Table V

-- the table under the number
abbrev pub shown : {V : Type 0} → ℕ → Table V → Shown V
shown number table = record { number = number; table = table }
