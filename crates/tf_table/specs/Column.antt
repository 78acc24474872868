-- The entries of rows that lie side by side, in either form.
use Rattle.std.specs.Prelude.{◌≡◌, ℕ, List, Option, length, replicate}
use Rattle.std.specs.List.{zip}
use Rattle.std.specs.Option.{option_copied}
use Rattle.tf_table.specs.declared.key.Key.{Key}
use Rattle.tf_table.specs.declared.column.Column.{Column}
use Rattle.tf_table.specs.declared.column.Column.TheVariants.{Same, Each}

-- the entries of so many rows, in the order of the rows
abbrev pub column_of : {V : Type 0} → ℕ → Column V → List (Option V)
column_of n (Same entry) = replicate n (option_copied entry)
column_of n (Each entries) = entries.now

-- the rows have these keys and these entries, and no more of either
pub record AreRuns {V : Type 0} (keys : List Key) (entries : Column V) (rows : List (Key × Option V)) : Type 0 where
  pub together : zip keys (column_of (length keys) entries) ≡ rows
  pub as_many_keys : length keys ≡ length rows
  pub as_many_entries : length (column_of (length keys) entries) ≡ length rows
