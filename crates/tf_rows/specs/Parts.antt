-- Rows as lists of one kind of value: what each has in its mutable table and in its sealed ones, and changes of them.
use Rattle.std.specs.Prelude.{◌≡◌, ◌≢◌, ℕ, List, [], ◌∷◌, map, Option}
use Rattle.std.specs.Option.{IsSome, option_map}
use Rattle.tf_sorted.specs.Rows.{with_row}
use Rattle.tf_table.specs.declared.key.Key.{Key}
use Rattle.tf_table.specs.Key.{key_cmp}
use Rattle.tf_table.specs.Content.{entry_at}
use Rattle.tf_mutable.specs.Mutable.{given_back}
use Rattle.tf_manifest.specs.declared.row.Row.{Row}
use Rattle.tf_manifest.specs.declared.row.Row.TheVariants as row
use Rattle.tf_manifest.specs.declared.value.Value.{Value}
use Rattle.tf_manifest.specs.Kinds.{kind_of}
use Rattle.tf_registry.specs.Row.{lists_of, value_in}
use Rattle.tf_manifest.specs.View.{View, tables_by, value_by}

-- a row: the entries of its mutable table, and those of each sealed table, newest first
pub record Part : Type 0 where
  pub fresh : List (Key × Option Value)
  pub below : List (List (Key × Option Value))

-- an entry as a row's value
abbrev pub seen_row : {V : Type 0} → (V → Value) → Key × Option V → Key × Option Value
seen_row seen r = (r.0, option_map seen r.1)

-- entries as those of a row
abbrev pub seen_rows : {V : Type 0} → (V → Value) → List (Key × Option V) → List (Key × Option Value)
seen_rows seen rows = map (seen_row seen) rows

-- no entries
abbrev pub no_part : Part
no_part = record { fresh = []; below = [] }

-- what a row has at a key, if it has the key
abbrev pub value_of_part : Part → Key → Option Value
value_of_part part key = value_in key (part.fresh ∷ part.below)

-- the place of a row among all
abbrev pub place_of : Row → ℕ
place_of row.AccountObjects = 0
place_of row.AccountIds = 1
place_of row.AccountUserData128 = 2
place_of row.AccountUserData64 = 3
place_of row.AccountUserData32 = 4
place_of row.AccountLedger = 5
place_of row.AccountCode = 6
place_of row.AccountSums = 7
place_of row.TransferObjects = 8
place_of row.TransferIds = 9
place_of row.TransferDebit = 10
place_of row.TransferCredit = 11
place_of row.TransferUserData128 = 12
place_of row.TransferUserData64 = 13
place_of row.TransferUserData32 = 14
place_of row.TransferLedger = 15
place_of row.TransferCode = 16
place_of row.PendingStatus = 17
place_of row.Expiry = 18
place_of row.ExpiryEntries = 19
place_of row.History = 20

-- a row with an entry of its mutable table
abbrev pub with_entry : Key → Option Value → Part → Part
with_entry key entry part = record part { fresh = with_row key_cmp key entry part.fresh }

-- a row with the entry that a key had before, or without the key
abbrev pub with_back : Key → Option (Option Value) → Part → Part
with_back key before part = record part { fresh = given_back key before part.fresh }

-- rows, by their names
abbrev pub Parts : Type 0
Parts = Row → Part

-- the entries of mutable tables, by the names of their rows
abbrev pub Entries : Type 0
Entries = Row → List (Key × Option Value)

-- what the sealed tables of a manifest have for a row, newest first
abbrev pub sealed_in : View → Row → List (List (Key × Option Value))
sealed_in view r = map (seen_rows (value_by (kind_of r))) (lists_of (tables_by view (kind_of r)))

-- mutable tables in front of the sealed ones of a manifest
abbrev pub parts_of : Entries → View → Parts
parts_of fresh view r = record { fresh = fresh r; below = sealed_in view r }

-- the entries of rows' mutable tables
abbrev pub fresh_in : Parts → Entries
fresh_in rows r = (rows r).fresh

-- a mutable table has an entry of a key, which had this one before; each other is as it was
pub record PutsEntry (r : Row) (key : Key) (entry : Option Value) (before : Option (Option Value)) (old new : Entries) : Type 0 where
  pub here : new r ≡ with_row key_cmp key entry (old r)
  pub there : IsSome (entry_at key (new r))
  pub restores : given_back key before (new r) ≡ old r
  pub elsewhere : (other : Row) → other ≢ r → new other ≡ old other

-- a key of a mutable table has the entry back that it had before, or none; each other table is as it was
pub record GivesBack (r : Row) (key : Key) (before : Option (Option Value)) (old new : Entries) : Type 0 where
  pub here : new r ≡ given_back key before (old r)
  pub elsewhere : (other : Row) → other ≢ r → new other ≡ old other

-- a row has an entry of a key, which had this one before; each other row is as it was
pub record IsPut (r : Row) (key : Key) (entry : Option Value) (before : Option (Option Value)) (old new : Parts) : Type 0 where
  pub here : new r ≡ with_entry key entry (old r)
  pub there : IsSome (entry_at key (new r).fresh)
  pub restores : with_back key before (new r) ≡ old r
  pub elsewhere : (other : Row) → other ≢ r → new other ≡ old other

-- a key of a row has the entry back that it had before, or none; each other row is as it was
pub record IsTakenBack (r : Row) (key : Key) (before : Option (Option Value)) (old new : Parts) : Type 0 where
  pub here : new r ≡ with_back key before (old r)
  pub elsewhere : (other : Row) → other ≢ r → new other ≡ old other
