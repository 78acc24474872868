-- All rows as one set: which take an entry for any key, which value each stores, and what the others keep to.
use Rattle.std.specs.Prelude.{◌≡◌, ◌≢◌, Some, None, Bool, true, false, IsTrue}
use Rattle.std.specs.Option.{is_some}
use Rattle.tf_table.specs.declared.key.Key.{Key}
use Rattle.tf_table.specs.Content.{entry_at}
use Rattle.tf_manifest.specs.declared.kind.Kind.{Kind}
use Rattle.tf_manifest.specs.declared.kind.Kind.TheVariants as kind
use Rattle.tf_manifest.specs.declared.row.Row.{Row}
use Rattle.tf_manifest.specs.declared.row.Row.TheVariants as row
use Rattle.tf_manifest.specs.declared.value.Value.{Value}
use Rattle.tf_manifest.specs.Kinds.{kind_of}
use Rattle.tf_rows.specs.Held.{account_held, id_held, stamp_held, state_held, status_held, sums_held, transfer_held, unit_held}
use Rattle.tf_rows.specs.Parts.{Parts, no_part}

-- whether a row's mutable table is a tree or a map, which takes an entry for any key. The others are logs, which take new keys
abbrev pub is_tree : Row → Bool
is_tree row.AccountIds = true
is_tree row.AccountSums = true
is_tree row.TransferIds = true
is_tree row.PendingStatus = true
is_tree row.Expiry = true
is_tree _ = false

abbrev pub IsTree : Row → Type 0
IsTree r = IsTrue (is_tree r)

-- whether rows of a kind store a value
abbrev pub is_of_kind : Kind → Value → Bool
is_of_kind (kind.Stamp r) v = is_some (stamp_held v)
is_of_kind kind.Account v = is_some (account_held v)
is_of_kind kind.Transfer v = is_some (transfer_held v)
is_of_kind kind.Id v = is_some (id_held v)
is_of_kind (kind.Unit r) v = is_some (unit_held v)
is_of_kind kind.State v = is_some (state_held v)
is_of_kind kind.Sums v = is_some (sums_held v)
is_of_kind kind.Status v = is_some (status_held v)

-- whether a row stores a value
abbrev pub fits_row : Row → Value → Bool
fits_row r v = is_of_kind (kind_of r) v

-- the set of all rows has each
abbrev pub has_each : Row → Bool
has_each r = true

-- no log has a tombstone
abbrev pub LogsHaveValues : Parts → Type 0
LogsHaveValues rows = (r : Row) → is_tree r ≡ false → (key : Key) → entry_at key (rows r).fresh ≢ Some None

-- no row has anything
abbrev pub AreEmpty : Parts → Type 0
AreEmpty rows = (r : Row) → rows r ≡ no_part
