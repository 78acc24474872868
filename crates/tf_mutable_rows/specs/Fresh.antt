-- The entries of the mutable tables of the 21 rows, by the kinds of their values.
use Rattle.std.specs.Prelude.{ℕ, List, [], Option, slice_index_or}
use Rattle.tf_journal.specs.declared.status.Status.{Status}
use Rattle.tf_records.specs.declared.account.Account.{Account}
use Rattle.tf_records.specs.declared.sums.Sums.{Sums}
use Rattle.tf_records.specs.declared.transfer.Transfer.{Transfer}
use Rattle.tf_table.specs.declared.key.Key.{Key}
use Rattle.tf_manifest.specs.declared.kind.Kind.{Kind}
use Rattle.tf_manifest.specs.declared.kind.Kind.TheVariants as kind
use Rattle.tf_manifest.specs.declared.kinds.Stored.{Stored}
use Rattle.tf_manifest.specs.declared.value.IdStamp.{IdStamp}
use Rattle.tf_manifest.specs.declared.value.State.{State}
use Rattle.tf_manifest.specs.Kinds.{kind_of, stamp_index, unit_index}
use Rattle.tf_manifest.specs.View.{StoredBy, value_by}
use Rattle.tf_rows.specs.Parts.{Entries, seen_rows}

-- the entries of each row's mutable table
pub record Fresh : Type 0 where
  pub stamps : List (List (Key × Option ℕ))
  pub accounts : List (Key × Option (Stored Account))
  pub transfers : List (Key × Option (Stored Transfer))
  pub ids : List (Key × Option IdStamp)
  pub units : List (List (Key × Option (Unit {0})))
  pub states : List (Key × Option State)
  pub sums : List (Key × Option (Stored Sums))
  pub statuses : List (Key × Option (Stored Status))

-- the entries of a row
abbrev pub fresh_by : Fresh → (k : Kind) → List (Key × Option (StoredBy k))
fresh_by fresh (kind.Stamp row) = slice_index_or fresh.stamps (stamp_index row) []
fresh_by fresh kind.Account = fresh.accounts
fresh_by fresh kind.Transfer = fresh.transfers
fresh_by fresh kind.Id = fresh.ids
fresh_by fresh (kind.Unit row) = slice_index_or fresh.units (unit_index row) []
fresh_by fresh kind.State = fresh.states
fresh_by fresh kind.Sums = fresh.sums
fresh_by fresh kind.Status = fresh.statuses

-- the entries of each row, as those of any
abbrev pub entries_by : Fresh → Entries
entries_by fresh r = seen_rows (value_by (kind_of r)) (fresh_by fresh (kind_of r))
