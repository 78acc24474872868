-- What contracts see of a manifest: the tables of the 21 rows, by the kinds of their values, and the tables pushed.
use Rattle.std.specs.Prelude.{◌≡◌, ℕ, ◌≤◌, List, [], replicate, length, slice_index_or, Option}
use Rattle.std.specs.List.{All}
use Rattle.std.specs.Option.{option_map}
use Rattle.tf_journal.specs.declared.entry.Entry.{Entry}
use Rattle.tf_journal.specs.declared.status.Status.{Status}
use Rattle.tf_records.specs.declared.account.Account.{Account}
use Rattle.tf_records.specs.declared.sums.Sums.{Sums}
use Rattle.tf_records.specs.declared.transfer.Transfer.{Transfer}
use Rattle.tf_table.specs.declared.key.Key.{Key}
use Rattle.tf_manifest.specs.declared.kind.Kind.{Kind}
use Rattle.tf_manifest.specs.declared.kind.Kind.TheVariants as kind
use Rattle.tf_manifest.specs.declared.kinds.Stored.{Stored}
use Rattle.tf_manifest.specs.declared.row.Row.{Row}
use Rattle.tf_manifest.specs.declared.value.IdStamp.{IdStamp}
use Rattle.tf_manifest.specs.declared.value.State.{State}
use Rattle.tf_manifest.specs.declared.value.Value.{Value}
use Rattle.tf_manifest.specs.declared.value.Value.TheVariants as value
use Rattle.tf_manifest.specs.Kinds.{id_value, kind_of, stamp_index, unit_index}
use Rattle.tf_registry.specs.Limit.{Pushed}
use Rattle.tf_registry.specs.Row.{content_at, weight}
use Rattle.tf_manifest.specs.Shows.{Content, Shows}
use Rattle.tf_registry.specs.Table.{Shown}

-- the tables of each row, and how many were pushed
pub record View : Type 0 where
  pub stamps : List (List (Shown ℕ))
  pub accounts : List (List (Shown (Stored Account)))
  pub transfers : List (List (Shown (Stored Transfer)))
  pub ids : List (List (Shown IdStamp))
  pub units : List (List (Shown (Unit {0})))
  pub states : List (List (Shown State))
  pub sums : List (List (Shown (Stored Sums)))
  pub statuses : List (List (Shown (Stored Status)))
  pub pushed : Pushed

-- what the rows of a kind store
abbrev pub StoredBy : Kind → Type 0
StoredBy (kind.Stamp row) = ℕ
StoredBy kind.Account = Stored Account
StoredBy kind.Transfer = Stored Transfer
StoredBy kind.Id = IdStamp
StoredBy (kind.Unit row) = Unit {0}
StoredBy kind.State = State
StoredBy kind.Sums = Stored Sums
StoredBy kind.Status = Stored Status

-- a stored value as a row's value
abbrev pub value_by : (k : Kind) → StoredBy k → Value
value_by (kind.Stamp row) stamp = value.Stamp stamp
value_by kind.Account stored = value.Account stored.record
value_by kind.Transfer stored = value.Transfer stored.record
value_by kind.Id stamp = id_value stamp
value_by (kind.Unit row) nothing = value.Unit
value_by kind.State state = value.State state
value_by kind.Sums stored = value.Sums stored.record
value_by kind.Status stored = value.Status stored.record

-- the tables of all rows of a kind
abbrev pub rows_by : View → (k : Kind) → List (List (Shown (StoredBy k)))
rows_by view (kind.Stamp row) = view.stamps
rows_by view kind.Account = view.accounts
rows_by view kind.Transfer = view.transfers
rows_by view kind.Id = view.ids
rows_by view (kind.Unit row) = view.units
rows_by view kind.State = view.states
rows_by view kind.Sums = view.sums
rows_by view kind.Status = view.statuses

-- the view with other tables in the rows of a kind
abbrev pub with_rows : View → (k : Kind) → List (List (Shown (StoredBy k))) → View
with_rows view (kind.Stamp row) rows = record view { stamps = rows }
with_rows view kind.Account rows = record view { accounts = rows }
with_rows view kind.Transfer rows = record view { transfers = rows }
with_rows view kind.Id rows = record view { ids = rows }
with_rows view (kind.Unit row) rows = record view { units = rows }
with_rows view kind.State rows = record view { states = rows }
with_rows view kind.Sums rows = record view { sums = rows }
with_rows view kind.Status rows = record view { statuses = rows }

-- the place of a row among those of its kind
abbrev pub place_by : Kind → ℕ
place_by (kind.Stamp row) = stamp_index row
place_by (kind.Unit row) = unit_index row
place_by _ = 0

-- the tables of a row, newest first
abbrev pub tables_by : View → (k : Kind) → List (Shown (StoredBy k))
tables_by view k = slice_index_or (rows_by view k) (place_by k) []

-- how many tables a row has
abbrev pub references_in : View → Row → ℕ
references_in view row = length (tables_by view (kind_of row))

-- what a row of a kind has at a key
abbrev pub value_in_kind : View → Key → Kind → Option Value
value_in_kind view key k = option_map (value_by k) (content_at key (tables_by view k))

-- what each row has at each key
abbrev pub content_in : View → Content
content_in view row key = value_in_kind view key (kind_of row)

-- the manifest alone shows the journal
abbrev pub ShowsJournal : View → List Entry → Type 0
ShowsJournal view journal = Shows (content_in view) journal

-- each of the rows weighs no more than so many pushes
abbrev pub AreLight : {V : Type 0} → ℕ → List (List (Shown V)) → Type 0
AreLight {V} pushes rows = All (λ (tables : List (Shown V)). weight tables ≤ pushes) rows

-- each row weighs no more than the tables pushed
pub record IsLight (view : View) : Type 0 where
  pub stamps : AreLight view.pushed.count view.stamps
  pub accounts : AreLight view.pushed.count view.accounts
  pub transfers : AreLight view.pushed.count view.transfers
  pub ids : AreLight view.pushed.count view.ids
  pub units : AreLight view.pushed.count view.units
  pub states : AreLight view.pushed.count view.states
  pub sums : AreLight view.pushed.count view.sums
  pub statuses : AreLight view.pushed.count view.statuses

-- as many rows of each kind as there are
pub record HasRows (view : View) : Type 0 where
  pub stamps : length view.stamps ≡ 2
  pub accounts : length view.accounts ≡ 1
  pub transfers : length view.transfers ≡ 1
  pub ids : length view.ids ≡ 1
  pub units : length view.units ≡ 13
  pub states : length view.states ≡ 1
  pub sums : length view.sums ≡ 1
  pub statuses : length view.statuses ≡ 1

-- no table in any row, and none pushed
abbrev pub no_tables : ℕ → View
no_tables limit = record {
  stamps = replicate 2 [];
  accounts = replicate 1 [];
  transfers = replicate 1 [];
  ids = replicate 1 [];
  units = replicate 13 [];
  states = replicate 1 [];
  sums = replicate 1 [];
  statuses = replicate 1 [];
  pushed = record { count = 0; limit = limit };
}
