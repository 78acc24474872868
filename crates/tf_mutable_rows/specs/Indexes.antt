-- The indexes of transfers, which are read off their objects, and the places of all indexes.
use Rattle.std.specs.Prelude.{◌≡◌, ℕ, ◌<◌, List, [], ◌∷◌, ◌++◌, map, Option, Some, None, IsSome}
use Rattle.tf_records.specs.declared.transfer.Transfer.{Transfer}
use Rattle.tf_sorted.specs.Rows.{IsRising, with_row, without_row}
use Rattle.tf_table.specs.declared.key.Key.{Key}
use Rattle.tf_table.specs.Content.{entry_at}
use Rattle.tf_table.specs.Key.{key_cmp}
use Rattle.tf_mutable.specs.Mutable.{in_order}
use Rattle.tf_manifest.specs.declared.kind.UnitRow.{UnitRow}
use Rattle.tf_manifest.specs.declared.kind.UnitRow.TheVariants as unit
use Rattle.tf_manifest.specs.declared.kinds.Stored.{Stored}
use Rattle.tf_manifest.specs.declared.value.Value.{Value}
use Rattle.tf_manifest.specs.declared.value.Value.TheVariants as value
use Rattle.tf_manifest.specs.Kinds.{unit_index}
use Rattle.tf_manifest.specs.Rows.{key_of}
use Rattle.tf_mutable_rows.specs.declared.transfers.Field.{Field}
use Rattle.tf_mutable_rows.specs.declared.transfers.Field.TheVariants as field
use Rattle.tf_mutable_rows.specs.declared.places.Place.{Place}
use Rattle.tf_mutable_rows.specs.declared.places.Place.TheVariants as place

-- objects of transfers
abbrev pub Objects : Type 0
Objects = List (Key × Option (Stored Transfer))

-- keys with nothing beside them
abbrev pub Keys : Type 0
Keys = List (Key × Option (Unit {0}))

-- an object and a key, as any row may have them
abbrev pub object_seen : Stored Transfer → Value
object_seen stored = value.Transfer stored.record

abbrev pub key_seen : Unit {0} → Value
key_seen nothing = value.Unit

-- what a transfer has in a field
abbrev pub field_of : Field → Transfer → ℕ
field_of field.Debit t = t.debit_account_id
field_of field.Credit t = t.credit_account_id
field_of field.UserData128 t = t.user_data_128
field_of field.UserData64 t = t.user_data_64
field_of field.UserData32 t = t.user_data_32
field_of field.Ledger t = t.ledger
field_of field.Code t = t.code

-- what an object has in it. None is a tombstone, which would have 0
abbrev pub field_in : Field → Option (Stored Transfer) → ℕ
field_in f None = 0
field_in f (Some stored) = field_of f stored.record

-- the row of an index that an object gives
abbrev pub index_row : Field → Key × Option (Stored Transfer) → Key × Option (Unit {0})
index_row f r = (key_of (field_in f r.1) r.0.timestamp, Some tt)

-- the index of a field
abbrev pub index_of : Field → Objects → Keys
index_of f objects = in_order (map (index_row f) objects)

-- each key that has an entry is a timestamp alone
abbrev pub AreByTime : {V : Type 0} → List (Key × Option V) → Type 0
AreByTime rows = (key : Key) → IsSome (entry_at key rows) → key.value ≡ 0

-- objects in the order of their timestamps
pub record IsTimeline (objects : Objects) : Type 0 where
  pub rising : IsRising key_cmp objects
  pub times : AreByTime objects

-- a transfer is put among others: its object, and a key in each index
pub record IsPutAmong (t : Transfer) (old new : Objects) : Type 0 where
  pub object : new ≡ with_row key_cmp (key_of 0 t.timestamp) (Some (record { «record» = t })) old
  pub keys : (f : Field) → index_of f new ≡ with_row key_cmp (key_of (field_of f t) t.timestamp) (Some tt) (index_of f old)
  pub restores : without_row key_cmp (key_of 0 t.timestamp) new ≡ old
  pub restores_keys : (f : Field) → without_row key_cmp (key_of (field_of f t) t.timestamp) (index_of f new) ≡ index_of f old

-- it is among them
pub record IsAmong (t : Transfer) (objects : Objects) : Type 0 where
  pub object : IsSome (entry_at (key_of 0 t.timestamp) objects)
  pub keys : (f : Field) → IsSome (entry_at (key_of (field_of f t) t.timestamp) (index_of f objects))

-- it is taken from them
pub record IsTakenFrom (t : Transfer) (old new : Objects) : Type 0 where
  pub object : new ≡ without_row key_cmp (key_of 0 t.timestamp) old
  pub keys : (f : Field) → index_of f new ≡ without_row key_cmp (key_of (field_of f t) t.timestamp) (index_of f old)

-- the row of a field's index
abbrev pub unit_of : Field → UnitRow
unit_of field.Debit = unit.TransferDebit
unit_of field.Credit = unit.TransferCredit
unit_of field.UserData128 = unit.TransferUserData128
unit_of field.UserData64 = unit.TransferUserData64
unit_of field.UserData32 = unit.TransferUserData32
unit_of field.Ledger = unit.TransferLedger
unit_of field.Code = unit.TransferCode

-- a row that stores nothing beside its keys is in this place
abbrev pub IsIn : Place → UnitRow → Type 0
IsIn (place.OfAccounts at) u = (at ≡ unit_index u) × (at < 5)
IsIn (place.OfTransfers f) u = unit_of f ≡ u
IsIn place.Expiry u = u ≡ unit.Expiry

-- all such rows: the indexes of accounts, those of transfers, and expiry
abbrev pub units_by : List Keys → Objects → Keys → List Keys
units_by accounts transfers expiry =
    accounts
    ++ index_of field.Debit transfers
    ∷ index_of field.Credit transfers
    ∷ index_of field.UserData128 transfers
    ∷ index_of field.UserData64 transfers
    ∷ index_of field.UserData32 transfers
    ∷ index_of field.Ledger transfers
    ∷ index_of field.Code transfers
    ∷ expiry
    ∷ []
