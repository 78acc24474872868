-- The kinds of values that rows store, and which rows are of each.
use Rattle.std.specs.Prelude.{ℕ}
use Rattle.tf_manifest.specs.declared.kind.Kind.{Kind}
use Rattle.tf_manifest.specs.declared.kind.Kind.TheVariants as kind
use Rattle.tf_manifest.specs.declared.kind.StampRow.{StampRow}
use Rattle.tf_manifest.specs.declared.kind.StampRow.TheVariants as stamp
use Rattle.tf_manifest.specs.declared.kind.UnitRow.{UnitRow}
use Rattle.tf_manifest.specs.declared.kind.UnitRow.TheVariants as unit
use Rattle.tf_manifest.specs.declared.row.Row.{Row}
use Rattle.tf_manifest.specs.declared.row.Row.TheVariants as row
use Rattle.tf_manifest.specs.declared.value.IdStamp.{IdStamp}
use Rattle.tf_manifest.specs.declared.value.IdStamp.TheVariants as id_stamp
use Rattle.tf_manifest.specs.declared.value.Value.{Value}
use Rattle.tf_manifest.specs.declared.value.Value.TheVariants as value

-- a transfer id is that of a stored transfer, or it failed
abbrev pub id_value : IdStamp → Value
id_value (id_stamp.Stored timestamp) = value.Stamp timestamp
id_value (id_stamp.Failed timestamp) = value.FailedAt timestamp

-- the place of a row among those that store timestamps
abbrev pub stamp_index : StampRow → ℕ
stamp_index stamp.AccountIds = 0
stamp_index stamp.ExpiryEntries = 1

-- the place of a row among those that store nothing beside their keys
abbrev pub unit_index : UnitRow → ℕ
unit_index unit.AccountUserData128 = 0
unit_index unit.AccountUserData64 = 1
unit_index unit.AccountUserData32 = 2
unit_index unit.AccountLedger = 3
unit_index unit.AccountCode = 4
unit_index unit.TransferDebit = 5
unit_index unit.TransferCredit = 6
unit_index unit.TransferUserData128 = 7
unit_index unit.TransferUserData64 = 8
unit_index unit.TransferUserData32 = 9
unit_index unit.TransferLedger = 10
unit_index unit.TransferCode = 11
unit_index unit.Expiry = 12

-- each row by its kind
abbrev pub kind_of : Row → Kind
kind_of row.AccountObjects = kind.Account
kind_of row.AccountIds = kind.Stamp stamp.AccountIds
kind_of row.AccountUserData128 = kind.Unit unit.AccountUserData128
kind_of row.AccountUserData64 = kind.Unit unit.AccountUserData64
kind_of row.AccountUserData32 = kind.Unit unit.AccountUserData32
kind_of row.AccountLedger = kind.Unit unit.AccountLedger
kind_of row.AccountCode = kind.Unit unit.AccountCode
kind_of row.AccountSums = kind.State
kind_of row.TransferObjects = kind.Transfer
kind_of row.TransferIds = kind.Id
kind_of row.TransferDebit = kind.Unit unit.TransferDebit
kind_of row.TransferCredit = kind.Unit unit.TransferCredit
kind_of row.TransferUserData128 = kind.Unit unit.TransferUserData128
kind_of row.TransferUserData64 = kind.Unit unit.TransferUserData64
kind_of row.TransferUserData32 = kind.Unit unit.TransferUserData32
kind_of row.TransferLedger = kind.Unit unit.TransferLedger
kind_of row.TransferCode = kind.Unit unit.TransferCode
kind_of row.PendingStatus = kind.Status
kind_of row.Expiry = kind.Unit unit.Expiry
kind_of row.ExpiryEntries = kind.Stamp stamp.ExpiryEntries
kind_of row.History = kind.Sums
