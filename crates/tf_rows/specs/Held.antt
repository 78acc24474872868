-- What is stored as a row's value, for each kind of value.
use Rattle.std.specs.Prelude.{◌≡◌, ℕ, Option, Some, None, IfSome, refl}
use Rattle.tf_records.specs.declared.account.Account.{Account}
use Rattle.tf_records.specs.declared.sums.Sums.{Sums}
use Rattle.tf_records.specs.declared.transfer.Transfer.{Transfer}
use Rattle.tf_journal.specs.declared.status.Status.{Status}
use Rattle.tf_manifest.specs.declared.kinds.Stored.{Stored}
use Rattle.tf_manifest.specs.declared.value.IdStamp.{IdStamp}
use Rattle.tf_manifest.specs.declared.value.IdStamp.TheVariants as id_stamp
use Rattle.tf_manifest.specs.declared.value.State.{State}
use Rattle.tf_manifest.specs.Kinds.{id_value}
use Rattle.tf_manifest.specs.declared.value.Value.{Value}
use Rattle.tf_manifest.specs.declared.value.Value.TheVariants as value

-- a timestamp, if the value is of that kind
abbrev pub stamp_held : Value → Option ℕ
stamp_held (value.Stamp timestamp) = Some timestamp
stamp_held _ = None

-- an account, if the value is of that kind
abbrev pub account_held : Value → Option (Stored Account)
account_held (value.Account account) = Some (record { «record» = account })
account_held _ = None

-- a transfer, if the value is of that kind
abbrev pub transfer_held : Value → Option (Stored Transfer)
transfer_held (value.Transfer transfer) = Some (record { «record» = transfer })
transfer_held _ = None

-- what an id was used for, if the value is of that kind
abbrev pub id_held : Value → Option IdStamp
id_held (value.Stamp timestamp) = Some (id_stamp.Stored timestamp)
id_held (value.FailedAt timestamp) = Some (id_stamp.Failed timestamp)
id_held _ = None

-- an account's state, if the value is of that kind
abbrev pub state_held : Value → Option State
state_held (value.State state) = Some state
state_held _ = None

-- sums, if the value is of that kind
abbrev pub sums_held : Value → Option (Stored Sums)
sums_held (value.Sums sums) = Some (record { «record» = sums })
sums_held _ = None

-- a status, if the value is of that kind
abbrev pub status_held : Value → Option (Stored Status)
status_held (value.Status status) = Some (record { «record» = status })
status_held _ = None

-- nothing, if the value is of that kind
abbrev pub unit_held : Value → Option (Unit {0})
unit_held value.Unit = Some tt
unit_held _ = None

-- what is stored as a value is seen as it
pub stamp_seen : (v : Value) → IfSome (stamp_held v) (λ timestamp. value.Stamp timestamp ≡ v)
stamp_seen (value.Stamp timestamp) = refl
stamp_seen _ = tt

pub account_seen : (v : Value) → IfSome (account_held v) (λ stored. value.Account stored.«record» ≡ v)
account_seen (value.Account account) = refl
account_seen _ = tt

pub transfer_seen : (v : Value) → IfSome (transfer_held v) (λ stored. value.Transfer stored.«record» ≡ v)
transfer_seen (value.Transfer transfer) = refl
transfer_seen _ = tt

pub id_seen : (v : Value) → IfSome (id_held v) (λ stamp. id_value stamp ≡ v)
id_seen (value.Stamp timestamp) = refl
id_seen (value.FailedAt timestamp) = refl
id_seen _ = tt

-- what is stored is held by what it is seen as
pub id_back : (stamp : IdStamp) → id_held (id_value stamp) ≡ Some stamp
id_back (id_stamp.Stored timestamp) = refl
id_back (id_stamp.Failed timestamp) = refl

pub unit_seen : (v : Value) → IfSome (unit_held v) (λ nothing. value.Unit ≡ v)
unit_seen value.Unit = refl
unit_seen _ = tt

pub state_seen : (v : Value) → IfSome (state_held v) (λ state. value.State state ≡ v)
state_seen (value.State state) = refl
state_seen _ = tt

pub sums_seen : (v : Value) → IfSome (sums_held v) (λ stored. value.Sums stored.«record» ≡ v)
sums_seen (value.Sums sums) = refl
sums_seen _ = tt

pub status_seen : (v : Value) → IfSome (status_held v) (λ stored. value.Status stored.«record» ≡ v)
status_seen (value.Status status) = refl
status_seen _ = tt
