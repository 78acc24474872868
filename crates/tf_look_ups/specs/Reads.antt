-- What a manifest's tables have at the timestamp of a record.
use Rattle.std.specs.Prelude.{ℕ, List, Bool, is_some, replicate, Option, Some, None}
use Rattle.std.specs.Option.{option_and_then, option_flatten, option_map}
use Rattle.tf_records.specs.declared.account.Account.{Account}
use Rattle.tf_records.specs.declared.account_balance.AccountBalance.{AccountBalance}
use Rattle.tf_records.specs.declared.sums.Sums.{Sums}
use Rattle.tf_records.specs.declared.transfer.Transfer.{Transfer}
use Rattle.tf_journal.specs.Lookup.{with_state}
use Rattle.tf_table.specs.declared.key.Key.{Key}
use Rattle.tf_table.specs.Content.{entry_of}
use Rattle.tf_manifest.specs.declared.kind.Kind.TheVariants as kind
use Rattle.tf_manifest.specs.declared.kind.StampRow.TheVariants as stamp
use Rattle.tf_manifest.specs.declared.kind.UnitRow.{UnitRow}
use Rattle.tf_manifest.specs.declared.kinds.Stored.{Stored}
use Rattle.tf_manifest.specs.declared.value.IdStamp.{IdStamp}
use Rattle.tf_manifest.specs.declared.value.IdStamp.TheVariants as id_stamp
use Rattle.tf_manifest.specs.declared.value.State.{State}
use Rattle.tf_registry.specs.Row.{content_at, lists_of}
use Rattle.tf_manifest.specs.Rows.{key_of}
use Rattle.tf_manifest.specs.View.{View, tables_by}

-- the record that a row stores, if it stores one
abbrev pub stored_record : {X : Type 0} → Option (Stored X) → Option X
stored_record {X} stored = option_map (λ (s : Stored X). s.record) stored

-- whether an index has something under a value at a timestamp
abbrev pub has_entry : View → UnitRow → ℕ → ℕ → Bool
has_entry view row value timestamp = is_some (content_at (key_of value timestamp) (tables_by view (kind.Unit row)))

-- the transfer with this timestamp
abbrev pub transfer_in : View → ℕ → Option Transfer
transfer_in view timestamp = stored_record (content_at (key_of 0 timestamp) (tables_by view kind.Transfer))

-- the account with this timestamp, as it was stored
abbrev pub account_in : View → ℕ → Option Account
account_in view timestamp = stored_record (content_at (key_of 0 timestamp) (tables_by view kind.Account))

-- its present state
abbrev pub state_in : View → ℕ → Option State
state_in view timestamp = content_at (key_of 0 timestamp) (tables_by view kind.State)

-- an account as answers show it, by its state
abbrev pub shown_by : Account → State → Account
shown_by account state = with_state state.sums state.closed account

-- the account with this timestamp as answers show it
abbrev pub shown_in : View → ℕ → Option Account
shown_in view timestamp = option_and_then (λ account. option_map (shown_by account) (state_in view timestamp)) (account_in view timestamp)

-- the timestamp of the account with this id
abbrev pub account_stamp_in : View → ℕ → Option ℕ
account_stamp_in view id = content_at (key_of id 0) (tables_by view (kind.Stamp stamp.AccountIds))

-- the timestamp of a transfer that is stored with an id
abbrev pub stored_stamp : IdStamp → Option ℕ
stored_stamp (id_stamp.Stored timestamp) = Some timestamp
stored_stamp (id_stamp.Failed timestamp) = None

-- the rows of each table of ids of transfers
abbrev pub id_lists : View → List (List (Key × Option IdStamp))
id_lists view = lists_of (tables_by view kind.Id)

-- the timestamp of the transfer with this id, by tables of ids
abbrev pub stamp_by : List (List (Key × Option IdStamp)) → ℕ → Option ℕ
stamp_by lists id = option_and_then stored_stamp (option_flatten (entry_of (key_of id 0) lists))

-- the timestamp of the transfer with this id
abbrev pub transfer_stamp_in : View → ℕ → Option ℕ
transfer_stamp_in view id = option_and_then stored_stamp (content_at (key_of id 0) (tables_by view kind.Id))

-- the sums of an account right after the transfer with this timestamp
abbrev pub sums_in : View → ℕ → ℕ → Option Sums
sums_in view id timestamp = stored_record (content_at (key_of id timestamp) (tables_by view kind.Sums))

-- sums as a balance
abbrev pub balance_by : ℕ → Sums → AccountBalance
balance_by timestamp sums = record {
  debits_pending = sums.debits_pending;
  debits_posted = sums.debits_posted;
  credits_pending = sums.credits_pending;
  credits_posted = sums.credits_posted;
  timestamp = timestamp;
  reserved = replicate 56 0;
}

-- the balance of an account right after the transfer with this timestamp
abbrev pub balance_in : View → ℕ → ℕ → Option AccountBalance
balance_in view id timestamp = option_map (balance_by timestamp) (sums_in view id timestamp)
