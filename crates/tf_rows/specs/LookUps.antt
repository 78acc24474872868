-- Look-ups in rows: what is found for an entry, read at the keys of the rows that have it.
use Rattle.std.specs.Prelude.{ℕ, Option, Some, None, if◌then◌else◌}
use Rattle.std.specs.Option.{option_and_then, option_map, option_map_or}
use Rattle.tf_records.specs.declared.account.Account.{Account}
use Rattle.tf_records.specs.declared.transfer.Transfer.{Transfer}
use Rattle.tf_journal.specs.declared.entry.Entry.{Entry}
use Rattle.tf_journal.specs.declared.entry.Entry.TheVariants as entry
use Rattle.tf_journal.specs.declared.id_use.IdUse.{IdUse}
use Rattle.tf_journal.specs.declared.id_use.IdUse.TheVariants.{Free, Failed, Stored}
use Rattle.tf_journal.specs.declared.status.Status.{Status}
use Rattle.tf_journal.specs.Flags.{is_pending}
use Rattle.tf_journal.specs.Lookup.{with_state}
use Rattle.tf_manifest.specs.declared.row.Row.TheVariants as row
use Rattle.tf_manifest.specs.declared.value.State.{State}
use Rattle.tf_manifest.specs.declared.value.Value.{Value}
use Rattle.tf_manifest.specs.declared.value.Value.TheVariants as value
use Rattle.tf_manifest.specs.Rows.{key_of}
use Rattle.tf_manifest.specs.Shows.{Content}
use Rattle.tf_rows.specs.declared.found.Found.{Found}
use Rattle.tf_rows.specs.declared.found.Party.{Party}
use Rattle.tf_rows.specs.Edits.{found_by_expiry, found_by_transfer, nothing_found}

-- what a value is, if it is of a kind
abbrev pub as_stamp : Value → Option ℕ
as_stamp (value.Stamp timestamp) = Some timestamp
as_stamp _ = None

abbrev pub as_account : Value → Option Account
as_account (value.Account account) = Some account
as_account _ = None

abbrev pub as_transfer : Value → Option Transfer
as_transfer (value.Transfer transfer) = Some transfer
as_transfer _ = None

abbrev pub as_state : Value → Option State
as_state (value.State state) = Some state
as_state _ = None

abbrev pub as_status : Value → Option Status
as_status (value.Status status) = Some status
as_status _ = None

-- the account with this timestamp, as it was stored
abbrev pub account_at : Content → ℕ → Option Account
account_at content timestamp = option_and_then as_account (content row.AccountObjects (key_of 0 timestamp))

-- the account with this id: by the timestamp that its id has
abbrev pub account_read : Content → ℕ → Option Account
account_read content id =
    option_and_then (account_at content) (option_and_then as_stamp (content row.AccountIds (key_of id 0)))

-- the present state of an account
abbrev pub state_read : Content → Account → Option State
state_read content account = option_and_then as_state (content row.AccountSums (key_of 0 account.timestamp))

abbrev pub party_with : Account → State → Party
party_with account state = record { account = account; state = state }

-- an account with its present state
abbrev pub with_state_read : Content → Account → Option Party
with_state_read content account = option_map (party_with account) (state_read content account)

-- the account with this id, and its state
abbrev pub party_read : Content → ℕ → Option Party
party_read content id = option_and_then (with_state_read content) (account_read content id)

-- an account as answers show it, by its state
abbrev pub shown_party : Party → Account
shown_party party = with_state party.state.sums party.state.closed party.account

-- the account with this id as answers show it
abbrev pub shown_read : Content → ℕ → Option Account
shown_read content id = option_map shown_party (party_read content id)

-- the transfer with this timestamp
abbrev pub transfer_at : Content → ℕ → Option Transfer
transfer_at content timestamp = option_and_then as_transfer (content row.TransferObjects (key_of 0 timestamp))

-- the use of a transfer id by the value that its key has, if it has one
abbrev pub use_by : Content → Option Value → IdUse
use_by content (Some (value.Stamp timestamp)) = option_map_or Stored (transfer_at content timestamp) Free
use_by content (Some (value.FailedAt timestamp)) = Failed
use_by content _ = Free

-- the use of a transfer id: one look-up tells whether it is free, failed or that of a stored transfer
abbrev pub use_read : Content → ℕ → IdUse
use_read content id = use_by content (content row.TransferIds (key_of id 0))

-- the stored transfer of an id's use
abbrev pub stored_in : IdUse → Option Transfer
stored_in (Stored transfer) = Some transfer
stored_in _ = None

-- the transfer with this id
abbrev pub transfer_read : Content → ℕ → Option Transfer
transfer_read content id = stored_in (use_read content id)

-- a transfer, if it is pending
abbrev pub if_pending : Transfer → Option Transfer
if_pending transfer = if is_pending transfer then Some transfer else None

-- the pending transfer with this timestamp
abbrev pub pending_read : Content → ℕ → Option Transfer
pending_read content timestamp = option_and_then if_pending (transfer_at content timestamp)

-- the status of the pending transfer with this timestamp
abbrev pub status_read : Content → ℕ → Option Status
status_read content timestamp = option_and_then as_status (content row.PendingStatus (key_of 0 timestamp))

-- what is looked up for an entry, read from rows
abbrev pub found_read : Content → Entry → Found
found_read content (entry.Account account) = nothing_found
found_read content (entry.Transfer transfer) = found_by_transfer (party_read content) (transfer_read content) transfer
found_read content (entry.Expiry timestamp pending) = found_by_expiry (party_read content) (pending_read content pending)
found_read content (entry.Failed timestamp id) = nothing_found
