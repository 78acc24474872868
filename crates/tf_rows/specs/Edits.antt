-- The edits of an entry: what it changes in each row of a journal. They are computed from what is looked up for the
-- entry: the accounts that it touches, with their states, and the pending transfer that it settles.
use Rattle.std.specs.Prelude.{ℕ, ◌+◌, ◌-◌, ◌==◌, not, ◌&&◌, ◌||◌, Bool, List, [], ◌∷◌, ◌++◌, Option, Some, None, if◌then◌else◌}
use Rattle.std.specs.Option.{option_and_then, option_map, option_map_or, unwrap_or}
use Rattle.tf_records.specs.declared.account.Account.{Account}
use Rattle.tf_records.specs.declared.sums.Sums.{Sums}
use Rattle.tf_records.specs.declared.transfer.Transfer.{Transfer}
use Rattle.tf_journal.specs.declared.entry.Entry.{Entry}
use Rattle.tf_journal.specs.declared.entry.Entry.TheVariants as entry
use Rattle.tf_journal.specs.declared.side.Side.{Side}
use Rattle.tf_journal.specs.declared.side.Side.TheVariants.{Debit, Credit}
use Rattle.tf_journal.specs.declared.status.Status.{Status}
use Rattle.tf_journal.specs.declared.status.Status.TheVariants as status
use Rattle.tf_journal.specs.Balances.{posted_amount}
use Rattle.tf_journal.specs.Flags.{closes_credit, closes_debit, is_marked_closed, is_pending, is_post, is_settling, keeps_history}
use Rattle.tf_journal.specs.Lookup.{account_with_id, transfer_with_id}
use Rattle.tf_journal.specs.Status.{pending_at}
use Rattle.tf_journal.specs.Verdict.{expires_at}
use Rattle.tf_table.specs.declared.key.Key.{Key}
use Rattle.tf_table.specs.Content.{entry_at}
use Rattle.tf_manifest.specs.declared.row.Row.{Row}
use Rattle.tf_manifest.specs.declared.row.Row.TheVariants as row
use Rattle.tf_manifest.specs.declared.value.State.{State}
use Rattle.tf_manifest.specs.declared.value.Value.{Value}
use Rattle.tf_manifest.specs.declared.value.Value.TheVariants as value
use Rattle.tf_manifest.specs.Rows.{key_of, state_of}
use Rattle.tf_rows.specs.declared.found.Found.{Found}
use Rattle.tf_rows.specs.declared.found.Party.{Party}

-- a key and what the row has there afterwards: a value, or nothing
abbrev pub Edit : Type 0
Edit = Key × Option Value

-- the row has this value at this key
abbrev pub put : Key → Value → Edit
put key v = (key, Some v)

-- the row has nothing at this key
abbrev pub gone : Key → Edit
gone key = (key, None)

-- a stored account with its present state
abbrev pub present_party : List Entry → Account → Party
present_party journal account = record { account = account; state = state_of journal account }

-- the account with this id, and its state
abbrev pub party_of : List Entry → ℕ → Option Party
party_of journal id = option_map (present_party journal) (account_with_id journal id)

-- for an entry that touches no account and settles nothing
abbrev pub nothing_found : Found
nothing_found = record { debit = None; credit = None; settled = None }

-- for a transfer: its accounts, and of a post or void the pending transfer that it names, by what ids have
abbrev pub found_by_transfer : (ℕ → Option Party) → (ℕ → Option Transfer) → Transfer → Found
found_by_transfer party_with transfer_with transfer = record {
  debit = party_with transfer.debit_account_id;
  credit = party_with transfer.credit_account_id;
  settled = if is_settling transfer then transfer_with transfer.pending_id else None;
}

-- for an expiry: the pending transfer that it names, and its accounts
abbrev pub found_by_expiry : (ℕ → Option Party) → Option Transfer → Found
found_by_expiry party_with pending = record {
  debit = option_and_then (λ transfer. party_with transfer.debit_account_id) pending;
  credit = option_and_then (λ transfer. party_with transfer.credit_account_id) pending;
  settled = pending;
}

-- what a journal has for a transfer, and for an expiry
abbrev pub found_for_transfer : List Entry → Transfer → Found
found_for_transfer journal transfer = found_by_transfer (party_of journal) (transfer_with_id journal) transfer

abbrev pub found_for_expiry : List Entry → Option Transfer → Found
found_for_expiry journal pending = found_by_expiry (party_of journal) pending

-- what is looked up in a journal for its next entry
abbrev pub found_for : List Entry → Entry → Found
found_for journal (entry.Account account) = nothing_found
found_for journal (entry.Transfer transfer) = found_for_transfer journal transfer
found_for journal (entry.Expiry timestamp pending) = found_for_expiry journal (pending_at journal pending)
found_for journal (entry.Failed timestamp id) = nothing_found

-- sums with so much more pending on a side
abbrev pub with_pending : Side → ℕ → Sums → Sums
with_pending Debit amount sums = record sums { debits_pending = sums.debits_pending + amount }
with_pending Credit amount sums = record sums { credits_pending = sums.credits_pending + amount }

-- sums with so much less pending on a side
abbrev pub without_pending : Side → ℕ → Sums → Sums
without_pending Debit amount sums = record sums { debits_pending = sums.debits_pending - amount }
without_pending Credit amount sums = record sums { credits_pending = sums.credits_pending - amount }

-- sums with so much more posted on a side
abbrev pub with_posted : Side → ℕ → Sums → Sums
with_posted Debit amount sums = record sums { debits_posted = sums.debits_posted + amount }
with_posted Credit amount sums = record sums { credits_posted = sums.credits_posted + amount }

-- whether a pending transfer closes the account on a side
abbrev pub closes_on : Side → Transfer → Bool
closes_on Debit transfer = closes_debit transfer
closes_on Credit transfer = closes_credit transfer

-- the state of the account on a side after a new pending transfer
abbrev pub state_pending : Side → Transfer → State → State
state_pending side transfer state = record {
  sums = with_pending side transfer.amount state.sums;
  closed = state.closed || closes_on side transfer;
}

-- after a pending transfer is settled, and so much posted: what it closed is open again
abbrev pub state_settled : Side → Transfer → ℕ → State → State
state_settled side pending posted state = record {
  sums = with_posted side posted (without_pending side pending.amount state.sums);
  closed = state.closed && not (closes_on side pending);
}

-- after a transfer that is neither pending nor a post or void
abbrev pub state_moved : Side → Transfer → State → State
state_moved side transfer state = record state { sums = with_posted side transfer.amount state.sums }

-- after any transfer, which settles this pending transfer, if one
abbrev pub state_after : Side → Transfer → Option Transfer → State → State
state_after side transfer (Some pending) state = state_settled side pending (posted_amount transfer) state
state_after side transfer None state =
    if is_pending transfer then state_pending side transfer state else state_moved side transfer state

-- an account after a change of its state
abbrev pub party_after : (State → State) → Party → Party
party_after change party = record party { state = change party.state }

-- the edit of an account's state
abbrev pub state_edit : (State → State) → Party → List Edit
state_edit change party = put (key_of 0 party.account.timestamp) (value.State (change party.state)) ∷ []

-- the edits of the states of both accounts
abbrev pub state_edits : Found → (Side → State → State) → List Edit
state_edits found change =
    option_map_or (state_edit (change Debit)) found.debit []
    ++ option_map_or (state_edit (change Credit)) found.credit []

-- where an account has history: its sums right after the transfer
abbrev pub history_edit : Transfer → (State → State) → Party → List Edit
history_edit transfer change party =
    if keeps_history party.account
    then put (key_of party.account.id transfer.timestamp) (value.Sums (change party.state).sums) ∷ []
    else []

abbrev pub history_edits : Found → Transfer → (Side → State → State) → List Edit
history_edits found transfer change =
    option_map_or (history_edit transfer (change Debit)) found.debit []
    ++ option_map_or (history_edit transfer (change Credit)) found.credit []

-- the edit of a pending transfer's status
abbrev pub status_edit : Status → Transfer → List Edit
status_edit s pending = put (key_of 0 pending.timestamp) (value.Status s) ∷ []

-- the key under which a pending transfer with a timeout stands in expiry
abbrev pub expiry_key : Transfer → Key
expiry_key pending = key_of (expires_at pending) pending.timestamp

-- an edit of it, where the transfer has a timeout
abbrev pub expiry_edit : (Key → Edit) → Transfer → List Edit
expiry_edit change pending = if pending.timeout == 0 then [] else change (expiry_key pending) ∷ []

-- an index: a field and the record's timestamp
abbrev pub index_edit : ℕ → ℕ → List Edit
index_edit field timestamp = put (key_of field timestamp) value.Unit ∷ []

-- the state of a new account: all sums 0, closed as its own flag says
abbrev pub new_state : Account → State
new_state account = record {
  sums = record { debits_pending = 0; debits_posted = 0; credits_pending = 0; credits_posted = 0 };
  closed = is_marked_closed account;
}

-- an account: its object, its id, its five fields and its state
abbrev pub account_edits : Account → Row → List Edit
account_edits account row.AccountObjects = put (key_of 0 account.timestamp) (value.Account account) ∷ []
account_edits account row.AccountIds = put (key_of account.id 0) (value.Stamp account.timestamp) ∷ []
account_edits account row.AccountUserData128 = index_edit account.user_data_128 account.timestamp
account_edits account row.AccountUserData64 = index_edit account.user_data_64 account.timestamp
account_edits account row.AccountUserData32 = index_edit account.user_data_32 account.timestamp
account_edits account row.AccountLedger = index_edit account.ledger account.timestamp
account_edits account row.AccountCode = index_edit account.code account.timestamp
account_edits account row.AccountSums = put (key_of 0 account.timestamp) (value.State (new_state account)) ∷ []
account_edits account _ = []

-- the status of a pending transfer that a post or void settles
abbrev pub settled_status : Transfer → Status
settled_status transfer = if is_post transfer then status.Posted else status.Voided

-- of a transfer that settles this pending transfer, if one: the status of that one, or its own where it is pending
abbrev pub status_edits : Transfer → Option Transfer → List Edit
status_edits transfer (Some pending) = status_edit (settled_status transfer) pending
status_edits transfer None = if is_pending transfer then status_edit status.Open transfer else []

-- and the key in expiry
abbrev pub expiry_edits : Transfer → Option Transfer → List Edit
expiry_edits transfer (Some pending) = expiry_edit gone pending
expiry_edits transfer None = if is_pending transfer then expiry_edit (λ key. put key value.Unit) transfer else []

-- a transfer: its object, its id and its seven fields, the states and the history of its accounts, and the status
-- and the expiry of the pending transfer that it is or settles
abbrev pub transfer_edits : Found → Transfer → Row → List Edit
transfer_edits found transfer row.AccountSums =
    state_edits found (λ side. state_after side transfer found.settled)
transfer_edits found transfer row.TransferObjects =
    put (key_of 0 transfer.timestamp) (value.Transfer transfer) ∷ []
transfer_edits found transfer row.TransferIds = put (key_of transfer.id 0) (value.Stamp transfer.timestamp) ∷ []
transfer_edits found transfer row.TransferDebit = index_edit transfer.debit_account_id transfer.timestamp
transfer_edits found transfer row.TransferCredit = index_edit transfer.credit_account_id transfer.timestamp
transfer_edits found transfer row.TransferUserData128 = index_edit transfer.user_data_128 transfer.timestamp
transfer_edits found transfer row.TransferUserData64 = index_edit transfer.user_data_64 transfer.timestamp
transfer_edits found transfer row.TransferUserData32 = index_edit transfer.user_data_32 transfer.timestamp
transfer_edits found transfer row.TransferLedger = index_edit transfer.ledger transfer.timestamp
transfer_edits found transfer row.TransferCode = index_edit transfer.code transfer.timestamp
transfer_edits found transfer row.PendingStatus = status_edits transfer found.settled
transfer_edits found transfer row.Expiry = expiry_edits transfer found.settled
transfer_edits found transfer row.History =
    history_edits found transfer (λ side. state_after side transfer found.settled)
transfer_edits found transfer _ = []

-- the states of both accounts after a pending transfer expires
abbrev pub expired_states : Found → Transfer → List Edit
expired_states found pending = state_edits found (λ side. state_settled side pending 0)

-- an expiry: its entry, the states of both accounts, and the status and the expiry of the pending transfer
abbrev pub expired_edits : Found → ℕ → ℕ → Row → List Edit
expired_edits found timestamp pending row.AccountSums = option_map_or (expired_states found) found.settled []
expired_edits found timestamp pending row.PendingStatus = option_map_or (status_edit status.Expired) found.settled []
expired_edits found timestamp pending row.Expiry = option_map_or (expiry_edit gone) found.settled []
expired_edits found timestamp pending row.ExpiryEntries = put (key_of 0 timestamp) (value.Stamp pending) ∷ []
expired_edits found timestamp pending _ = []

-- a failed id: its id
abbrev pub failed_edits : ℕ → ℕ → Row → List Edit
failed_edits timestamp id row.TransferIds = put (key_of id 0) (value.FailedAt timestamp) ∷ []
failed_edits timestamp id _ = []

-- the edits of an entry, by what was looked up for it
abbrev pub edits_by : Found → Entry → Row → List Edit
edits_by found (entry.Account account) = account_edits account
edits_by found (entry.Transfer transfer) = transfer_edits found transfer
edits_by found (entry.Expiry timestamp pending) = expired_edits found timestamp pending
edits_by found (entry.Failed timestamp id) = failed_edits timestamp id

-- the edits of a journal's next entry
abbrev pub edits : List Entry → Entry → Row → List Edit
edits journal e = edits_by (found_for journal e) e

-- what a row has at a key after edits: what the edit of that key says, else what it had
abbrev pub edited : List Edit → (Key → Option Value) → Key → Option Value
edited changes old key = unwrap_or (entry_at key changes) (old key)
