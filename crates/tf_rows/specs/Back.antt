-- The edits that take an entry back: computed from what was looked up for it when it was added.
use Rattle.std.specs.Prelude.{ℕ, List, [], map}
use Rattle.std.specs.Option.{option_map_or}
use Rattle.tf_records.specs.declared.transfer.Transfer.{Transfer}
use Rattle.tf_journal.specs.declared.entry.Entry.{Entry}
use Rattle.tf_journal.specs.declared.entry.Entry.TheVariants as entry
use Rattle.tf_journal.specs.declared.status.Status.TheVariants as status
use Rattle.tf_manifest.specs.declared.row.Row.{Row}
use Rattle.tf_manifest.specs.declared.row.Row.TheVariants as row
use Rattle.tf_manifest.specs.declared.value.Value.TheVariants as value
use Rattle.tf_rows.specs.declared.found.Found.{Found}
use Rattle.tf_rows.specs.Edits.{Edit, account_edits, expired_edits, expiry_edit, failed_edits, found_for, gone, put, state_edits, status_edit, transfer_edits}

-- the key of an edit goes
abbrev pub taken_away : Edit → Edit
taken_away edit = gone edit.0

-- both accounts have the states that were found
abbrev pub states_back : Found → List Edit
states_back found = state_edits found (λ side state. state)

-- a pending transfer stands in expiry again, where it has a timeout
abbrev pub expiry_back : Transfer → List Edit
expiry_back pending = expiry_edit (λ key. put key value.Unit) pending

-- a transfer: its accounts' states are those before it, what it settled is open again, and all other keys go
abbrev pub transfer_edits_back : Found → Transfer → Row → List Edit
transfer_edits_back found transfer row.AccountSums = states_back found
transfer_edits_back found transfer row.PendingStatus =
    option_map_or (status_edit status.Open) found.settled (map taken_away (transfer_edits found transfer row.PendingStatus))
transfer_edits_back found transfer row.Expiry =
    option_map_or expiry_back found.settled (map taken_away (transfer_edits found transfer row.Expiry))
transfer_edits_back found transfer r = map taken_away (transfer_edits found transfer r)

-- an expiry: the same
abbrev pub expired_edits_back : Found → ℕ → ℕ → Row → List Edit
expired_edits_back found timestamp pending row.AccountSums = states_back found
expired_edits_back found timestamp pending row.PendingStatus = option_map_or (status_edit status.Open) found.settled []
expired_edits_back found timestamp pending row.Expiry = option_map_or expiry_back found.settled []
expired_edits_back found timestamp pending r = map taken_away (expired_edits found timestamp pending r)

-- the edits that take an entry back, by what was looked up for it; of an account and of a failed id all keys go
abbrev pub edits_back_by : Found → Entry → Row → List Edit
edits_back_by found (entry.Account account) r = map taken_away (account_edits account r)
edits_back_by found (entry.Transfer transfer) r = transfer_edits_back found transfer r
edits_back_by found (entry.Expiry timestamp pending) r = expired_edits_back found timestamp pending r
edits_back_by found (entry.Failed timestamp id) r = map taken_away (failed_edits timestamp id r)

-- the edits that take back the entry that was added to a journal
abbrev pub edits_back : List Entry → Entry → Row → List Edit
edits_back journal e = edits_back_by (found_for journal e) e
