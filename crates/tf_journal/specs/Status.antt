-- What became of a pending transfer.
use Rattle.std.specs.Prelude.{ℕ, ◌==◌, List, Option, Bool, true, false, ◌&&◌, if◌then◌else◌}
use Rattle.std.specs.List.{list_any, find}
use Rattle.std.specs.Option.{option_map}
use Rattle.tf_records.specs.declared.transfer.Transfer.{Transfer}
use Rattle.tf_journal.specs.declared.entry.Entry.{Entry}
use Rattle.tf_journal.specs.declared.entry.Entry.TheVariants as entry
use Rattle.tf_journal.specs.declared.status.Status.{Status}
use Rattle.tf_journal.specs.declared.status.Status.TheVariants.{Open, Posted, Voided, Expired}
use Rattle.tf_journal.specs.Flags.{is_pending, is_post, is_void}
use Rattle.tf_journal.specs.Journal.{transfers_of}

-- whether an entry posts the pending transfer
abbrev pub posts : Transfer → Entry → Bool
posts pending (entry.Transfer transfer) = is_post transfer && transfer.pending_id == pending.id
posts pending _ = false

-- whether an entry voids it
abbrev pub voids : Transfer → Entry → Bool
voids pending (entry.Transfer transfer) = is_void transfer && transfer.pending_id == pending.id
voids pending _ = false

-- whether an entry says that its time is over
abbrev pub expires : Transfer → Entry → Bool
expires pending (entry.Expiry timestamp expired) = expired == pending.timestamp
expires pending _ = false

-- the status of a pending transfer after a journal
abbrev pub status_of : List Entry → Transfer → Status
status_of journal pending =
    if list_any (posts pending) journal then Posted
    else if list_any (voids pending) journal then Voided
    else if list_any (expires pending) journal then Expired
    else Open

abbrev pub is_open_status : Status → Bool
is_open_status Open = true
is_open_status _ = false

-- whether a pending transfer is neither posted nor voided nor expired
abbrev pub is_open : List Entry → Transfer → Bool
is_open journal pending = is_open_status (status_of journal pending)

-- the pending transfer with this timestamp
abbrev pub pending_at : List Entry → ℕ → Option Transfer
pending_at journal timestamp =
    find (λ transfer. is_pending transfer && transfer.timestamp == timestamp) (transfers_of journal)

-- the status of the pending transfer with this timestamp
abbrev pub status_at : List Entry → ℕ → Option Status
status_at journal timestamp = option_map (status_of journal) (pending_at journal timestamp)
