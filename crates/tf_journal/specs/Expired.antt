-- The first of the due transfers, found along a journal.
use Rattle.std.specs.Prelude.{◌≡◌, ℕ, ◌==◌, List, Option, Some, None, Bool, true, false, if◌then◌else◌}
use Rattle.std.specs.List.{list_any}
use Rattle.tf_records.specs.declared.transfer.Transfer.{Transfer}
use Rattle.tf_journal.specs.declared.entry.Entry.{Entry}
use Rattle.tf_journal.specs.declared.entry.Entry.TheVariants as entry
use Rattle.tf_journal.specs.Due.{expires_before, is_due}
use Rattle.tf_journal.specs.Status.{pending_at}

-- whether an entry says that the time of the pending transfer with this timestamp is over
abbrev pub ends : ℕ → Entry → Bool
ends pending (entry.Expiry timestamp expired) = expired == pending
ends pending _ = false

-- a transfer, if there is one, expired in the journal
abbrev pub HasExpired : List Entry → Option Transfer → Type 0
HasExpired journal last = (p : Transfer) → last ≡ Some p → list_any (ends p.timestamp) journal ≡ true × pending_at journal p.timestamp ≡ Some p

-- the one that expires first, of the first so far and one more
abbrev pub sooner : Option Transfer → Transfer → Option Transfer
sooner None transfer = Some transfer
sooner (Some first) transfer = if expires_before transfer first then Some transfer else Some first

-- the first of the due transfers so far, after one more entry
abbrev pub first_due : List Entry → ℕ → Option Transfer → Entry → Option Transfer
first_due journal moment first (entry.Transfer transfer) = if is_due journal moment transfer then sooner first transfer else first
first_due journal moment first _ = first

-- whether an entry is a due transfer
abbrev pub holds_due : List Entry → ℕ → Entry → Bool
holds_due journal moment (entry.Transfer transfer) = is_due journal moment transfer
holds_due journal moment _ = false
