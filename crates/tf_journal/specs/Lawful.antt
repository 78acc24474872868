-- Lawful journals: each entry is there because an event was accepted or failed for a passing reason, or because
-- a pending transfer's time was over.
use Rattle.std.specs.Prelude.{◌≡◌, ℕ, ◌+◌, ◌-◌, ◌<◌, List, [], ◌∷◌, ◌++◌, Some, None, Bool, true, false, ⊤}
use Rattle.tf_records.specs.declared.account.Account.{Account}
use Rattle.tf_records.specs.declared.transfer.Transfer.{Transfer}
use Rattle.tf_records.specs.declared.outcome.Outcome.TheVariants as outcome
use Rattle.tf_journal.specs.declared.entry.Entry.{Entry}
use Rattle.tf_journal.specs.declared.entry.Entry.TheVariants as entry
use Rattle.tf_journal.specs.Flags.{is_linked}
use Rattle.tf_journal.specs.Fits.{FitsAccount, FitsTransfer}
use Rattle.tf_journal.specs.Journal.{IsJournal, IsUpTo, is_failed, timestamp_of}
use Rattle.tf_journal.specs.Lookup.{transfer_with_id}
use Rattle.tf_journal.specs.Due.{next_due_of}
use Rattle.tf_journal.specs.Stored.{stored_account, stored_transfer}
use Rattle.tf_journal.specs.Verdict.{account_verdict, transfer_verdict, greatest_id}

-- some event, whose fields fit their types, is accepted after the journal and stored as this account
pub record IsAdmittedAccount (journal : List Entry) (account : Account) : Type 0 where
  pub event : Account
  pub fits : FitsAccount event
  pub accepted : account_verdict journal account.timestamp event ≡ outcome.Ok
  pub stored : stored_account journal account.timestamp event ≡ account

-- some event, whose fields fit their types, is accepted after the journal and stored as this transfer
pub record IsAdmittedTransfer (journal : List Entry) (transfer : Transfer) : Type 0 where
  pub event : Transfer
  pub fits : FitsTransfer event
  pub accepted : transfer_verdict journal transfer.timestamp event ≡ outcome.Ok
  pub stored : stored_transfer journal transfer.timestamp event ≡ transfer

-- the next transfer to expire, just before this timestamp, is the one with that timestamp
pub record IsAdmittedExpiry (journal : List Entry) (timestamp pending : ℕ) : Type 0 where
  pub transfer : Transfer
  pub next : next_due_of journal (timestamp - 1) ≡ Some transfer
  pub is : transfer.timestamp ≡ pending

-- an id can fail where no transfer has it and it hasn't failed
pub record IsAdmittedFailure (journal : List Entry) (id : ℕ) : Type 0 where
  pub not_zero : 0 < id
  pub not_greatest : id < greatest_id
  pub not_stored : transfer_with_id journal id ≡ None
  pub not_failed : is_failed journal id ≡ false

-- a journal admits an entry
abbrev pub IsAdmitted : List Entry → Entry → Type 0
IsAdmitted journal (entry.Account account) = IsAdmittedAccount journal account
IsAdmitted journal (entry.Transfer transfer) = IsAdmittedTransfer journal transfer
IsAdmitted journal (entry.Expiry timestamp pending) = IsAdmittedExpiry journal timestamp pending
IsAdmitted journal (entry.Failed timestamp id) = IsAdmittedFailure journal id

-- each of these entries is admitted by the journal followed by those before it
abbrev pub AreAdmitted : List Entry → List Entry → Type 0
AreAdmitted journal [] = ⊤
AreAdmitted journal (e ∷ entries) = IsAdmitted journal e × AreAdmitted (journal ++ e ∷ []) entries

-- a sound journal: its timestamps rise, and each entry is admitted by the list before it. This holds after every entry
pub record IsSound (journal : List Entry) : Type 0 where
  pub is_journal : IsJournal journal
  pub admitted : AreAdmitted [] journal

-- whether a record is linked with the one behind it
abbrev pub is_linked_entry : Entry → Bool
is_linked_entry (entry.Account account) = is_linked account.flags
is_linked_entry (entry.Transfer transfer) = is_linked transfer.flags
is_linked_entry _ = false

-- both entries are accounts, or both are transfers
abbrev pub are_of_one_kind : Entry → Entry → Bool
are_of_one_kind (entry.Account first) (entry.Account second) = true
are_of_one_kind (entry.Transfer first) (entry.Transfer second) = true
are_of_one_kind _ _ = false

-- an entry is the next of a linked one: of its kind, at the next timestamp
pub record IsNextOf (linked next : Entry) : Type 0 where
  pub kind : are_of_one_kind linked next ≡ true
  pub timestamp : timestamp_of next ≡ timestamp_of linked + 1

-- each linked record is followed at once by its next one
abbrev pub AreChained : List Entry → Type 0
AreChained [] = ⊤
AreChained (e ∷ []) = is_linked_entry e ≡ false
AreChained (e ∷ f ∷ journal) = (is_linked_entry e ≡ true → IsNextOf e f) × AreChained (f ∷ journal)

-- a lawful journal: sound, and no linked record without its next one. This holds between chains
pub record IsLawful (journal : List Entry) : Type 0 where
  pub sound : IsSound journal
  pub chained : AreChained journal

-- a lawful journal, and a clock that is no earlier than its entries: between batches and pulses
pub record IsLawfulAt (clock : ℕ) (journal : List Entry) : Type 0 where
  pub lawful : IsLawful journal
  pub up_to : IsUpTo clock journal
