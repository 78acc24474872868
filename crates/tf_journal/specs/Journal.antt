-- A journal: what is stored, in the order in which it was stored.
use Rattle.std.specs.Prelude.{ℕ, ◌-◌, ◌^◌, ◌<◌, ◌≤◌, ◌==◌, List, [], ◌∷◌, Option, Some, None, ⊤, Bool, false}
use Rattle.std.specs.List.{filter_map, list_any, All}
use Rattle.tf_records.specs.declared.account.Account.{Account}
use Rattle.tf_records.specs.declared.transfer.Transfer.{Transfer}
use Rattle.tf_journal.specs.declared.entry.Entry.{Entry}
use Rattle.tf_journal.specs.declared.entry.Entry.TheVariants as entry

-- the greatest timestamp
abbrev pub last_timestamp : ℕ
last_timestamp = 2 ^ 63 - 1

-- the timestamp of an entry: each has one of its own
abbrev pub timestamp_of : Entry → ℕ
timestamp_of (entry.Account account) = account.timestamp
timestamp_of (entry.Transfer transfer) = transfer.timestamp
timestamp_of (entry.Expiry timestamp pending) = timestamp
timestamp_of (entry.Failed timestamp id) = timestamp

abbrev pub account_in : Entry → Option Account
account_in (entry.Account account) = Some account
account_in _ = None

abbrev pub transfer_in : Entry → Option Transfer
transfer_in (entry.Transfer transfer) = Some transfer
transfer_in _ = None

-- the accounts of a journal, in its order, as they were stored
abbrev pub accounts_of : List Entry → List Account
accounts_of journal = filter_map account_in journal

-- the transfers of a journal, in its order
abbrev pub transfers_of : List Entry → List Transfer
transfers_of journal = filter_map transfer_in journal

-- whether an entry says that this transfer id failed
abbrev pub fails : ℕ → Entry → Bool
fails id (entry.Failed timestamp failed) = failed == id
fails id _ = false

-- whether a transfer with this id failed for a passing reason, so that the id stays failed
abbrev pub is_failed : List Entry → ℕ → Bool
is_failed journal id = list_any (fails id) journal

-- each timestamp is above the one before it, and the first above this one
abbrev pub IsRisingFrom : ℕ → List Entry → Type 0
IsRisingFrom timestamp [] = ⊤
IsRisingFrom timestamp (e ∷ journal) = (timestamp < timestamp_of e) × IsRisingFrom (timestamp_of e) journal

-- no entry is younger than this moment
abbrev pub IsUpTo : ℕ → List Entry → Type 0
IsUpTo moment journal = All (λ e. timestamp_of e ≤ moment) journal

-- a list of entries is a journal: its timestamps rise strictly, from 1 on, to at most the greatest
pub record IsJournal (journal : List Entry) : Type 0 where
  pub rising : IsRisingFrom 0 journal
  pub in_range : IsUpTo last_timestamp journal
