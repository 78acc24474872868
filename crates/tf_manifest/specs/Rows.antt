-- The rows of a journal: what each of the 21 rows of a forest has, over the journal's flat list of entries.
use Rattle.std.specs.Prelude.{ℕ, ◌==◌, not, ◌&&◌, Bool, false, List, [], ◌∷◌, ◌++◌, map, Option, Some, None, if◌then◌else◌}
use Rattle.std.specs.List.{filter as keep, filter_map, flat_map}
use Rattle.std.specs.Option.{option_map_or}
use Rattle.tf_records.specs.declared.account.Account.{Account}
use Rattle.tf_records.specs.declared.transfer.Transfer.{Transfer}
use Rattle.tf_journal.specs.declared.entry.Entry.{Entry}
use Rattle.tf_journal.specs.declared.entry.Entry.TheVariants as entry
use Rattle.tf_journal.specs.declared.side.Side.{Side}
use Rattle.tf_journal.specs.declared.side.Side.TheVariants.{Debit, Credit}
use Rattle.tf_journal.specs.Answer.{cut_after}
use Rattle.tf_journal.specs.Balances.{account_on, balances_of}
use Rattle.tf_journal.specs.Closed.{is_closed}
use Rattle.tf_journal.specs.Flags.{is_pending, keeps_history}
use Rattle.tf_journal.specs.Journal.{accounts_of, transfers_of}
use Rattle.tf_journal.specs.Lookup.{account_with_id}
use Rattle.tf_journal.specs.Status.{is_open, status_of}
use Rattle.tf_journal.specs.Verdict.{expires_at}
use Rattle.tf_table.specs.declared.key.Key.{Key}
use Rattle.tf_manifest.specs.declared.row.Row.{Row}
use Rattle.tf_manifest.specs.declared.row.Row.TheVariants as row
use Rattle.tf_manifest.specs.declared.value.State.{State}
use Rattle.tf_manifest.specs.declared.value.Value.{Value}
use Rattle.tf_manifest.specs.declared.value.Value.TheVariants as value

-- a key, and what a row has there
abbrev pub Pair : Type 0
Pair = Key × Value

-- the key of a value and a timestamp
abbrev pub key_of : ℕ → ℕ → Key
key_of value timestamp = record { value = value; timestamp = timestamp }

-- a pair for each account
abbrev pub for_accounts : List Entry → (Account → Pair) → List Pair
for_accounts journal pair = map pair (accounts_of journal)

-- a pair for each transfer
abbrev pub for_transfers : List Entry → (Transfer → Pair) → List Pair
for_transfers journal pair = map pair (transfers_of journal)

-- an index of accounts: a field and the timestamp of each account, also where the field is 0
abbrev pub account_index : List Entry → (Account → ℕ) → List Pair
account_index journal field = for_accounts journal (λ account. (key_of (field account) account.timestamp, value.Unit))

-- an index of transfers
abbrev pub transfer_index : List Entry → (Transfer → ℕ) → List Pair
transfer_index journal field = for_transfers journal (λ transfer. (key_of (field transfer) transfer.timestamp, value.Unit))

-- the present sums of an account, and whether it is closed
abbrev pub state_of : List Entry → Account → State
state_of journal account = record { sums = balances_of journal account.id; closed = is_closed journal account }

-- the pair of a failed id
abbrev pub failed_pair : Entry → Option Pair
failed_pair (entry.Failed timestamp id) = Some (key_of id 0, value.FailedAt timestamp)
failed_pair _ = None

-- the pair of an expiry
abbrev pub expiry_pair : Entry → Option Pair
expiry_pair (entry.Expiry timestamp pending) = Some (key_of 0 timestamp, value.Stamp pending)
expiry_pair _ = None

-- the pending transfers
abbrev pub pending_of : List Entry → List Transfer
pending_of journal = keep is_pending (transfers_of journal)

-- whether a pending transfer has a timeout and is neither posted nor voided nor expired
abbrev pub can_expire : List Entry → Transfer → Bool
can_expire journal pending = not (pending.timeout == 0) && is_open journal pending

-- whether the account with this id is stored with history
abbrev pub has_history : List Entry → ℕ → Bool
has_history journal id = option_map_or keeps_history (account_with_id journal id) false

-- where the account on a side of a transfer has history, its sums right after the transfer
abbrev pub history_pairs : List Entry → Side → Transfer → List Pair
history_pairs journal side transfer =
    let id = account_on side transfer in
    if has_history journal id
    then (key_of id transfer.timestamp, value.Sums (balances_of (cut_after journal transfer.timestamp) id)) ∷ []
    else []

-- the pairs of each row. Of a sound journal no row has two values at one key, so the order of its pairs says nothing
abbrev pub rows_of : List Entry → Row → List Pair
rows_of journal row.AccountObjects = for_accounts journal (λ a. (key_of 0 a.timestamp, value.Account a))
rows_of journal row.AccountIds = for_accounts journal (λ a. (key_of a.id 0, value.Stamp a.timestamp))
rows_of journal row.AccountUserData128 = account_index journal (λ a. a.user_data_128)
rows_of journal row.AccountUserData64 = account_index journal (λ a. a.user_data_64)
rows_of journal row.AccountUserData32 = account_index journal (λ a. a.user_data_32)
rows_of journal row.AccountLedger = account_index journal (λ a. a.ledger)
rows_of journal row.AccountCode = account_index journal (λ a. a.code)
rows_of journal row.AccountSums = for_accounts journal (λ a. (key_of 0 a.timestamp, value.State (state_of journal a)))
rows_of journal row.TransferObjects = for_transfers journal (λ t. (key_of 0 t.timestamp, value.Transfer t))
rows_of journal row.TransferIds =
    for_transfers journal (λ t. (key_of t.id 0, value.Stamp t.timestamp)) ++ filter_map failed_pair journal
rows_of journal row.TransferDebit = transfer_index journal (λ t. t.debit_account_id)
rows_of journal row.TransferCredit = transfer_index journal (λ t. t.credit_account_id)
rows_of journal row.TransferUserData128 = transfer_index journal (λ t. t.user_data_128)
rows_of journal row.TransferUserData64 = transfer_index journal (λ t. t.user_data_64)
rows_of journal row.TransferUserData32 = transfer_index journal (λ t. t.user_data_32)
rows_of journal row.TransferLedger = transfer_index journal (λ t. t.ledger)
rows_of journal row.TransferCode = transfer_index journal (λ t. t.code)
rows_of journal row.PendingStatus =
    map (λ t. (key_of 0 t.timestamp, value.Status (status_of journal t))) (pending_of journal)
rows_of journal row.Expiry =
    map (λ t. (key_of (expires_at t) t.timestamp, value.Unit)) (keep (can_expire journal) (pending_of journal))
rows_of journal row.ExpiryEntries = filter_map expiry_pair journal
rows_of journal row.History =
    flat_map (λ t. history_pairs journal Debit t ++ history_pairs journal Credit t) (transfers_of journal)
