-- Laws of sound journals, in the terms of whoever keeps a ledger.
use Rattle.std.specs.Prelude.{◌≡◌, ◌≢◌, ℕ, ◌+◌, ◌≤◌, List, Option, Some, None, Bool, true, ◌||◌}
use Rattle.std.specs.List.{All, AllPairs, filter_map, sum_by, count_by}
use Rattle.tf_records.specs.declared.account.Account.{Account}
use Rattle.tf_records.specs.declared.transfer.Transfer.{Transfer}
use Rattle.tf_journal.specs.declared.entry.Entry.{Entry}
use Rattle.tf_journal.specs.declared.entry.Entry.TheVariants as entry
use Rattle.tf_journal.specs.declared.side.Side.{Side}
use Rattle.tf_journal.specs.declared.side.Side.TheVariants.{Debit, Credit}
use Rattle.tf_journal.specs.Balances.{greatest_amount, pending_on, posted_on}
use Rattle.tf_journal.specs.Flags.{is_pending, limits_debits, limits_credits}
use Rattle.tf_journal.specs.Journal.{accounts_of, transfers_of, is_failed}
use Rattle.tf_journal.specs.Lookup.{account_with_id, transfer_with_id}
use Rattle.tf_journal.specs.Status.{posts, voids, expires}

-- no sum passes the greatest amount, and an account with a limit is within it
pub record IsWithinLimits (journal : List Entry) : Type 0 where
  pub sums : (side : Side) (id : ℕ) → pending_on journal side id + posted_on journal side id ≤ greatest_amount
  pub debits : (id : ℕ) (account : Account) → account_with_id journal id ≡ Some account → limits_debits account ≡ true
      → pending_on journal Debit id + posted_on journal Debit id ≤ posted_on journal Credit id
  pub credits : (id : ℕ) (account : Account) → account_with_id journal id ≡ Some account → limits_credits account ≡ true
      → pending_on journal Credit id + posted_on journal Credit id ≤ posted_on journal Debit id

abbrev pub failed_in : Entry → Option ℕ
failed_in (entry.Failed timestamp id) = Some id
failed_in _ = None

-- the transfer ids that failed, in the journal's order
abbrev pub failed_ids : List Entry → List ℕ
failed_ids journal = filter_map failed_in journal

-- every account id, transfer id and failed id is there once, and no id is both stored and failed
pub record HasUniqueIds (journal : List Entry) : Type 0 where
  pub accounts : AllPairs (λ first second. first.id ≢ second.id) (accounts_of journal)
  pub transfers : AllPairs (λ first second. first.id ≢ second.id) (transfers_of journal)
  pub failed : AllPairs (λ first second. first ≢ second) (failed_ids journal)
  pub stored_or_failed : (id : ℕ) → is_failed journal id ≡ true → transfer_with_id journal id ≡ None

-- whether an entry posts, voids or expires a pending transfer
abbrev pub settles : Transfer → Entry → Bool
settles pending e = posts pending e || voids pending e || expires pending e

-- a pending transfer is posted, voided or expired at most once
abbrev pub SettlesOnce : List Entry → Type 0
SettlesOnce journal = All (λ transfer. is_pending transfer ≡ true → count_by (settles transfer) journal ≤ 1) (transfers_of journal)

-- a transfer's accounts are stored, differ and share its ledger
pub record HasAccounts (journal : List Entry) (transfer : Transfer) : Type 0 where
  pub debit : Account
  pub credit : Account
  pub debit_stored : account_with_id journal transfer.debit_account_id ≡ Some debit
  pub credit_stored : account_with_id journal transfer.credit_account_id ≡ Some credit
  pub differ : transfer.debit_account_id ≢ transfer.credit_account_id
  pub debit_ledger : debit.ledger ≡ transfer.ledger
  pub credit_ledger : credit.ledger ≡ transfer.ledger

-- what is posted, and what is pending, on a side of all accounts together
abbrev pub total_posted : List Entry → Side → ℕ
total_posted journal side = sum_by (λ account. posted_on journal side account.id) (accounts_of journal)

abbrev pub total_pending : List Entry → Side → ℕ
total_pending journal side = sum_by (λ account. pending_on journal side account.id) (accounts_of journal)

-- double entry: over all accounts, debits add up to credits, posted and pending
pub record IsBalanced (journal : List Entry) : Type 0 where
  pub posted : total_posted journal Debit ≡ total_posted journal Credit
  pub pending : total_pending journal Debit ≡ total_pending journal Credit
