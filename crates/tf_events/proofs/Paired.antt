-- The table of a moving transfer's accounts, read off the accounts as they are shown.
use Rattle.std.proofs.Common.{◌≡◌, ℕ, ◌+◌, List, [], ◌∷◌, ◌++◌, Some, None, Bool, false, not, ◌&&◌, refl, ap, ◌∙◌}
use Rattle.std.specs.Prelude.{◌==◌, is_none, nat_lt}
use Rattle.tf_records.specs.declared.account.Account.{Account}
use Rattle.tf_records.specs.declared.outcome.Outcome.{Outcome}
use Rattle.tf_records.specs.declared.outcome.Outcome.TheVariants as outcome
use Rattle.tf_records.specs.declared.transfer.Transfer.{Transfer}
use Rattle.tf_journal.specs.declared.entry.Entry.{Entry}
use Rattle.tf_journal.specs.declared.side.Side.TheVariants.{Debit, Credit}
use Rattle.tf_journal.specs.Balances.{greatest_amount, pending_on, posted_on}
use Rattle.tf_journal.specs.Flags.{is_marked_closed, is_pending, limits_credits, limits_debits}
use Rattle.tf_journal.specs.Journal.{last_timestamp}
use Rattle.tf_journal.specs.Lookup.{shown_with_id, is_closed_at, account_with_id}
use Rattle.tf_journal.specs.Verdict.{sides_faults, expiry_of, first_fault, has_limit, ledger_of}
use Rattle.tf_journal.proofs.ShownAccount.{read_off}
use Rattle.tf_journal.proofs.Tables.{fault_early, fault_later}
use Rattle.tf_events.specs.Moving.{ledger_faults, limit_faults, sum_faults}

-- what the table asks of an account on its side
record Asked : Type 0 where
  missing : Bool
  ledger : ℕ
  closed : Bool
  pending : ℕ
  posted : ℕ
  limit : ℕ
  limited : Bool

-- the table, by what it asks of both accounts
table : ℕ → Transfer → Asked → Asked → List (Bool × Outcome)
table timestamp e debit credit =
    (debit.missing, outcome.DebitAccountNotFound)
    ∷ (credit.missing, outcome.CreditAccountNotFound)
    ∷ (not (debit.ledger == credit.ledger), outcome.AccountsMustHaveTheSameLedger)
    ∷ (not (e.ledger == debit.ledger), outcome.TransferMustHaveTheSameLedgerAsAccounts)
    ∷ (debit.closed, outcome.DebitAccountAlreadyClosed)
    ∷ (credit.closed, outcome.CreditAccountAlreadyClosed)
    ∷ (is_pending e && nat_lt greatest_amount (debit.pending + e.amount), outcome.OverflowsDebitsPending)
    ∷ (is_pending e && nat_lt greatest_amount (credit.pending + e.amount), outcome.OverflowsCreditsPending)
    ∷ (nat_lt greatest_amount (debit.posted + e.amount), outcome.OverflowsDebitsPosted)
    ∷ (nat_lt greatest_amount (credit.posted + e.amount), outcome.OverflowsCreditsPosted)
    ∷ (nat_lt greatest_amount (debit.pending + debit.posted + e.amount), outcome.OverflowsDebits)
    ∷ (nat_lt greatest_amount (credit.pending + credit.posted + e.amount), outcome.OverflowsCredits)
    ∷ (not (e.timeout == 0) && nat_lt last_timestamp (expiry_of timestamp e.timeout), outcome.OverflowsTimeout)
    ∷ (debit.limited && nat_lt debit.limit (debit.pending + debit.posted + e.amount), outcome.ExceedsCredits)
    ∷ (credit.limited && nat_lt credit.limit (credit.pending + credit.posted + e.amount), outcome.ExceedsDebits)
    ∷ []

abbrev debit_asked : List Entry → ℕ → Asked
debit_asked journal id = record {
  missing = is_none (account_with_id journal id);
  ledger = ledger_of journal id;
  closed = is_closed_at journal id;
  pending = pending_on journal Debit id;
  posted = posted_on journal Debit id;
  limit = posted_on journal Credit id;
  limited = has_limit limits_debits journal id;
}

abbrev credit_asked : List Entry → ℕ → Asked
credit_asked journal id = record {
  missing = is_none (account_with_id journal id);
  ledger = ledger_of journal id;
  closed = is_closed_at journal id;
  pending = pending_on journal Credit id;
  posted = posted_on journal Credit id;
  limit = posted_on journal Debit id;
  limited = has_limit limits_credits journal id;
}

asked_same : (m n : Bool) (l k : ℕ) (c d : Bool) (p q r s t u : ℕ) (a b : Bool) → m ≡ n → l ≡ k → c ≡ d → p ≡ q → r ≡ s → t ≡ u → a ≡ b
    → let first : Asked = record { missing = m; ledger = l; closed = c; pending = p; posted = r; limit = t; limited = a } in
    let second : Asked = record { missing = n; ledger = k; closed = d; pending = q; posted = s; limit = u; limited = b } in
    first ≡ second
asked_same m n l k c d p q r s t u a b e1 e2 e3 e4 e5 e6 e7 = cc

abbrev debit_shown : Account → Asked
debit_shown account = record {
  missing = false;
  ledger = account.ledger;
  closed = is_marked_closed account;
  pending = account.debits_pending;
  posted = account.debits_posted;
  limit = account.credits_posted;
  limited = limits_debits account;
}

abbrev credit_shown : Account → Asked
credit_shown account = record {
  missing = false;
  ledger = account.ledger;
  closed = is_marked_closed account;
  pending = account.credits_pending;
  posted = account.credits_posted;
  limit = account.debits_posted;
  limited = limits_credits account;
}

debit_read : (journal : List Entry) (id : ℕ) (account : Account) → shown_with_id journal id ≡ Some account → debit_asked journal id ≡ debit_shown account
debit_read journal id account is =
    let r = read_off journal id account is in
    asked_same _ _ _ _ _ _ _ _ _ _ _ _ _ _ r.is_stored r.ledger r.closed r.debits_pending r.debits_posted r.credits_posted r.debit_limit

credit_read : (journal : List Entry) (id : ℕ) (account : Account) → shown_with_id journal id ≡ Some account → credit_asked journal id ≡ credit_shown account
credit_read journal id account is =
    let r = read_off journal id account is in
    asked_same _ _ _ _ _ _ _ _ _ _ _ _ _ _ r.is_stored r.ledger r.closed r.credits_pending r.credits_posted r.debits_posted r.credit_limit

accounts_table : (journal : List Entry) (timestamp : ℕ) (e : Transfer)
    → sides_faults journal timestamp e ≡ table timestamp e (debit_asked journal e.debit_account_id) (credit_asked journal e.credit_account_id)
unfolding table
accounts_table journal timestamp e = refl

shown_table : (timestamp : ℕ) (e : Transfer) (debit credit : Account)
    → first_fault (table timestamp e (debit_shown debit) (credit_shown credit))
    ≡ first_fault (ledger_faults debit credit e ++ (sum_faults debit credit e ++ limit_faults timestamp debit credit e))
unfolding table
shown_table timestamp e debit credit = refl

-- of two stored accounts, the table's fault is that of the three tables of the shown accounts, one after another
paired : (journal : List Entry) (timestamp : ℕ) (e : Transfer) (debit credit : Account)
    → shown_with_id journal e.debit_account_id ≡ Some debit → shown_with_id journal e.credit_account_id ≡ Some credit
    → first_fault (sides_faults journal timestamp e)
    ≡ first_fault (ledger_faults debit credit e ++ (sum_faults debit credit e ++ limit_faults timestamp debit credit e))
paired journal timestamp e debit credit debit_is credit_is =
    ap first_fault (accounts_table journal timestamp e)
    ∙ ap (λ d. first_fault (table timestamp e d (credit_asked journal e.credit_account_id))) (debit_read journal e.debit_account_id debit debit_is)
    ∙ ap (λ c. first_fault (table timestamp e (debit_shown debit) c)) (credit_read journal e.credit_account_id credit credit_is)
    ∙ shown_table timestamp e debit credit

-- the first of the three that has a fault
pub paired_ledger : (journal : List Entry) (timestamp : ℕ) (e : Transfer) (debit credit : Account) (fault : Outcome)
    → shown_with_id journal e.debit_account_id ≡ Some debit → shown_with_id journal e.credit_account_id ≡ Some credit
    → first_fault (ledger_faults debit credit e) ≡ Some fault → first_fault (sides_faults journal timestamp e) ≡ Some fault
paired_ledger journal timestamp e debit credit fault debit_is credit_is is =
    paired journal timestamp e debit credit debit_is credit_is
    ∙ fault_early (ledger_faults debit credit e) (sum_faults debit credit e ++ limit_faults timestamp debit credit e) fault is

pub paired_sum : (journal : List Entry) (timestamp : ℕ) (e : Transfer) (debit credit : Account) (fault : Outcome)
    → shown_with_id journal e.debit_account_id ≡ Some debit → shown_with_id journal e.credit_account_id ≡ Some credit
    → first_fault (ledger_faults debit credit e) ≡ None → first_fault (sum_faults debit credit e) ≡ Some fault
    → first_fault (sides_faults journal timestamp e) ≡ Some fault
paired_sum journal timestamp e debit credit fault debit_is credit_is none is =
    paired journal timestamp e debit credit debit_is credit_is
    ∙ fault_later (ledger_faults debit credit e) (sum_faults debit credit e ++ limit_faults timestamp debit credit e) none
    ∙ fault_early (sum_faults debit credit e) (limit_faults timestamp debit credit e) fault is

pub paired_limit : (journal : List Entry) (timestamp : ℕ) (e : Transfer) (debit credit : Account)
    → shown_with_id journal e.debit_account_id ≡ Some debit → shown_with_id journal e.credit_account_id ≡ Some credit
    → first_fault (ledger_faults debit credit e) ≡ None → first_fault (sum_faults debit credit e) ≡ None
    → first_fault (sides_faults journal timestamp e) ≡ first_fault (limit_faults timestamp debit credit e)
paired_limit journal timestamp e debit credit debit_is credit_is no_ledger no_sum =
    paired journal timestamp e debit credit debit_is credit_is
    ∙ fault_later (ledger_faults debit credit e) (sum_faults debit credit e ++ limit_faults timestamp debit credit e) no_ledger
    ∙ fault_later (sum_faults debit credit e) (limit_faults timestamp debit credit e) no_sum
