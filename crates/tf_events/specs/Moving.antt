-- What can keep two stored accounts, as answers show them, from taking a moving transfer.
use Rattle.std.specs.Prelude.{ℕ, ◌+◌, ◌==◌, nat_lt, not, ◌&&◌, Bool, List, [], ◌∷◌}
use Rattle.tf_records.specs.declared.account.Account.{Account}
use Rattle.tf_records.specs.declared.outcome.Outcome.{Outcome}
use Rattle.tf_records.specs.declared.outcome.Outcome.TheVariants as outcome
use Rattle.tf_records.specs.declared.transfer.Transfer.{Transfer}
use Rattle.tf_journal.specs.Balances.{greatest_amount}
use Rattle.tf_journal.specs.Flags.{is_marked_closed, is_pending, limits_credits, limits_debits}
use Rattle.tf_journal.specs.Journal.{last_timestamp}
use Rattle.tf_journal.specs.Verdict.{expiry_of}

-- they are of another ledger, or closed
abbrev pub ledger_faults : Account → Account → Transfer → List (Bool × Outcome)
ledger_faults debit credit e =
    (not (debit.ledger == credit.ledger), outcome.AccountsMustHaveTheSameLedger)
    ∷ (not (e.ledger == debit.ledger), outcome.TransferMustHaveTheSameLedgerAsAccounts)
    ∷ (is_marked_closed debit, outcome.DebitAccountAlreadyClosed)
    ∷ (is_marked_closed credit, outcome.CreditAccountAlreadyClosed)
    ∷ []

-- a sum would pass the greatest amount
abbrev pub sum_faults : Account → Account → Transfer → List (Bool × Outcome)
sum_faults debit credit e =
    (is_pending e && nat_lt greatest_amount (debit.debits_pending + e.amount), outcome.OverflowsDebitsPending)
    ∷ (is_pending e && nat_lt greatest_amount (credit.credits_pending + e.amount), outcome.OverflowsCreditsPending)
    ∷ (nat_lt greatest_amount (debit.debits_posted + e.amount), outcome.OverflowsDebitsPosted)
    ∷ (nat_lt greatest_amount (credit.credits_posted + e.amount), outcome.OverflowsCreditsPosted)
    ∷ (nat_lt greatest_amount (debit.debits_pending + debit.debits_posted + e.amount), outcome.OverflowsDebits)
    ∷ (nat_lt greatest_amount (credit.credits_pending + credit.credits_posted + e.amount), outcome.OverflowsCredits)
    ∷ []

-- the time would pass the greatest timestamp, or an account its limit
abbrev pub limit_faults : ℕ → Account → Account → Transfer → List (Bool × Outcome)
limit_faults timestamp debit credit e =
    (not (e.timeout == 0) && nat_lt last_timestamp (expiry_of timestamp e.timeout), outcome.OverflowsTimeout)
    ∷ (limits_debits debit && nat_lt debit.credits_posted (debit.debits_pending + debit.debits_posted + e.amount), outcome.ExceedsCredits)
    ∷ (limits_credits credit && nat_lt credit.debits_posted (credit.credits_pending + credit.credits_posted + e.amount), outcome.ExceedsDebits)
    ∷ []
