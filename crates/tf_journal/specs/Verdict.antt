-- Verdicts: the result of an event, judged at a moment after a journal. Each is the outcome of the first
-- line of a table that holds, else ok.
use Rattle.std.specs.Prelude.{ℕ, ◌+◌, ◌-◌, ◌*◌, ◌^◌, ◌==◌, nat_lt, nat_le, not, ◌&&◌, ◌||◌, is_none, Bool, true, false, List, [], ◌∷◌, ◌++◌, Option, Some, None, if◌then◌else◌}
use Rattle.std.specs.Option.{option_map, option_map_or, unwrap_or}
use Rattle.tf_records.specs.declared.account.Account.{Account}
use Rattle.tf_records.specs.declared.transfer.Transfer.{Transfer}
use Rattle.tf_records.specs.declared.outcome.Outcome.{Outcome}
use Rattle.tf_records.specs.declared.outcome.Outcome.TheVariants as outcome
use Rattle.tf_journal.specs.declared.entry.Entry.{Entry}
use Rattle.tf_journal.specs.declared.side.Side.TheVariants.{Debit, Credit}
use Rattle.tf_journal.specs.declared.status.Status.{Status}
use Rattle.tf_journal.specs.declared.status.Status.TheVariants as status
use Rattle.tf_journal.specs.Flags.{limits_debits, limits_credits, has_reserved_account_flag, has_reserved_transfer_flag, is_pending, is_post, is_void, is_settling, closes_debit, closes_credit}
use Rattle.tf_journal.specs.Journal.{is_failed, last_timestamp}
use Rattle.tf_journal.specs.Status.{status_of}
use Rattle.tf_journal.specs.Balances.{pending_on, posted_on, greatest_amount}
use Rattle.tf_journal.specs.Lookup.{account_with_id, shown_with_id, transfer_with_id, is_closed_at}
use Rattle.tf_journal.specs.Stored.{filled_in, settled_amount}

-- the greatest number that an id can be, which none may be
abbrev pub greatest_id : ℕ
greatest_id = 2 ^ 128 - 1

-- when a pending transfer with this timestamp and timeout, in seconds, expires
abbrev pub expiry_of : ℕ → ℕ → ℕ
expiry_of timestamp timeout = timestamp + timeout * 1000000000

-- when a stored pending transfer expires
abbrev pub expires_at : Transfer → ℕ
expires_at pending = expiry_of pending.timestamp pending.timeout

-- a table of conditions and outcomes: the outcome of the first line whose condition holds, if one does
abbrev pub first_fault : List (Bool × Outcome) → Option Outcome
first_fault [] = None
first_fault (line ∷ lines) = if line.0 then Some line.1 else first_fault lines

-- the first outcome that there is, else ok
abbrev pub verdict_of : List (Option Outcome) → Outcome
verdict_of [] = outcome.Ok
verdict_of (Some o ∷ _) = o
verdict_of (None ∷ faults) = verdict_of faults

-- whether an outcome is ok: the event is stored
abbrev pub is_accepted : Outcome → Bool
is_accepted outcome.Ok = true
is_accepted _ = false

-- whether a failure may pass, so that the id that had it stays failed
abbrev pub is_transient : Outcome → Bool
is_transient outcome.DebitAccountNotFound = true
is_transient outcome.CreditAccountNotFound = true
is_transient outcome.PendingTransferNotFound = true
is_transient outcome.ExceedsCredits = true
is_transient outcome.ExceedsDebits = true
is_transient outcome.DebitAccountAlreadyClosed = true
is_transient outcome.CreditAccountAlreadyClosed = true
is_transient _ = false

-- what can be wrong with an account event by itself
abbrev pub account_faults : Account → List (Bool × Outcome)
account_faults e =
    (not (e.timestamp == 0), outcome.TimestampMustBeZero)
    ∷ (not (e.reserved == 0), outcome.ReservedField)
    ∷ (has_reserved_account_flag e, outcome.ReservedFlag)
    ∷ (e.id == 0, outcome.IdMustNotBeZero)
    ∷ (e.id == greatest_id, outcome.IdMustNotBeIntMax)
    ∷ (limits_debits e && limits_credits e, outcome.FlagsAreMutuallyExclusive)
    ∷ (not (e.debits_pending == 0), outcome.DebitsPendingMustBeZero)
    ∷ (not (e.debits_posted == 0), outcome.DebitsPostedMustBeZero)
    ∷ (not (e.credits_pending == 0), outcome.CreditsPendingMustBeZero)
    ∷ (not (e.credits_posted == 0), outcome.CreditsPostedMustBeZero)
    ∷ (e.ledger == 0, outcome.LedgerMustNotBeZero)
    ∷ (e.code == 0, outcome.CodeMustNotBeZero)
    ∷ []

-- how an account event can differ from the stored account of its id, as answers show it
abbrev pub account_differences : Account → Account → List (Bool × Outcome)
account_differences e stored =
    (not (e.flags == stored.flags), outcome.ExistsWithDifferentFlags)
    ∷ (not (e.user_data_128 == stored.user_data_128), outcome.ExistsWithDifferentUserData128)
    ∷ (not (e.user_data_64 == stored.user_data_64), outcome.ExistsWithDifferentUserData64)
    ∷ (not (e.user_data_32 == stored.user_data_32), outcome.ExistsWithDifferentUserData32)
    ∷ (not (e.ledger == stored.ledger), outcome.ExistsWithDifferentLedger)
    ∷ (not (e.code == stored.code), outcome.ExistsWithDifferentCode)
    ∷ []

-- the result of an event whose id is stored: that of the first field that differs, else that it exists
abbrev pub repeated : List (Bool × Outcome) → Outcome
repeated differences = unwrap_or (first_fault differences) outcome.Exists

-- the verdict on an account event, judged at this timestamp after the journal
abbrev pub account_verdict : List Entry → ℕ → Account → Outcome
account_verdict journal timestamp e = verdict_of (
    first_fault (account_faults e)
    ∷ option_map (λ stored. repeated (account_differences e stored)) (shown_with_id journal e.id)
    ∷ [])

-- flags that exclude each other: two of pending, post and void, or one of post and void with one that closes
abbrev pub has_exclusive_flags : Transfer → Bool
has_exclusive_flags e =
    (is_pending e && is_settling e)
    || (is_post e && is_void e)
    || (is_settling e && (closes_debit e || closes_credit e))

-- what can be wrong with any transfer event by itself
abbrev pub transfer_faults : Transfer → List (Bool × Outcome)
transfer_faults e =
    (not (e.timestamp == 0), outcome.TimestampMustBeZero)
    ∷ (has_reserved_transfer_flag e, outcome.ReservedFlag)
    ∷ (e.id == 0, outcome.IdMustNotBeZero)
    ∷ (e.id == greatest_id, outcome.IdMustNotBeIntMax)
    ∷ (has_exclusive_flags e, outcome.FlagsAreMutuallyExclusive)
    ∷ ((closes_debit e || closes_credit e) && not (is_pending e), outcome.ClosingTransferMustBePending)
    ∷ []

-- what can be wrong by itself with a transfer that moves an amount between the accounts that it names
abbrev pub moving_faults : Transfer → List (Bool × Outcome)
moving_faults e =
    (e.debit_account_id == 0, outcome.DebitAccountIdMustNotBeZero)
    ∷ (e.debit_account_id == greatest_id, outcome.DebitAccountIdMustNotBeIntMax)
    ∷ (e.credit_account_id == 0, outcome.CreditAccountIdMustNotBeZero)
    ∷ (e.credit_account_id == greatest_id, outcome.CreditAccountIdMustNotBeIntMax)
    ∷ (e.debit_account_id == e.credit_account_id, outcome.AccountsMustBeDifferent)
    ∷ (not (e.pending_id == 0), outcome.PendingIdMustBeZero)
    ∷ (not (e.timeout == 0) && not (is_pending e), outcome.TimeoutReservedForPendingTransfer)
    ∷ (e.ledger == 0, outcome.LedgerMustNotBeZero)
    ∷ (e.code == 0, outcome.CodeMustNotBeZero)
    ∷ []

-- what can be wrong by itself with a post or void
abbrev pub settling_faults : Transfer → List (Bool × Outcome)
settling_faults e =
    (e.pending_id == 0, outcome.PendingIdMustNotBeZero)
    ∷ (e.pending_id == greatest_id, outcome.PendingIdMustNotBeIntMax)
    ∷ (e.pending_id == e.id, outcome.PendingIdMustBeDifferent)
    ∷ (not (e.timeout == 0), outcome.TimeoutReservedForPendingTransfer)
    ∷ []

-- how a transfer event can differ from the stored transfer of its id
abbrev pub transfer_differences : Transfer → Transfer → List (Bool × Outcome)
transfer_differences e stored =
    (not (e.flags == stored.flags), outcome.ExistsWithDifferentFlags)
    ∷ (not (e.pending_id == stored.pending_id), outcome.ExistsWithDifferentPendingId)
    ∷ (not (e.debit_account_id == stored.debit_account_id), outcome.ExistsWithDifferentDebitAccountId)
    ∷ (not (e.credit_account_id == stored.credit_account_id), outcome.ExistsWithDifferentCreditAccountId)
    ∷ (not (e.amount == stored.amount), outcome.ExistsWithDifferentAmount)
    ∷ (not (e.user_data_128 == stored.user_data_128), outcome.ExistsWithDifferentUserData128)
    ∷ (not (e.user_data_64 == stored.user_data_64), outcome.ExistsWithDifferentUserData64)
    ∷ (not (e.user_data_32 == stored.user_data_32), outcome.ExistsWithDifferentUserData32)
    ∷ (not (e.ledger == stored.ledger), outcome.ExistsWithDifferentLedger)
    ∷ (not (e.code == stored.code), outcome.ExistsWithDifferentCode)
    ∷ (not (e.timeout == stored.timeout), outcome.ExistsWithDifferentTimeout)
    ∷ []

-- a transfer event as it is compared with a stored one: a post or void filled in from its pending transfer
abbrev pub compared : List Entry → Transfer → Transfer
compared journal e =
    if is_settling e then option_map_or (λ pending. filled_in pending e) (transfer_with_id journal e.pending_id) e else e

-- the result of a transfer event whose id is in use: it is compared with the stored transfer, or the id failed before
abbrev pub used_id_fault : List Entry → Transfer → Option Outcome
used_id_fault journal e =
    option_map_or (λ stored. Some (repeated (transfer_differences (compared journal e) stored))) (transfer_with_id journal e.id)
    (if is_failed journal e.id then Some outcome.IdAlreadyFailed else None)

-- the ledger of the stored account with this id, 0 where there is none
abbrev pub ledger_of : List Entry → ℕ → ℕ
ledger_of journal id = option_map_or (λ account. account.ledger) (account_with_id journal id) 0

-- whether the stored account with this id has a limit
abbrev pub has_limit : (Account → Bool) → List Entry → ℕ → Bool
has_limit limits journal id = option_map_or limits (account_with_id journal id) false

-- what can keep the accounts of a moving transfer from taking it
abbrev pub sides_faults : List Entry → ℕ → Transfer → List (Bool × Outcome)
sides_faults journal timestamp e =
    let debit = e.debit_account_id in
    let credit = e.credit_account_id in
    let debits_pending = pending_on journal Debit debit in
    let debits_posted = posted_on journal Debit debit in
    let credits_pending = pending_on journal Credit credit in
    let credits_posted = posted_on journal Credit credit in
    (is_none (account_with_id journal debit), outcome.DebitAccountNotFound)
    ∷ (is_none (account_with_id journal credit), outcome.CreditAccountNotFound)
    ∷ (not (ledger_of journal debit == ledger_of journal credit), outcome.AccountsMustHaveTheSameLedger)
    ∷ (not (e.ledger == ledger_of journal debit), outcome.TransferMustHaveTheSameLedgerAsAccounts)
    ∷ (is_closed_at journal debit, outcome.DebitAccountAlreadyClosed)
    ∷ (is_closed_at journal credit, outcome.CreditAccountAlreadyClosed)
    ∷ (is_pending e && nat_lt greatest_amount (debits_pending + e.amount), outcome.OverflowsDebitsPending)
    ∷ (is_pending e && nat_lt greatest_amount (credits_pending + e.amount), outcome.OverflowsCreditsPending)
    ∷ (nat_lt greatest_amount (debits_posted + e.amount), outcome.OverflowsDebitsPosted)
    ∷ (nat_lt greatest_amount (credits_posted + e.amount), outcome.OverflowsCreditsPosted)
    ∷ (nat_lt greatest_amount (debits_pending + debits_posted + e.amount), outcome.OverflowsDebits)
    ∷ (nat_lt greatest_amount (credits_pending + credits_posted + e.amount), outcome.OverflowsCredits)
    ∷ (not (e.timeout == 0) && nat_lt last_timestamp (expiry_of timestamp e.timeout), outcome.OverflowsTimeout)
    ∷ (
      has_limit limits_debits journal debit
          && nat_lt (posted_on journal Credit debit) (debits_pending + debits_posted + e.amount),
      outcome.ExceedsCredits,
    )
    ∷ (
      has_limit limits_credits journal credit
          && nat_lt (posted_on journal Debit credit) (credits_pending + credits_posted + e.amount),
      outcome.ExceedsDebits,
    )
    ∷ []

-- whether a field that is given, so isn't 0, isn't the pending transfer's
abbrev pub contradicts : ℕ → ℕ → Bool
contradicts pending own = not (own == 0) && not (own == pending)

abbrev pub is_posted_status : Status → Bool
is_posted_status status.Posted = true
is_posted_status _ = false

abbrev pub is_voided_status : Status → Bool
is_voided_status status.Voided = true
is_voided_status _ = false

abbrev pub is_expired_status : Status → Bool
is_expired_status status.Expired = true
is_expired_status _ = false

-- whether the time of a pending transfer is over at this moment, whether or not an entry says so
abbrev pub is_overdue : ℕ → Transfer → Bool
is_overdue moment pending = not (pending.timeout == 0) && nat_le (expires_at pending) moment

-- what of a post or void can fail to fit the pending transfer that it names
abbrev pub mismatches : Transfer → Transfer → List (Bool × Outcome)
mismatches pending e =
    (not (is_pending pending), outcome.PendingTransferNotPending)
    ∷ (contradicts pending.debit_account_id e.debit_account_id, outcome.PendingTransferHasDifferentDebitAccountId)
    ∷ (contradicts pending.credit_account_id e.credit_account_id, outcome.PendingTransferHasDifferentCreditAccountId)
    ∷ (contradicts pending.ledger e.ledger, outcome.PendingTransferHasDifferentLedger)
    ∷ (contradicts pending.code e.code, outcome.PendingTransferHasDifferentCode)
    ∷ (nat_lt pending.amount (settled_amount pending e), outcome.ExceedsPendingTransferAmount)
    ∷ (is_void e && nat_lt (settled_amount pending e) pending.amount, outcome.PendingTransferHasDifferentAmount)
    ∷ []

-- what can have become of a pending transfer that keeps it from being posted or voided at this moment
abbrev pub status_faults : List Entry → ℕ → Transfer → List (Bool × Outcome)
status_faults journal moment pending =
    let status = status_of journal pending in
    (is_posted_status status, outcome.PendingTransferAlreadyPosted)
    ∷ (is_voided_status status, outcome.PendingTransferAlreadyVoided)
    ∷ (is_expired_status status || is_overdue moment pending, outcome.PendingTransferExpired)
    ∷ []

-- which account of a pending transfer can be closed, so that it can't be posted; it can be voided
abbrev pub closed_faults : List Entry → Transfer → Transfer → List (Bool × Outcome)
closed_faults journal e pending =
    (is_post e && is_closed_at journal pending.debit_account_id, outcome.DebitAccountAlreadyClosed)
    ∷ (is_post e && is_closed_at journal pending.credit_account_id, outcome.CreditAccountAlreadyClosed)
    ∷ []

-- what can keep a pending transfer from being posted or voided
abbrev pub pending_faults : List Entry → ℕ → Transfer → Transfer → List (Bool × Outcome)
pending_faults journal timestamp e pending =
    mismatches pending e ++ status_faults journal timestamp pending ++ closed_faults journal e pending

-- what can be wrong with a post or void that names this pending transfer, if one is stored
abbrev pub named_fault : List Entry → ℕ → Transfer → Option Transfer → Option Outcome
named_fault journal timestamp e None = Some outcome.PendingTransferNotFound
named_fault journal timestamp e (Some pending) = first_fault (pending_faults journal timestamp e pending)

-- the verdict on a post or void
abbrev pub settling_verdict : List Entry → ℕ → Transfer → Outcome
settling_verdict journal timestamp e = verdict_of (
    first_fault (transfer_faults e)
    ∷ first_fault (settling_faults e)
    ∷ used_id_fault journal e
    ∷ named_fault journal timestamp e (transfer_with_id journal e.pending_id)
    ∷ [])

-- the verdict on any other transfer
abbrev pub moving_verdict : List Entry → ℕ → Transfer → Outcome
moving_verdict journal timestamp e = verdict_of (
    first_fault (transfer_faults e)
    ∷ first_fault (moving_faults e)
    ∷ used_id_fault journal e
    ∷ first_fault (sides_faults journal timestamp e)
    ∷ [])

-- the verdict on a transfer event, judged at this timestamp after the journal
abbrev pub transfer_verdict : List Entry → ℕ → Transfer → Outcome
transfer_verdict journal timestamp e =
    if is_settling e then settling_verdict journal timestamp e else moving_verdict journal timestamp e
