-- Entries of tests can be added: all that is asked of them computes.
use Rattle.std.proofs.Common.{◌≡◌, ℕ, ◌-◌, ◌^◌, ◌<◌, ◌≤◌, Bool, true, false, ◌&&◌, List, [], ◌∷◌, ◌++◌, Some, None, nat_lt, nat_le, refl, lit<}
use Rattle.std.specs.List.{All}
use Rattle.std.proofs.lemmas.Bool.{false≢true, ltb-true, leb-true}
use Rattle.std.proofs.lemmas.List.Elements.{All-cons, All-nil}
use Rattle.tf_records.specs.declared.account.Account.{Account}
use Rattle.tf_records.specs.declared.transfer.Transfer.{Transfer}
use Rattle.tf_records.specs.declared.outcome.Outcome.TheVariants as outcome
use Rattle.tf_journal.specs.declared.entry.Entry.{Entry}
use Rattle.tf_journal.specs.declared.entry.Entry.TheVariants as entry
use Rattle.tf_journal.specs.Fits.{FitsAccount, FitsTransfer}
use Rattle.tf_journal.specs.Journal.{IsJournal, is_failed, IsRisingFrom, IsUpTo, last_timestamp, timestamp_of}
use Rattle.tf_journal.specs.Ledger.{CanGrow}
use Rattle.tf_journal.specs.Lookup.{transfer_with_id}
use Rattle.tf_journal.specs.Due.{next_due_of}
use Rattle.tf_journal.specs.Stored.{stored_account, stored_transfer}
use Rattle.tf_journal.specs.Verdict.{account_verdict, greatest_id, transfer_verdict}

both : (a b : Bool) → (a && b) ≡ true → (a ≡ true) × (b ≡ true)
both true b h = (refl, h)
both false b h = absurd (false≢true h)

-- timestamps rise from this one on, and are in range
abbrev pub rises : ℕ → List Entry → Bool
rises low [] = true
rises low (e ∷ journal) = (nat_lt low (timestamp_of e) && nat_le (timestamp_of e) last_timestamp) && rises (timestamp_of e) journal

journal_from : (low : ℕ) (journal : List Entry) → rises low journal ≡ true → IsRisingFrom low journal × IsUpTo last_timestamp journal
journal_from low [] h = (tt, All-nil (λ e. timestamp_of e ≤ last_timestamp))
journal_from low (e ∷ journal) h =
    let parts = both (nat_lt low (timestamp_of e) && nat_le (timestamp_of e) last_timestamp) (rises (timestamp_of e) journal) h in
    let here = both (nat_lt low (timestamp_of e)) (nat_le (timestamp_of e) last_timestamp) parts.0 in
    let rest = journal_from (timestamp_of e) journal parts.1 in (
      (ltb-true low (timestamp_of e) here.0, rest.0),
      All-cons (λ x. timestamp_of x ≤ last_timestamp) e journal (leb-true (timestamp_of e) last_timestamp here.1) rest.1,
    )

pub journal_by : (journal : List Entry) → rises 0 journal ≡ true → IsJournal journal
journal_by journal h = let is = journal_from 0 journal h in record { rising = is.0; in_range = is.1 }

-- whether numbers are all below a power of two
abbrev pub are_below : ℕ → List ℕ → Bool
are_below bits [] = true
are_below bits (x ∷ xs) = nat_lt x (2 ^ bits) && are_below bits xs

below : (bits : ℕ) (xs : List ℕ) → are_below bits xs ≡ true → All (λ x. x < 2 ^ bits) xs
below bits [] h = All-nil (λ x. x < 2 ^ bits)
below bits (x ∷ xs) h =
    let parts = both (nat_lt x (2 ^ bits)) (are_below bits xs) h in
    All-cons (λ y. y < 2 ^ bits) x xs (ltb-true x (2 ^ bits) parts.0) (below bits xs parts.1)

-- whether the fields of a transfer fit their types
abbrev pub fits_transfer : Transfer → Bool
fits_transfer t =
    (are_below 128 (t.id ∷ t.debit_account_id ∷ t.credit_account_id ∷ t.amount ∷ t.pending_id ∷ t.user_data_128 ∷ [])
    && are_below 64 (t.user_data_64 ∷ t.timestamp ∷ []))
    && (are_below 32 (t.user_data_32 ∷ t.timeout ∷ t.ledger ∷ []) && are_below 16 (t.code ∷ t.flags ∷ []))

transfer_fits : (t : Transfer) → fits_transfer t ≡ true → FitsTransfer t
transfer_fits t h =
    let halves = both _ _ h in
    let long = both _ _ halves.0 in
    let short = both _ _ halves.1 in
    let b128 = below 128 (t.id ∷ t.debit_account_id ∷ t.credit_account_id ∷ t.amount ∷ t.pending_id ∷ t.user_data_128 ∷ []) long.0 in
    let b64 = below 64 (t.user_data_64 ∷ t.timestamp ∷ []) long.1 in
    let b32 = below 32 (t.user_data_32 ∷ t.timeout ∷ t.ledger ∷ []) short.0 in
    let b16 = below 16 (t.code ∷ t.flags ∷ []) short.1 in
    record {
      id = b128 0 0 (lit< tt);
      debit_account_id = b128 1 0 (lit< tt);
      credit_account_id = b128 2 0 (lit< tt);
      amount = b128 3 0 (lit< tt);
      pending_id = b128 4 0 (lit< tt);
      user_data_128 = b128 5 0 (lit< tt);
      user_data_64 = b64 0 0 (lit< tt);
      user_data_32 = b32 0 0 (lit< tt);
      timeout = b32 1 0 (lit< tt);
      ledger = b32 2 0 (lit< tt);
      code = b16 0 0 (lit< tt);
      flags = b16 1 0 (lit< tt);
      timestamp = b64 1 0 (lit< tt);
    }

-- whether the fields of an account fit their types
abbrev pub fits_account : Account → Bool
fits_account a =
    (are_below 128 (a.id ∷ a.debits_pending ∷ a.debits_posted ∷ a.credits_pending ∷ a.credits_posted ∷ a.user_data_128 ∷ [])
    && are_below 64 (a.user_data_64 ∷ a.timestamp ∷ []))
    && (are_below 32 (a.user_data_32 ∷ a.reserved ∷ a.ledger ∷ []) && are_below 16 (a.code ∷ a.flags ∷ []))

account_fits : (a : Account) → fits_account a ≡ true → FitsAccount a
account_fits a h =
    let halves = both _ _ h in
    let long = both _ _ halves.0 in
    let short = both _ _ halves.1 in
    let b128 = below 128 (a.id ∷ a.debits_pending ∷ a.debits_posted ∷ a.credits_pending ∷ a.credits_posted ∷ a.user_data_128 ∷ []) long.0 in
    let b64 = below 64 (a.user_data_64 ∷ a.timestamp ∷ []) long.1 in
    let b32 = below 32 (a.user_data_32 ∷ a.reserved ∷ a.ledger ∷ []) short.0 in
    let b16 = below 16 (a.code ∷ a.flags ∷ []) short.1 in
    record {
      id = b128 0 0 (lit< tt);
      debits_pending = b128 1 0 (lit< tt);
      debits_posted = b128 2 0 (lit< tt);
      credits_pending = b128 3 0 (lit< tt);
      credits_posted = b128 4 0 (lit< tt);
      user_data_128 = b128 5 0 (lit< tt);
      user_data_64 = b64 0 0 (lit< tt);
      user_data_32 = b32 0 0 (lit< tt);
      reserved = b32 1 0 (lit< tt);
      ledger = b32 2 0 (lit< tt);
      code = b16 0 0 (lit< tt);
      flags = b16 1 0 (lit< tt);
      timestamp = b64 1 0 (lit< tt);
    }

-- an account, a transfer, an expiry and a failed id of a test can be added: each premise is shown by `refl`
pub account_grows : (journal : List Entry) (event account : Account) → rises 0 (journal ++ entry.Account account ∷ []) ≡ true → fits_account event ≡ true
    → account_verdict journal account.timestamp event ≡ outcome.Ok → stored_account journal account.timestamp event ≡ account
    → CanGrow journal (entry.Account account)
account_grows journal event account rising fits accepted stored = record {
  is_journal = journal_by (journal ++ entry.Account account ∷ []) rising;
  admitted = record { event = event; fits = account_fits event fits; accepted = accepted; stored = stored };
}

pub transfer_grows : (journal : List Entry) (event transfer : Transfer) → rises 0 (journal ++ entry.Transfer transfer ∷ []) ≡ true
    → fits_transfer event ≡ true → transfer_verdict journal transfer.timestamp event ≡ outcome.Ok
    → stored_transfer journal transfer.timestamp event ≡ transfer → CanGrow journal (entry.Transfer transfer)
transfer_grows journal event transfer rising fits accepted stored = record {
  is_journal = journal_by (journal ++ entry.Transfer transfer ∷ []) rising;
  admitted = record { event = event; fits = transfer_fits event fits; accepted = accepted; stored = stored };
}

pub expiry_grows : (journal : List Entry) (timestamp pending : ℕ) (transfer : Transfer) → rises 0 (journal ++ entry.Expiry timestamp pending ∷ []) ≡ true
    → next_due_of journal (timestamp - 1) ≡ Some transfer → transfer.timestamp ≡ pending → CanGrow journal (entry.Expiry timestamp pending)
expiry_grows journal timestamp pending transfer rising next is = record {
  is_journal = journal_by (journal ++ entry.Expiry timestamp pending ∷ []) rising;
  admitted = record { transfer = transfer; next = next; is = is };
}

pub failed_grows : (journal : List Entry) (timestamp id : ℕ) → rises 0 (journal ++ entry.Failed timestamp id ∷ []) ≡ true
    → (nat_lt 0 id && nat_lt id greatest_id) ≡ true → transfer_with_id journal id ≡ None → is_failed journal id ≡ false → CanGrow journal (entry.Failed timestamp id)
failed_grows journal timestamp id rising in_range not_stored not_failed =
    let parts = both (nat_lt 0 id) (nat_lt id greatest_id) in_range in
    record {
      is_journal = journal_by (journal ++ entry.Failed timestamp id ∷ []) rising;
      admitted = record {
        not_zero = ltb-true 0 id parts.0;
        not_greatest = ltb-true id greatest_id parts.1;
        not_stored = not_stored;
        not_failed = not_failed;
      };
    }
