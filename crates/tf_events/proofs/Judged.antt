-- How events are judged: what an accepted one is stored as, and what a refused one leaves.
use Rattle.std.proofs.Common.{◌≡◌, ℕ, List, [], ◌∷◌, Bool, true, false, refl, ap, sym, subst}
use Rattle.std.specs.Prelude.{if◌then◌else◌}
use Rattle.std.specs.List.{All}
use Rattle.std.proofs.lemmas.List.Elements.{All-cons, All-nil}
use Rattle.tf_records.specs.declared.account.Account.{Account}
use Rattle.tf_records.specs.declared.outcome.Outcome.{Outcome}
use Rattle.tf_records.specs.declared.outcome.Outcome.TheVariants as outcome
use Rattle.tf_records.specs.declared.transfer.Transfer.{Transfer}
use Rattle.tf_journal.specs.declared.entry.Entry.{Entry}
use Rattle.tf_journal.specs.declared.entry.Entry.TheVariants as entry
use Rattle.tf_journal.specs.Fits.{FitsAccount, FitsTransfer}
use Rattle.tf_journal.specs.Lawful.{IsAdmitted, IsAdmittedAccount, IsAdmittedTransfer}
use Rattle.tf_journal.specs.Stored.{stored_account, stored_transfer}
use Rattle.tf_journal.specs.Verdict.{account_verdict, is_accepted, is_transient, transfer_verdict}
use Rattle.tf_journal.proofs.Before.{passing_admitted}
use Rattle.tf_events.specs.Chain.{accounts, transfers}
use Rattle.tf_events.specs.Walk.{Extends, IsAccepted, IsRefused}
use Rattle.tf_events.specs.Keeping.{stored_timestamp}

-- an accepted account is stored as an entry that the journal admits
pub account_accepted : (journal : List Entry) (timestamp : ℕ) (e record_of : Account) → FitsAccount e → account_verdict journal timestamp e ≡ outcome.Ok
    → record_of ≡ stored_account journal timestamp e → IsAccepted accounts journal timestamp e (entry.Account record_of)
account_accepted journal timestamp e record_of fits ok stored =
    let admitted : IsAdmittedAccount journal (stored_account journal timestamp e) = record { event = e; fits = fits; accepted = ok; stored = refl } in
    record {
      verdict = ok;
      entry_is = ap entry.Account stored;
      admitted = subst (IsAdmittedAccount journal) (sym stored) admitted;
    }

-- and so is an accepted transfer
pub transfer_accepted : (journal : List Entry) (timestamp : ℕ) (e record_of : Transfer) → FitsTransfer e → transfer_verdict journal timestamp e ≡ outcome.Ok
    → record_of ≡ stored_transfer journal timestamp e → IsAccepted transfers journal timestamp e (entry.Transfer record_of)
transfer_accepted journal timestamp e record_of fits ok stored =
    let at = stored_timestamp journal timestamp e in
    let admitted : IsAdmittedTransfer journal (stored_transfer journal timestamp e) = record {
      event = e;
      fits = fits;
      accepted = subst (λ t. transfer_verdict journal t e ≡ outcome.Ok) (sym at) ok;
      stored = ap (λ t. stored_transfer journal t e) at;
    } in
    record {
      verdict = ok;
      entry_is = ap entry.Transfer stored;
      admitted = subst (IsAdmittedTransfer journal) (sym stored) admitted;
    }

-- what a failed transfer leaves is admitted by each beginning of the journal
left_admitted : (earlier journal : List Entry) (timestamp : ℕ) (e : Transfer) (o : Outcome) → FitsTransfer e → transfer_verdict journal timestamp e ≡ o
    → Extends earlier journal → (transient : Bool) → is_transient o ≡ transient → All (IsAdmitted earlier) (if transient then entry.Failed timestamp e.id ∷ [] else [])
left_admitted earlier journal timestamp e o fits is extends true transient =
    All-cons (IsAdmitted earlier) (entry.Failed timestamp e.id) []
    (passing_admitted earlier extends.more timestamp e o fits (subst (λ j. transfer_verdict j timestamp e ≡ o) extends.is is) transient)
    (All-nil (IsAdmitted earlier))
left_admitted earlier journal timestamp e o fits is extends false transient = All-nil (IsAdmitted earlier)

-- a transfer that is refused
pub transfer_refused : (journal : List Entry) (timestamp : ℕ) (e : Transfer) (o : Outcome) → FitsTransfer e → transfer_verdict journal timestamp e ≡ o → is_accepted o ≡ false
    → IsRefused transfers journal timestamp e o
transfer_refused journal timestamp e o fits is refused = record {
  verdict = is;
  refused = refused;
  left = λ earlier extends. left_admitted earlier journal timestamp e o fits is extends (is_transient o) refl;
}
