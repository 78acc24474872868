-- What is known of a batch of either kind that was run, or refused before it.
use mathlib.Core.List.{IsPrefix}
use Rattle.std.proofs.Common.{◌≡◌, ℕ, ◌+◌, ◌≤◌, List, Option, Some, None, refl, sym, subst, ap, arith, length}
use Rattle.std.specs.Prelude.{Result, Ok, Err, OnOk, OnErr, IfOk, IfErr, MatchOption}
use Rattle.tf_records.specs.declared.refusal.Refusal.{Refusal}
use Rattle.tf_records.specs.declared.refusal.Refusal.TheVariants.{NoMemory}
use Rattle.tf_records.specs.declared.reply.Failure.{Failure}
use Rattle.tf_journal.specs.declared.entry.Entry.{Entry}
use Rattle.tf_journal.specs.Lawful.{IsLawfulAt}
use Rattle.tf_journal.specs.Ledger.{IsUnchanged}
use Rattle.tf_events.specs.Batch.{IsBatchRun, batch_refusal}
use Rattle.tf_events.specs.Chain as kind
use Rattle.tf_store.specs.Book.{book_of}
use Rattle.tf_store.specs.Receipt.{Batch, accounts, transfers, IsRun, count_of, step_of}
use Rattle.tf_store.proofs.Counting.{begins_itself, book_begins, step_grew}

ok_not_err : {X : Type 0} (x : X) (fault : Refusal) → Ok x ≡ Err fault → ⊥
ok_not_err x fault is = cc

module _ {L : Type 0} (journal_of : L → List Entry) (clock_of kept_of : L → ℕ) (old new : L) where
  -- what a run leaves and answers
  pub record Facts (events : Batch) (now : ℕ) (result : Result (List Failure) Refusal) : Type 0 where
    pub refused : MatchOption (batch_refusal (clock_of old) (count_of events) now) (IfErr result (λ fault. fault ≡ NoMemory)) (λ fault. result ≡ Err fault)
    pub reply : IfOk result (λ reply. reply ≡ (step_of events (journal_of old) (clock_of old) now).failures)
    pub stored : OnOk result (journal_of new ≡ (step_of events (journal_of old) (clock_of old) now).journal)
    pub kept : OnOk result (kept_of new ≡ length (journal_of new))
    pub unchanged : OnErr result (IsUnchanged journal_of clock_of kept_of old new)
    pub lawful : IsLawfulAt (clock_of new) (journal_of new)

  pub facts : (events : Batch) (now : ℕ) (result : Result (List Failure) Refusal) → IsRun journal_of clock_of kept_of old new events now result → Facts events now result
  facts (accounts events) now result run = record {
    refused = run.refused;
    reply = run.reply;
    stored = run.stored;
    kept = run.kept;
    unchanged = run.unchanged;
    lawful = run.lawful;
  }
  facts (transfers events) now result run = record {
    refused = run.refused;
    reply = run.reply;
    stored = run.stored;
    kept = run.kept;
    unchanged = run.unchanged;
    lawful = run.lawful;
  }

  -- the journal goes on, whatever the batch answers
  pub begins : (events : Batch) (now : ℕ) (result : Result (List Failure) Refusal) → IsRun journal_of clock_of kept_of old new events now result → IsPrefix (journal_of old) (journal_of new)
  begins events now (Ok reply) run =
      let f = facts events now (Ok reply) run in
      subst (IsPrefix (journal_of old)) (sym f.stored) (step_grew events (journal_of old) (clock_of old) now).begins
  begins events now (Err fault) run =
      let f = facts events now (Err fault) run in
      subst (IsPrefix (journal_of old)) (sym f.unchanged.journal) (begins_itself (journal_of old))

  -- the events that the reply doesn't name are counted
  pub counts : (events : Batch) (now : ℕ) (reply : List Failure) → IsRun journal_of clock_of kept_of old new events now (Ok reply)
      → book_of (journal_of new) + length reply ≡ book_of (journal_of old) + count_of events
  counts events now reply run =
      let f = facts events now (Ok reply) run in
      let step = step_of events (journal_of old) (clock_of old) now in
      let grew = step_grew events (journal_of old) (clock_of old) now in
      omega (arith, grew.all, ap book_of f.stored, ap length f.reply)

  pub fits : (events : Batch) (now : ℕ) (reply : List Failure) → IsRun journal_of clock_of kept_of old new events now (Ok reply) → length reply ≤ count_of events
  fits events now reply run =
      omega (arith, counts events now reply run, book_begins (journal_of old) (journal_of new) (begins events now (Ok reply) run))

  -- nothing was due that would refuse it
  pub not_due : (events : Batch) (now : ℕ) (reply : List Failure) → IsRun journal_of clock_of kept_of old new events now (Ok reply) → batch_refusal (clock_of old) (count_of events) now ≡ None
  not_due events now reply run = go (batch_refusal (clock_of old) (count_of events) now) refl (facts events now (Ok reply) run).refused where
    go : (due : Option Refusal) → due ≡ batch_refusal (clock_of old) (count_of events) now
        → MatchOption due (IfErr (Ok reply) (λ fault. fault ≡ NoMemory)) (λ fault. Ok reply ≡ Err fault) → batch_refusal (clock_of old) (count_of events) now ≡ None
    go None is refused = sym is
    go (Some fault) is refused = absurd (ok_not_err reply fault refused)

-- a refusal, as what a batch answers
abbrev answer : Refusal → Result (List Failure) Refusal
answer fault = Err fault

module _ {L : Type 0} (journal_of : L → List Entry) (clock_of kept_of : L → ℕ) (ledger : L) where
  pub refused : {E : Type 0} (kind : kind.Kind E) (events : List E) (now : ℕ) (fault : Refusal) → IsLawfulAt (clock_of ledger) (journal_of ledger)
      → MatchOption (batch_refusal (clock_of ledger) (length events) now) (fault ≡ NoMemory) (λ due. fault ≡ due)
      → IsBatchRun kind journal_of clock_of kept_of ledger ledger events now (Err fault)
  refused kind events now fault lawful due = record {
    refused = go (batch_refusal (clock_of ledger) (length events) now) due;
    reply = tt;
    stored = tt;
    clock = tt;
    kept = tt;
    unchanged = record { journal = refl; clock = refl; kept = refl };
    lawful = lawful;
  } where
    go : (option : Option Refusal) → MatchOption option (fault ≡ NoMemory) (λ due. fault ≡ due)
        → MatchOption option (IfErr (answer fault) (λ f. f ≡ NoMemory)) (λ due. answer fault ≡ Err due)
    go None is = is
    go (Some due) is = ap answer is

  -- a refusal before a batch is run
  pub not_run : (events : Batch) (now : ℕ) (fault : Refusal) → IsLawfulAt (clock_of ledger) (journal_of ledger)
      → MatchOption (batch_refusal (clock_of ledger) (count_of events) now) (fault ≡ NoMemory) (λ due. fault ≡ due)
      → IsRun journal_of clock_of kept_of ledger ledger events now (Err fault)
  not_run (accounts events) now fault lawful due = refused kind.accounts events now fault lawful due
  not_run (transfers events) now fault lawful due = refused kind.transfers events now fault lawful due
