-- How a batch is walked: chain by chain, and event by event within a chain.
use Rattle.std.specs.Prelude.{◌≡◌, ℕ, ◌+◌, ◌≤◌, List, [], ◌∷◌, ◌++◌, length, true, false, Result, IfErr, if◌then◌else◌}
use Rattle.std.specs.List.{All}
use Rattle.tf_records.specs.declared.outcome.Outcome.{Outcome}
use Rattle.tf_records.specs.declared.outcome.Outcome.TheVariants as outcome
use Rattle.tf_records.specs.declared.refusal.Refusal.{Refusal}
use Rattle.tf_records.specs.declared.refusal.Refusal.TheVariants.{NoMemory}
use Rattle.tf_records.specs.declared.reply.Failure.{Failure}
use Rattle.tf_journal.specs.declared.entry.Entry.{Entry}
use Rattle.tf_journal.specs.Journal.{IsUpTo, timestamp_of}
use Rattle.tf_journal.specs.Lawful.{IsAdmitted, IsSound, is_linked_entry, are_of_one_kind}
use Rattle.tf_journal.specs.Verdict.{is_accepted}
use Rattle.tf_events.specs.declared.own_fault.OwnFault.{OwnFault}
use Rattle.tf_events.specs.Chain.{Kind, OwnFailure, Step}

-- how many of these events their first chain has
abbrev pub chain_length : {E : Type 0} → Kind E → List E → ℕ
chain_length kind [] = 0
chain_length kind (e ∷ events) = if kind.linked e then chain_length kind events + 1 else 1

-- an event that failed by itself, as the definitions see it
abbrev pub own_failure_of : {E : Type 0} → OwnFault E → OwnFailure E
own_failure_of fault = record {
  failed = record { index = fault.index; timestamp = fault.timestamp; event = fault.event };
  outcome = fault.outcome;
}

-- a journal goes on with further entries
pub record Extends (journal longer : List Entry) : Type 0 where
  pub more : List Entry
  pub is : longer ≡ journal ++ more

-- a sound journal, none of whose entries is younger than a moment
pub record IsSoundAt (moment : ℕ) (journal : List Entry) : Type 0 where
  pub sound : IsSound journal
  pub up_to : IsUpTo moment journal

-- what a kind of event keeps of its events: an entry has the event's timestamp and link, the entries of a kind are of
-- one kind, and a failure leaves at most one entry, which has the event's timestamp and no link
pub record KeepsEvents {E : Type 0} (kind : Kind E) : Type 0 where
  pub timestamp : (journal : List Entry) (timestamp : ℕ) (e : E) → timestamp_of (kind.entry journal timestamp e) ≡ timestamp
  pub linked : (journal : List Entry) (timestamp : ℕ) (e : E) → is_linked_entry (kind.entry journal timestamp e) ≡ kind.linked e
  pub one_kind : (first second : List Entry) (s t : ℕ) (e f : E) → are_of_one_kind (kind.entry first s e) (kind.entry second t f) ≡ true
  pub one_left : (timestamp : ℕ) (e : E) (o : Outcome) → length (kind.left_by timestamp e o) ≤ 1
  pub left : (timestamp : ℕ) (e : E) (o : Outcome) → All (λ entry. timestamp_of entry ≡ timestamp) (kind.left_by timestamp e o)
  pub unlinked : (timestamp : ℕ) (e : E) (o : Outcome) → All (λ entry. is_linked_entry entry ≡ false) (kind.left_by timestamp e o)

-- an event is accepted, and stored as this entry
pub record IsAccepted {E : Type 0} (kind : Kind E) (journal : List Entry) (timestamp : ℕ) (e : E) (entry : Entry) : Type 0 where
  pub verdict : kind.verdict journal timestamp e ≡ outcome.Ok
  pub entry_is : entry ≡ kind.entry journal timestamp e
  pub admitted : IsAdmitted journal entry

-- an event has this outcome, which isn't ok. What it leaves is admitted by the journal, and by each beginning of it
pub record IsRefused {E : Type 0} (kind : Kind E) (journal : List Entry) (timestamp : ℕ) (e : E) (o : Outcome) : Type 0 where
  pub verdict : kind.verdict journal timestamp e ≡ o
  pub refused : is_accepted o ≡ false
  pub left : (earlier : List Entry) → Extends earlier journal → All (IsAdmitted earlier) (kind.left_by timestamp e o)

-- the journal went on, clock and kept length are as before, and a refusal is want of memory
pub record GoesOn {L X : Type 0} (journal_of : L → List Entry) (clock_of kept_of : L → ℕ) (old new : L) (result : Result X Refusal) : Type 0 where
  pub extends : Extends (journal_of old) (journal_of new)
  pub refusal : IfErr result (λ refusal. refusal ≡ NoMemory)
  pub clock : clock_of new ≡ clock_of old
  pub kept : kept_of new ≡ kept_of old

-- a step was taken: its journal is there, its failures are noted behind those before
pub record IsStepTaken (step : Step) (journal : List Entry) (before noted : List Failure) : Type 0 where
  pub stored : journal ≡ step.journal
  pub failures : noted ≡ before ++ step.failures
