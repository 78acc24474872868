-- Batches: chains of events, one after another.
use Rattle.std.specs.Prelude.{◌≡◌, ℕ, ◌+◌, max, nat_lt, List, [], ◌∷◌, ◌++◌, length, Option, Some, None, Result, Err, OnOk, OnErr, IfOk, IfErr, MatchOption, if◌then◌else◌}
use Rattle.tf_records.specs.declared.refusal.Refusal.{Refusal}
use Rattle.tf_records.specs.declared.refusal.Refusal.TheVariants as refusal
use Rattle.tf_records.specs.declared.reply.Failure.{Failure}
use Rattle.tf_journal.specs.declared.entry.Entry.{Entry}
use Rattle.tf_journal.specs.Journal.{last_timestamp}
use Rattle.tf_journal.specs.Lawful.{IsLawfulAt}
use Rattle.tf_journal.specs.Ledger.{IsUnchanged}
use Rattle.tf_events.specs.Chain.{Kind, Placed, Chain, Step, chain_step}

-- the most events of a batch
abbrev pub most_events : ℕ
most_events = 8190

-- events in their places: the first has this index and this timestamp, and both rise by one
abbrev pub placed : {E : Type 0} → ℕ → ℕ → List E → List (Placed E)
placed index timestamp [] = []
placed index timestamp (e ∷ events) =
    record { index = index; timestamp = timestamp; event = e } ∷ placed (index + 1) (timestamp + 1) events

-- the chains of events, the first of which has begun with these: each ends with the first event that isn't linked,
-- and the last is open where the last event is linked
abbrev pub chains_from : {E : Type 0} → Kind E → List (Placed E) → List (Placed E) → List (Chain E)
chains_from kind begun [] = []
chains_from kind begun (e ∷ []) =
    (if kind.linked e.event then record { events = begun; open_end = Some e }
    else record { events = begun ++ e ∷ []; open_end = None }) ∷ []
chains_from kind begun (e ∷ f ∷ events) =
    if kind.linked e.event then chains_from kind (begun ++ e ∷ []) (f ∷ events)
    else record { events = begun ++ e ∷ []; open_end = None } ∷ chains_from kind [] (f ∷ events)

-- events cut into chains
abbrev pub chains_of : {E : Type 0} → Kind E → List (Placed E) → List (Chain E)
chains_of kind events = chains_from kind [] events

-- the steps of chains, one after another
abbrev pub chains_step : {E : Type 0} → Kind E → List Entry → List (Chain E) → Step
chains_step kind journal [] = record { journal = journal; failures = [] }
chains_step kind journal (chain ∷ chains) =
    let step = chain_step kind journal chain in
    let rest = chains_step kind step.journal chains in
    record { journal = rest.journal; failures = step.failures ++ rest.failures }

-- a batch's step from a journal and a clock: event i has the timestamp of the later of the clock and now, plus i + 1
abbrev pub batch_step : {E : Type 0} → Kind E → List Entry → ℕ → List E → ℕ → Step
batch_step kind journal clock events now =
    chains_step kind journal (chains_of kind (placed 0 (max now clock + 1) events))

-- the clock after a batch of so many events
abbrev pub batch_clock : ℕ → ℕ → ℕ → ℕ
batch_clock clock count now = max now clock + count

-- why a batch of so many events is refused: it is too large, else the clock has no timestamps left for it
abbrev pub batch_refusal : ℕ → ℕ → ℕ → Option Refusal
batch_refusal clock count now =
    if nat_lt most_events count then Some refusal.BatchTooLarge
    else if nat_lt last_timestamp (batch_clock clock count now) then Some refusal.ClockExhausted
    else None

-- a batch was run: its refusal is the one that is due, if one is, and else only want of memory; what it stored and
-- answered is its step's, and stands for good; a refusal left all as it was
pub record IsBatchRun {E L : Type 0} (kind : Kind E) (journal_of : L → List Entry) (clock_of kept_of : L → ℕ) (old new : L) (events : List E) (now : ℕ) (result : Result (List Failure) Refusal) : Type 0 where
  pub refused : MatchOption (batch_refusal (clock_of old) (length events) now)
      (IfErr result (λ fault. fault ≡ refusal.NoMemory)) (λ fault. result ≡ Err fault)
  pub reply : IfOk result (λ reply. reply ≡ (batch_step kind (journal_of old) (clock_of old) events now).failures)
  pub stored : OnOk result (journal_of new ≡ (batch_step kind (journal_of old) (clock_of old) events now).journal)
  pub clock : OnOk result (clock_of new ≡ batch_clock (clock_of old) (length events) now)
  pub kept : OnOk result (kept_of new ≡ length (journal_of new))
  pub unchanged : OnErr result (IsUnchanged journal_of clock_of kept_of old new)
  pub lawful : IsLawfulAt (clock_of new) (journal_of new)
