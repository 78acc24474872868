-- Chains: events that are stored all together, or not at all.
use Rattle.std.specs.Prelude.{ℕ, ◌==◌, List, [], ◌∷◌, ◌++◌, map, Option, Some, None, Bool, if◌then◌else◌}
use Rattle.tf_records.specs.declared.account.Account.{Account}
use Rattle.tf_records.specs.declared.transfer.Transfer.{Transfer}
use Rattle.tf_records.specs.declared.outcome.Outcome.{Outcome}
use Rattle.tf_records.specs.declared.outcome.Outcome.TheVariants.{LinkedEventFailed, LinkedEventChainOpen}
use Rattle.tf_records.specs.declared.reply.Failure.{Failure}
use Rattle.tf_journal.specs.declared.entry.Entry.{Entry}
use Rattle.tf_journal.specs.declared.entry.Entry.TheVariants as entry
use Rattle.tf_journal.specs.Flags.{is_linked}
use Rattle.tf_journal.specs.Stored.{stored_account, stored_transfer}
use Rattle.tf_journal.specs.Verdict.{account_verdict, transfer_verdict, is_accepted, is_transient}

-- a kind of event: whether one is linked with the next, how it is judged at a timestamp after a journal, as which
-- entry it is stored, and which entries a failure of its own leaves
pub record Kind (E : Type 0) : Type 0 where
  pub linked : E → Bool
  pub verdict : List Entry → ℕ → E → Outcome
  pub entry : List Entry → ℕ → E → Entry
  pub left_by : ℕ → E → Outcome → List Entry

abbrev pub accounts : Kind Account
accounts = record {
  linked = λ e. is_linked e.flags;
  verdict = account_verdict;
  entry = λ journal timestamp e. entry.Account (stored_account journal timestamp e);
  left_by = λ timestamp e outcome. [];
}

-- the id of a transfer that fails for a passing reason stays failed
abbrev pub transfers : Kind Transfer
transfers = record {
  linked = λ e. is_linked e.flags;
  verdict = transfer_verdict;
  entry = λ journal timestamp e. entry.Transfer (stored_transfer journal timestamp e);
  left_by = λ timestamp e outcome. if is_transient outcome then entry.Failed timestamp e.id ∷ [] else [];
}

-- an event in its place in a batch, with its timestamp
pub record Placed (E : Type 0) : Type 0 where
  pub index : ℕ
  pub timestamp : ℕ
  pub event : E

-- a chain: its events in their order; and where the batch ends within it, the batch's last event, linked with none
pub record Chain (E : Type 0) : Type 0 where
  pub events : List (Placed E)
  pub open_end : Option (Placed E)

-- an event that failed by itself, with its own result
pub record OwnFailure (E : Type 0) : Type 0 where
  pub failed : Placed E
  pub outcome : Outcome

-- what a step leaves: the journal, and the failed events by rising index
pub record Step : Type 0 where
  pub journal : List Entry
  pub failures : List Failure

-- the journal followed by the record of this event
abbrev pub with_event : {E : Type 0} → Kind E → List Entry → Placed E → List Entry
with_event kind journal e = journal ++ kind.entry journal e.timestamp e.event ∷ []

-- the journal followed by the records of these events
abbrev pub with_events : {E : Type 0} → Kind E → List Entry → List (Placed E) → List Entry
with_events kind journal [] = journal
with_events kind journal (e ∷ events) = with_events kind (with_event kind journal e) events

-- the first of these events that isn't ok after the journal and the events before it
abbrev pub first_failure : {E : Type 0} → Kind E → List Entry → List (Placed E) → Option (OwnFailure E)
first_failure kind journal [] = None
first_failure kind journal (e ∷ events) =
    if is_accepted (kind.verdict journal e.timestamp e.event) then first_failure kind (with_event kind journal e) events
    else Some (record { failed = e; outcome = kind.verdict journal e.timestamp e.event })

-- the result of an event of a chain that isn't stored: its own where it failed by itself, else that a linked one failed
abbrev pub outcome_in : {E : Type 0} → Option (OwnFailure E) → Placed E → Outcome
outcome_in None e = LinkedEventFailed
outcome_in (Some own) e = if own.failed.index == e.index then own.outcome else LinkedEventFailed

-- the results of events of a chain that isn't stored
abbrev pub failures_of : {E : Type 0} → Option (OwnFailure E) → List (Placed E) → List Failure
failures_of own events = map (λ e. record { index = e.index; outcome = outcome_in own e }) events

-- the result of the event that leaves its chain open
abbrev pub open_failure : {E : Type 0} → Option (Placed E) → List Failure
open_failure None = []
open_failure (Some e) = record { index = e.index; outcome = LinkedEventChainOpen } ∷ []

-- the entries that a chain leaves in which this event failed by itself, if one did
abbrev pub entries_left : {E : Type 0} → Kind E → Option (OwnFailure E) → List Entry
entries_left kind None = []
entries_left kind (Some own) = kind.left_by own.failed.timestamp own.failed.event own.outcome

-- a chain that is stored
abbrev pub stored_step : {E : Type 0} → Kind E → List Entry → Chain E → Step
stored_step kind journal chain = record { journal = with_events kind journal chain.events; failures = [] }

-- a chain of which nothing is stored, in which this event failed by itself, if one did
abbrev pub failed_step : {E : Type 0} → Kind E → List Entry → Chain E → Option (OwnFailure E) → Step
failed_step kind journal chain own = record {
  journal = journal ++ entries_left kind own;
  failures = failures_of own chain.events ++ open_failure chain.open_end;
}

-- the step of a chain by what failed in it and whether it is open
abbrev pub step_of_chain : {E : Type 0} → Kind E → List Entry → Chain E → Option (OwnFailure E) → Option (Placed E) → Step
step_of_chain kind journal chain None None = stored_step kind journal chain
step_of_chain kind journal chain own open_end = failed_step kind journal chain own

-- a chain's step: all of its records are stored if every event is ok and the chain isn't open, else none
abbrev pub chain_step : {E : Type 0} → Kind E → List Entry → Chain E → Step
chain_step kind journal chain = step_of_chain kind journal chain (first_failure kind journal chain.events) chain.open_end
