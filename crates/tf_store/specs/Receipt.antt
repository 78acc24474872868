-- Receipts: a batch with what it was run on, what it answered and what it left.
use mathlib.Core.List.{IsPrefix}
use Rattle.std.specs.Prelude.{◌≡◌, ℕ, ◌≤◌, List, length, take, None, Result}
use Rattle.tf_records.specs.declared.account.Account.{Account}
use Rattle.tf_records.specs.declared.transfer.Transfer.{Transfer}
use Rattle.tf_records.specs.declared.refusal.Refusal.{Refusal}
use Rattle.tf_records.specs.declared.reply.Failure.{Failure}
use Rattle.tf_journal.specs.declared.entry.Entry.{Entry}
use Rattle.tf_events.specs.Batch.{IsBatchRun, batch_refusal, batch_step}
use Rattle.tf_events.specs.Chain as kind
use Rattle.tf_events.specs.Chain.{Step}

-- the events of a batch, which are of one kind
pub data Batch : Type 0 where
  accounts : List Account → Batch
  transfers : List Transfer → Batch

-- how many they are
abbrev pub count_of : Batch → ℕ
count_of (accounts events) = length events
count_of (transfers events) = length events

-- a batch's step from a journal, a clock and a moment
abbrev pub step_of : Batch → List Entry → ℕ → ℕ → Step
step_of (accounts events) journal clock now = batch_step kind.accounts journal clock events now
step_of (transfers events) journal clock now = batch_step kind.transfers journal clock events now

-- a batch was run, as one of its kind is
abbrev pub IsRun : {L : Type 0} → (L → List Entry) → (L → ℕ) → (L → ℕ) → L → L → Batch → ℕ → Result (List Failure) Refusal → Type 0
IsRun journal_of clock_of kept_of old new (accounts events) now result = IsBatchRun kind.accounts journal_of clock_of kept_of old new events now result
IsRun journal_of clock_of kept_of old new (transfers events) now result = IsBatchRun kind.transfers journal_of clock_of kept_of old new events now result

-- what contracts see of a receipt: the events, the moment that was handed in, the clock before the batch, the reply, and
-- the journals before and after it
pub record ReceiptView : Type 0 where
  pub events : Batch
  pub moment : ℕ
  pub clock : ℕ
  pub reply : List Failure
  pub first : List Entry
  pub second : List Entry

-- the batch isn't refused, and its step from the first journal gives the second one and the reply
pub record IsReceipt (receipt : ReceiptView) : Type 0 where
  pub due : batch_refusal receipt.clock (count_of receipt.events) receipt.moment ≡ None
  pub stored : receipt.second ≡ (step_of receipt.events receipt.first receipt.clock receipt.moment).journal
  pub replied : receipt.reply ≡ (step_of receipt.events receipt.first receipt.clock receipt.moment).failures

-- a receipt whose journals, the first and the second, begin a journal
pub record IsReceiptOf (journal : List Entry) (told : ReceiptView) : Type 0 where
  pub receipt : IsReceipt told
  pub first : IsPrefix told.first journal
  pub second : IsPrefix told.second journal

-- a batch whose receipt waits, with the lengths of the journal before and after it
pub record Waiting : Type 0 where
  pub events : Batch
  pub moment : ℕ
  pub clock : ℕ
  pub reply : List Failure
  pub before : ℕ
  pub after : ℕ

-- its receipt, in a journal that goes on from there
abbrev pub receipt_of : List Entry → Waiting → ReceiptView
receipt_of journal waiting = record {
  events = waiting.events;
  moment = waiting.moment;
  clock = waiting.clock;
  reply = waiting.reply;
  first = take waiting.before journal;
  second = take waiting.after journal;
}

-- a batch was run on a beginning of the journal, and left another one
pub record Waits (journal : List Entry) (waiting : Waiting) : Type 0 where
  pub before : waiting.before ≤ length journal
  pub after : waiting.after ≤ length journal
  pub receipt : IsReceipt (receipt_of journal waiting)
