-- What the calls of a ledger ask for and leave, whatever keeps it.
use Rattle.std.specs.Prelude.{◌≡◌, ℕ, List, [], ◌∷◌, ◌++◌, Result, OnOk, OnErr, IfErr}
use Rattle.tf_records.specs.declared.refusal.Refusal.{Refusal}
use Rattle.tf_records.specs.declared.refusal.Refusal.TheVariants.{NoMemory}
use Rattle.tf_journal.specs.declared.entry.Entry.{Entry}
use Rattle.tf_journal.specs.Journal.{IsJournal}
use Rattle.tf_journal.specs.Lawful.{IsAdmitted}

-- an entry can be added to a journal: its timestamp is later than all others, and the journal admits it
pub record CanGrow (journal : List Entry) (e : Entry) : Type 0 where
  pub is_journal : IsJournal (journal ++ e ∷ [])
  pub admitted : IsAdmitted journal e

-- an entry was added, or memory for it was refused and all is as before
pub record IsAddition {L X : Type 0} (journal_of : L → List Entry) (clock_of kept_of : L → ℕ) (old new : L) (e : Entry) (result : Result X Refusal) : Type 0 where
  pub ok : OnOk result (journal_of new ≡ journal_of old ++ e ∷ [])
  pub err : OnErr result (journal_of new ≡ journal_of old)
  pub refusal : IfErr result (λ refusal. refusal ≡ NoMemory)
  pub clock : clock_of new ≡ clock_of old
  pub kept : kept_of new ≡ kept_of old

-- journal, clock and kept length are as before
pub record IsUnchanged {L : Type 0} (journal_of : L → List Entry) (clock_of kept_of : L → ℕ) (old new : L) : Type 0 where
  pub journal : journal_of new ≡ journal_of old
  pub clock : clock_of new ≡ clock_of old
  pub kept : kept_of new ≡ kept_of old
