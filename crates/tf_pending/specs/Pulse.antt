-- What a pulse leaves and answers.
use Rattle.std.specs.Prelude.{◌≡◌, ℕ, List, length, Result, Err, OnOk, OnErr, IfOk, IfErr, MatchOption}
use Rattle.tf_records.specs.declared.refusal.Refusal.{Refusal}
use Rattle.tf_records.specs.declared.refusal.Refusal.TheVariants as refusal
use Rattle.tf_journal.specs.declared.entry.Entry.{Entry}
use Rattle.tf_journal.specs.Due.{pulse_step, pulse_refusal}
use Rattle.tf_journal.specs.Lawful.{IsLawfulAt}
use Rattle.tf_journal.specs.Ledger.{IsUnchanged}

-- a pulse was run: its refusal is the one that is due, if one is, and else only want of memory; what it stored and
-- answered is its step's, and stands for good; a refusal left all as it was
pub record IsPulseRun {L : Type 0} (journal_of : L → List Entry) (clock_of kept_of : L → ℕ) (old new : L) (now most : ℕ) (result : Result ℕ Refusal) : Type 0 where
  pub refused : MatchOption (pulse_refusal (journal_of old) (clock_of old) now most)
      (IfErr result (λ fault. fault ≡ refusal.NoMemory)) (λ fault. result ≡ Err fault)
  pub count : IfOk result (λ count. count ≡ (pulse_step (journal_of old) (clock_of old) now most).count)
  pub stored : OnOk result (journal_of new ≡ (pulse_step (journal_of old) (clock_of old) now most).journal)
  pub clock : OnOk result (clock_of new ≡ (pulse_step (journal_of old) (clock_of old) now most).clock)
  pub kept : OnOk result (kept_of new ≡ length (journal_of new))
  pub unchanged : OnErr result (IsUnchanged journal_of clock_of kept_of old new)
  pub lawful : IsLawfulAt (clock_of new) (journal_of new)
