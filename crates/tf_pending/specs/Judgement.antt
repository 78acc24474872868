-- How a transfer event is judged: by its verdict, with the record that an accepted one is stored as.
use Rattle.std.specs.Prelude.{◌≡◌, ℕ, List, Result, OnOk, IfOk, IfErr, false}
use Rattle.tf_records.specs.declared.outcome.Outcome.{Outcome}
use Rattle.tf_records.specs.declared.outcome.Outcome.TheVariants as outcome
use Rattle.tf_records.specs.declared.transfer.Transfer.{Transfer}
use Rattle.tf_journal.specs.declared.entry.Entry.{Entry}
use Rattle.tf_journal.specs.Stored.{stored_transfer}
use Rattle.tf_journal.specs.Verdict.{is_accepted, transfer_verdict}

-- a transfer event was judged at this timestamp after the journal: it is accepted, and this is the record that it is
-- stored as, or this is its verdict, which isn't ok
pub record IsJudgement (journal : List Entry) (timestamp : ℕ) (e : Transfer) (result : Result Transfer Outcome) : Type 0 where
  pub accepted : OnOk result (transfer_verdict journal timestamp e ≡ outcome.Ok)
  pub stored : IfOk result (λ transfer. transfer ≡ stored_transfer journal timestamp e)
  pub refused : IfErr result (λ verdict. verdict ≡ transfer_verdict journal timestamp e)
  pub fault : IfErr result (λ verdict. is_accepted verdict ≡ false)
