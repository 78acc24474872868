-- Sums that an entry leaves in range.
use Rattle.std.specs.Prelude.{ℕ, ◌≤◌, IfSome, ⊤}
use Rattle.tf_records.specs.declared.sums.Sums.{Sums}
use Rattle.tf_records.specs.declared.transfer.Transfer.{Transfer}
use Rattle.tf_journal.specs.declared.entry.Entry.{Entry}
use Rattle.tf_journal.specs.declared.entry.Entry.TheVariants as entry
use Rattle.tf_journal.specs.declared.side.Side.{Side}
use Rattle.tf_journal.specs.declared.side.Side.TheVariants.{Debit, Credit}
use Rattle.tf_journal.specs.Balances.{greatest_amount}
use Rattle.tf_rows.specs.declared.found.Found.{Found}
use Rattle.tf_rows.specs.Edits.{state_after}

-- what is pending on a side
abbrev pub pending_in : Side → Sums → ℕ
pending_in Debit sums = sums.debits_pending
pending_in Credit sums = sums.credits_pending

-- what is posted on a side
abbrev pub posted_in : Side → Sums → ℕ
posted_in Debit sums = sums.debits_posted
posted_in Credit sums = sums.credits_posted

-- neither sum of a side passes the greatest amount
pub record IsInRange (side : Side) (sums : Sums) : Type 0 where
  pub pending : pending_in side sums ≤ greatest_amount
  pub posted : posted_in side sums ≤ greatest_amount

-- the sums of a transfer's accounts don't, after it
pub record MovesInRange (found : Found) (transfer : Transfer) : Type 0 where
  pub debit : IfSome found.debit (λ party. IsInRange Debit (state_after Debit transfer found.settled party.state).sums)
  pub credit : IfSome found.credit (λ party. IsInRange Credit (state_after Credit transfer found.settled party.state).sums)

-- nor do those of any entry's accounts: an account begins with sums of 0, and an expiry makes them smaller
abbrev pub LeavesInRange : Found → Entry → Type 0
LeavesInRange found (entry.Transfer transfer) = MovesInRange found transfer
LeavesInRange found _ = ⊤
