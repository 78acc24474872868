use Rattle.std.proofs.Common.{ℕ, ◌∙◌, ap, replicate}
use Rattle.tf_records.specs.declared.account_balance.AccountBalance.{AccountBalance}
use Rattle.tf_records.specs.declared.sums.Sums.{Sums}
use Rattle.tf_journal.specs.Balances.{balances_of}
use Rattle.tf_journal.proofs.history.balance_after.Goals as goal

-- a row with these balances
abbrev row_of : ℕ → Sums → AccountBalance
row_of timestamp sums = record {
  debits_pending = sums.debits_pending;
  debits_posted = sums.debits_posted;
  credits_pending = sums.credits_pending;
  credits_posted = sums.credits_posted;
  timestamp = timestamp;
  reserved = replicate 56 0;
}

pub returns : goal.returns
returns c =
    ap (row_of c.args.transfer.now.timestamp) (c.balances-sums.ensures ∙ ap (λ journal. balances_of journal c.args.id) c.cut_after.ensures.cut)
