use Rattle.std.proofs.Common.{◌≡◌, length, sym, subst}
use Rattle.tf_rows.specs.declared.sealed_row.SealedRow.{SealedRow}
use Rattle.tf_rows.specs.SealedRow.{entries_of_sealed}
use Rattle.tf_rows.proofs.sealed_row.SealedRow.entries.Goals as goal

pub returns-in-Stamp : goal.returns-in-Stamp
returns-in-Stamp g c = subst (λ (s : SealedRow g.row.A.Denot). c.len.result ≡ length (entries_of_sealed s)) (sym c.in-Stamp.is) c.len.ensures.value

pub returns-in-Account : goal.returns-in-Account
returns-in-Account g c = subst (λ (s : SealedRow g.row.A.Denot). c.len-in-Account.result ≡ length (entries_of_sealed s)) (sym c.in-Account.is) c.len-in-Account.ensures.value

pub returns-in-Transfer : goal.returns-in-Transfer
returns-in-Transfer g c = subst (λ (s : SealedRow g.row.A.Denot). c.len-in-Transfer.result ≡ length (entries_of_sealed s)) (sym c.in-Transfer.is) c.len-in-Transfer.ensures.value

pub returns-in-Id : goal.returns-in-Id
returns-in-Id g c = subst (λ (s : SealedRow g.row.A.Denot). c.len-in-Id.result ≡ length (entries_of_sealed s)) (sym c.in-Id.is) c.len-in-Id.ensures.value

pub returns-in-Unit : goal.returns-in-Unit
returns-in-Unit g c = subst (λ (s : SealedRow g.row.A.Denot). c.len-in-Unit.result ≡ length (entries_of_sealed s)) (sym c.in-Unit.is) c.len-in-Unit.ensures.value

pub returns-in-State : goal.returns-in-State
returns-in-State g c = subst (λ (s : SealedRow g.row.A.Denot). c.len-in-State.result ≡ length (entries_of_sealed s)) (sym c.in-State.is) c.len-in-State.ensures.value

pub returns-in-Sums : goal.returns-in-Sums
returns-in-Sums g c = subst (λ (s : SealedRow g.row.A.Denot). c.len-in-Sums.result ≡ length (entries_of_sealed s)) (sym c.in-Sums.is) c.len-in-Sums.ensures.value

pub returns-in-Status : goal.returns-in-Status
returns-in-Status g c = subst (λ (s : SealedRow g.row.A.Denot). c.len-in-Status.result ≡ length (entries_of_sealed s)) (sym c.in-Status.is) c.len-in-Status.ensures.value
