use Rattle.std.proofs.Common.{sym, subst}
use Rattle.tf_manifest.specs.declared.jobs.Merged.{Merged}
use Rattle.tf_manifest.specs.Jobs.{HasEntries}
use Rattle.tf_manifest.proofs.jobs.Merged.entries.Goals as goal

pub returns-in-Stamp : goal.returns-in-Stamp
returns-in-Stamp g c = subst (λ (m : Merged g.row.A.Denot g.row.N.Denot). HasEntries m c.entries.result) (sym c.in-Stamp.is) (record { entries = c.entries.ensures.entries; merges = c.entries.ensures.merges; run = c.entries.ensures.run })

pub returns-in-Account : goal.returns-in-Account
returns-in-Account g c = subst (λ (m : Merged g.row.A.Denot g.row.N.Denot). HasEntries m c.entries-in-Account.result) (sym c.in-Account.is) (record { entries = c.entries-in-Account.ensures.entries; merges = c.entries-in-Account.ensures.merges; run = c.entries-in-Account.ensures.run })

pub returns-in-Transfer : goal.returns-in-Transfer
returns-in-Transfer g c = subst (λ (m : Merged g.row.A.Denot g.row.N.Denot). HasEntries m c.entries-in-Transfer.result) (sym c.in-Transfer.is) (record { entries = c.entries-in-Transfer.ensures.entries; merges = c.entries-in-Transfer.ensures.merges; run = c.entries-in-Transfer.ensures.run })

pub returns-in-Id : goal.returns-in-Id
returns-in-Id g c = subst (λ (m : Merged g.row.A.Denot g.row.N.Denot). HasEntries m c.entries-in-Id.result) (sym c.in-Id.is) (record { entries = c.entries-in-Id.ensures.entries; merges = c.entries-in-Id.ensures.merges; run = c.entries-in-Id.ensures.run })

pub returns-in-Unit : goal.returns-in-Unit
returns-in-Unit g c = subst (λ (m : Merged g.row.A.Denot g.row.N.Denot). HasEntries m c.entries-in-Unit.result) (sym c.in-Unit.is) (record { entries = c.entries-in-Unit.ensures.entries; merges = c.entries-in-Unit.ensures.merges; run = c.entries-in-Unit.ensures.run })

pub returns-in-State : goal.returns-in-State
returns-in-State g c = subst (λ (m : Merged g.row.A.Denot g.row.N.Denot). HasEntries m c.entries-in-State.result) (sym c.in-State.is) (record { entries = c.entries-in-State.ensures.entries; merges = c.entries-in-State.ensures.merges; run = c.entries-in-State.ensures.run })

pub returns-in-Sums : goal.returns-in-Sums
returns-in-Sums g c = subst (λ (m : Merged g.row.A.Denot g.row.N.Denot). HasEntries m c.entries-in-Sums.result) (sym c.in-Sums.is) (record { entries = c.entries-in-Sums.ensures.entries; merges = c.entries-in-Sums.ensures.merges; run = c.entries-in-Sums.ensures.run })

pub returns-in-Status : goal.returns-in-Status
returns-in-Status g c = subst (λ (m : Merged g.row.A.Denot g.row.N.Denot). HasEntries m c.entries-in-Status.result) (sym c.in-Status.is) (record { entries = c.entries-in-Status.ensures.entries; merges = c.entries-in-Status.ensures.merges; run = c.entries-in-Status.ensures.run })
