use Rattle.std.proofs.Common.{◌∙◌, ap, sym}
use Rattle.tf_manifest.specs.declared.jobs.Job.TheVariants as job
use Rattle.tf_manifest.proofs.jobs.Job.merge.Goals as goal

pub returns-in_ok-merge-in-Account-clause-job : goal.returns-in_ok-merge-in-Account-clause-job
returns-in_ok-merge-in-Account-clause-job g c = ap (λ run. job.Account run) c.in_ok-merge-in-Account.ensures.run ∙ sym c.in-Account.is

pub returns-in_ok-merge-in-Transfer-clause-job : goal.returns-in_ok-merge-in-Transfer-clause-job
returns-in_ok-merge-in-Transfer-clause-job g c = ap (λ run. job.Transfer run) c.in_ok-merge-in-Transfer.ensures.run ∙ sym c.in-Transfer.is

pub returns-in_ok-merge-in-Id-clause-job : goal.returns-in_ok-merge-in-Id-clause-job
returns-in_ok-merge-in-Id-clause-job g c = ap (λ run. job.Id run) c.in_ok-merge-in-Id.ensures.run ∙ sym c.in-Id.is

pub returns-in_ok-merge-in-Unit-clause-job : goal.returns-in_ok-merge-in-Unit-clause-job
returns-in_ok-merge-in-Unit-clause-job g c = ap (λ run. job.Unit c.in-Unit.row run) c.in_ok-merge-in-Unit.ensures.run ∙ sym c.in-Unit.is

pub returns-in_ok-merge-in-State-clause-job : goal.returns-in_ok-merge-in-State-clause-job
returns-in_ok-merge-in-State-clause-job g c = ap (λ run. job.State run) c.in_ok-merge-in-State.ensures.run ∙ sym c.in-State.is

pub returns-in_ok-merge-in-Sums-clause-job : goal.returns-in_ok-merge-in-Sums-clause-job
returns-in_ok-merge-in-Sums-clause-job g c = ap (λ run. job.Sums run) c.in_ok-merge-in-Sums.ensures.run ∙ sym c.in-Sums.is

pub returns-in_ok-merge-in-Status-clause-job : goal.returns-in_ok-merge-in-Status-clause-job
returns-in_ok-merge-in-Status-clause-job g c = ap (λ run. job.Status run) c.in_ok-merge-in-Status.ensures.run ∙ sym c.in-Status.is
