use Rattle.std.proofs.Common.{refl}
use Rattle.tf_manifest.specs.declared.jobs.Job.TheVariants as job
use Rattle.tf_manifest.specs.declared.kind.Kind.TheVariants as kind
use Rattle.tf_manifest.proofs.ByKind.{busy, chosen, none, room}
use Rattle.tf_manifest.proofs.manifest.Manifest.pick.Goals as goal

pub returns-in_err-job-in-Stamp-clause-err : goal.returns-in_err-job-in-Stamp-clause-err
returns-in_err-job-in-Stamp-clause-err g c = busy _ _ c.args.self.now c.args.row (kind.Stamp c.in-Stamp.row) _ _ c.self.view_is c.in-Stamp.ensures c.index.ensures.place c.row.ensures.row c.in_err-job-in-Stamp.ensures.err

pub returns-in_err-job-in-Account-clause-err : goal.returns-in_err-job-in-Account-clause-err
returns-in_err-job-in-Account-clause-err g c = busy _ _ c.args.self.now c.args.row kind.Account _ _ c.self.view_is c.in-Account.ensures refl c.row-in-Account.ensures.row c.in_err-job-in-Account.ensures.err

pub returns-in_err-job-in-Transfer-clause-err : goal.returns-in_err-job-in-Transfer-clause-err
returns-in_err-job-in-Transfer-clause-err g c = busy _ _ c.args.self.now c.args.row kind.Transfer _ _ c.self.view_is c.in-Transfer.ensures refl c.row-in-Transfer.ensures.row c.in_err-job-in-Transfer.ensures.err

pub returns-in_err-job-in-Id-clause-err : goal.returns-in_err-job-in-Id-clause-err
returns-in_err-job-in-Id-clause-err g c = busy _ _ c.args.self.now c.args.row kind.Id _ _ c.self.view_is c.in-Id.ensures refl c.row-in-Id.ensures.row c.in_err-job-in-Id.ensures.err

pub returns-in_err-job-in-Unit-clause-err : goal.returns-in_err-job-in-Unit-clause-err
returns-in_err-job-in-Unit-clause-err g c = busy _ _ c.args.self.now c.args.row (kind.Unit c.in-Unit.row) _ _ c.self.view_is c.in-Unit.ensures c.index-in-Unit.ensures.place c.row-in-Unit.ensures.row c.in_err-job-in-Unit.ensures.err

pub returns-in_err-job-in-State-clause-err : goal.returns-in_err-job-in-State-clause-err
returns-in_err-job-in-State-clause-err g c = busy _ _ c.args.self.now c.args.row kind.State _ _ c.self.view_is c.in-State.ensures refl c.row-in-State.ensures.row c.in_err-job-in-State.ensures.err

pub returns-in_err-job-in-Sums-clause-err : goal.returns-in_err-job-in-Sums-clause-err
returns-in_err-job-in-Sums-clause-err g c = busy _ _ c.args.self.now c.args.row kind.Sums _ _ c.self.view_is c.in-Sums.ensures refl c.row-in-Sums.ensures.row c.in_err-job-in-Sums.ensures.err

pub returns-in_err-job-in-Status-clause-err : goal.returns-in_err-job-in-Status-clause-err
returns-in_err-job-in-Status-clause-err g c = busy _ _ c.args.self.now c.args.row kind.Status _ _ c.self.view_is c.in-Status.ensures refl c.row-in-Status.ensures.row c.in_err-job-in-Status.ensures.err

pub returns-in-None-clause-none : goal.returns-in-None-clause-none
returns-in-None-clause-none g c = none _ c.args.self.now c.args.row (kind.Stamp c.in-Stamp.row) _ _ c.in_ok-job-in-Stamp.field-0 c.self.view_is c.in-Stamp.ensures c.index.ensures.place c.row.ensures.row c.in-None.is c.in_ok-job-in-Stamp.ensures.none

pub returns-in-None-clause-full : goal.returns-in-None-clause-full
returns-in-None-clause-full g c = room _ _ c.args.self.now c.args.row (kind.Stamp c.in-Stamp.row) _ _ c.in_ok-job-in-Stamp.field-0 c.self.view_is c.in-Stamp.ensures c.index.ensures.place c.row.ensures.row c.in-None.is c.in_ok-job-in-Stamp.ensures.full

pub returns-in-None-2-clause-none : goal.returns-in-None-2-clause-none
returns-in-None-2-clause-none g c = none _ c.args.self.now c.args.row kind.Account _ _ c.in_ok-job-in-Account.field-0 c.self.view_is c.in-Account.ensures refl c.row-in-Account.ensures.row c.in-None-2.is c.in_ok-job-in-Account.ensures.none

pub returns-in-None-2-clause-full : goal.returns-in-None-2-clause-full
returns-in-None-2-clause-full g c = room _ _ c.args.self.now c.args.row kind.Account _ _ c.in_ok-job-in-Account.field-0 c.self.view_is c.in-Account.ensures refl c.row-in-Account.ensures.row c.in-None-2.is c.in_ok-job-in-Account.ensures.full

pub returns-in-None-3-clause-none : goal.returns-in-None-3-clause-none
returns-in-None-3-clause-none g c = none _ c.args.self.now c.args.row kind.Transfer _ _ c.in_ok-job-in-Transfer.field-0 c.self.view_is c.in-Transfer.ensures refl c.row-in-Transfer.ensures.row c.in-None-3.is c.in_ok-job-in-Transfer.ensures.none

pub returns-in-None-3-clause-full : goal.returns-in-None-3-clause-full
returns-in-None-3-clause-full g c = room _ _ c.args.self.now c.args.row kind.Transfer _ _ c.in_ok-job-in-Transfer.field-0 c.self.view_is c.in-Transfer.ensures refl c.row-in-Transfer.ensures.row c.in-None-3.is c.in_ok-job-in-Transfer.ensures.full

pub returns-in-None-4-clause-none : goal.returns-in-None-4-clause-none
returns-in-None-4-clause-none g c = none _ c.args.self.now c.args.row kind.Id _ _ c.in_ok-job-in-Id.field-0 c.self.view_is c.in-Id.ensures refl c.row-in-Id.ensures.row c.in-None-4.is c.in_ok-job-in-Id.ensures.none

pub returns-in-None-4-clause-full : goal.returns-in-None-4-clause-full
returns-in-None-4-clause-full g c = room _ _ c.args.self.now c.args.row kind.Id _ _ c.in_ok-job-in-Id.field-0 c.self.view_is c.in-Id.ensures refl c.row-in-Id.ensures.row c.in-None-4.is c.in_ok-job-in-Id.ensures.full

pub returns-in-None-5-clause-none : goal.returns-in-None-5-clause-none
returns-in-None-5-clause-none g c = none _ c.args.self.now c.args.row (kind.Unit c.in-Unit.row) _ _ c.in_ok-job-in-Unit.field-0 c.self.view_is c.in-Unit.ensures c.index-in-Unit.ensures.place c.row-in-Unit.ensures.row c.in-None-5.is c.in_ok-job-in-Unit.ensures.none

pub returns-in-None-5-clause-full : goal.returns-in-None-5-clause-full
returns-in-None-5-clause-full g c = room _ _ c.args.self.now c.args.row (kind.Unit c.in-Unit.row) _ _ c.in_ok-job-in-Unit.field-0 c.self.view_is c.in-Unit.ensures c.index-in-Unit.ensures.place c.row-in-Unit.ensures.row c.in-None-5.is c.in_ok-job-in-Unit.ensures.full

pub returns-in-None-6-clause-none : goal.returns-in-None-6-clause-none
returns-in-None-6-clause-none g c = none _ c.args.self.now c.args.row kind.State _ _ c.in_ok-job-in-State.field-0 c.self.view_is c.in-State.ensures refl c.row-in-State.ensures.row c.in-None-6.is c.in_ok-job-in-State.ensures.none

pub returns-in-None-6-clause-full : goal.returns-in-None-6-clause-full
returns-in-None-6-clause-full g c = room _ _ c.args.self.now c.args.row kind.State _ _ c.in_ok-job-in-State.field-0 c.self.view_is c.in-State.ensures refl c.row-in-State.ensures.row c.in-None-6.is c.in_ok-job-in-State.ensures.full

pub returns-in-None-7-clause-none : goal.returns-in-None-7-clause-none
returns-in-None-7-clause-none g c = none _ c.args.self.now c.args.row kind.Sums _ _ c.in_ok-job-in-Sums.field-0 c.self.view_is c.in-Sums.ensures refl c.row-in-Sums.ensures.row c.in-None-7.is c.in_ok-job-in-Sums.ensures.none

pub returns-in-None-7-clause-full : goal.returns-in-None-7-clause-full
returns-in-None-7-clause-full g c = room _ _ c.args.self.now c.args.row kind.Sums _ _ c.in_ok-job-in-Sums.field-0 c.self.view_is c.in-Sums.ensures refl c.row-in-Sums.ensures.row c.in-None-7.is c.in_ok-job-in-Sums.ensures.full

pub returns-in-None-8-clause-none : goal.returns-in-None-8-clause-none
returns-in-None-8-clause-none g c = none _ c.args.self.now c.args.row kind.Status _ _ c.in_ok-job-in-Status.field-0 c.self.view_is c.in-Status.ensures refl c.row-in-Status.ensures.row c.in-None-8.is c.in_ok-job-in-Status.ensures.none

pub returns-in-None-8-clause-full : goal.returns-in-None-8-clause-full
returns-in-None-8-clause-full g c = room _ _ c.args.self.now c.args.row kind.Status _ _ c.in_ok-job-in-Status.field-0 c.self.view_is c.in-Status.ensures refl c.row-in-Status.ensures.row c.in-None-8.is c.in_ok-job-in-Status.ensures.full

pub returns-in-Some-clause-some : goal.returns-in-Some-clause-some
returns-in-Some-clause-some g c = chosen _ c.args.self.now c.args.row (job.Stamp c.in-Stamp.row c.in-Some.job) _ _ c.in_ok-job-in-Stamp.field-0 c.self.view_is c.in-Stamp.ensures c.index.ensures.place c.row.ensures.row c.in-Some.is c.in_ok-job-in-Stamp.ensures.some c.in_ok-job-in-Stamp.ensures.stands

pub returns-in-Some-2-clause-some : goal.returns-in-Some-2-clause-some
returns-in-Some-2-clause-some g c = chosen _ c.args.self.now c.args.row (job.Account c.in-Some-2.job) _ _ c.in_ok-job-in-Account.field-0 c.self.view_is c.in-Account.ensures refl c.row-in-Account.ensures.row c.in-Some-2.is c.in_ok-job-in-Account.ensures.some c.in_ok-job-in-Account.ensures.stands

pub returns-in-Some-3-clause-some : goal.returns-in-Some-3-clause-some
returns-in-Some-3-clause-some g c = chosen _ c.args.self.now c.args.row (job.Transfer c.in-Some-3.job) _ _ c.in_ok-job-in-Transfer.field-0 c.self.view_is c.in-Transfer.ensures refl c.row-in-Transfer.ensures.row c.in-Some-3.is c.in_ok-job-in-Transfer.ensures.some c.in_ok-job-in-Transfer.ensures.stands

pub returns-in-Some-4-clause-some : goal.returns-in-Some-4-clause-some
returns-in-Some-4-clause-some g c = chosen _ c.args.self.now c.args.row (job.Id c.in-Some-4.job) _ _ c.in_ok-job-in-Id.field-0 c.self.view_is c.in-Id.ensures refl c.row-in-Id.ensures.row c.in-Some-4.is c.in_ok-job-in-Id.ensures.some c.in_ok-job-in-Id.ensures.stands

pub returns-in-Some-5-clause-some : goal.returns-in-Some-5-clause-some
returns-in-Some-5-clause-some g c = chosen _ c.args.self.now c.args.row (job.Unit c.in-Unit.row c.in-Some-5.job) _ _ c.in_ok-job-in-Unit.field-0 c.self.view_is c.in-Unit.ensures c.index-in-Unit.ensures.place c.row-in-Unit.ensures.row c.in-Some-5.is c.in_ok-job-in-Unit.ensures.some c.in_ok-job-in-Unit.ensures.stands

pub returns-in-Some-6-clause-some : goal.returns-in-Some-6-clause-some
returns-in-Some-6-clause-some g c = chosen _ c.args.self.now c.args.row (job.State c.in-Some-6.job) _ _ c.in_ok-job-in-State.field-0 c.self.view_is c.in-State.ensures refl c.row-in-State.ensures.row c.in-Some-6.is c.in_ok-job-in-State.ensures.some c.in_ok-job-in-State.ensures.stands

pub returns-in-Some-7-clause-some : goal.returns-in-Some-7-clause-some
returns-in-Some-7-clause-some g c = chosen _ c.args.self.now c.args.row (job.Sums c.in-Some-7.job) _ _ c.in_ok-job-in-Sums.field-0 c.self.view_is c.in-Sums.ensures refl c.row-in-Sums.ensures.row c.in-Some-7.is c.in_ok-job-in-Sums.ensures.some c.in_ok-job-in-Sums.ensures.stands

pub returns-in-Some-8-clause-some : goal.returns-in-Some-8-clause-some
returns-in-Some-8-clause-some g c = chosen _ c.args.self.now c.args.row (job.Status c.in-Some-8.job) _ _ c.in_ok-job-in-Status.field-0 c.self.view_is c.in-Status.ensures refl c.row-in-Status.ensures.row c.in-Some-8.is c.in_ok-job-in-Status.ensures.some c.in_ok-job-in-Status.ensures.stands
