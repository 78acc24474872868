use Rattle.std.proofs.Common.{refl}
use Rattle.tf_manifest.specs.declared.kind.Kind.TheVariants as kind
use Rattle.tf_manifest.proofs.ByKind.{found}
use Rattle.tf_manifest.proofs.manifest.Manifest.find.Goals as goal

pub returns-in-Stamp : goal.returns-in-Stamp
returns-in-Stamp g c = found _ c.args.self.now c.args.row (kind.Stamp c.in-Stamp.row) _ c.args.key.now _ c.self.view_is c.in-Stamp.ensures c.index.ensures.place c.find.ensures

pub returns-in-Account : goal.returns-in-Account
returns-in-Account g c = found _ c.args.self.now c.args.row kind.Account _ c.args.key.now _ c.self.view_is c.in-Account.ensures refl c.find-in-Account.ensures

pub returns-in-Transfer : goal.returns-in-Transfer
returns-in-Transfer g c = found _ c.args.self.now c.args.row kind.Transfer _ c.args.key.now _ c.self.view_is c.in-Transfer.ensures refl c.find-in-Transfer.ensures

pub returns-in-Id : goal.returns-in-Id
returns-in-Id g c = found _ c.args.self.now c.args.row kind.Id _ c.args.key.now _ c.self.view_is c.in-Id.ensures refl c.find-in-Id.ensures

pub returns-in-Unit : goal.returns-in-Unit
returns-in-Unit g c = found _ c.args.self.now c.args.row (kind.Unit c.in-Unit.row) _ c.args.key.now _ c.self.view_is c.in-Unit.ensures c.index-in-Unit.ensures.place c.find-in-Unit.ensures

pub returns-in-State : goal.returns-in-State
returns-in-State g c = found _ c.args.self.now c.args.row kind.State _ c.args.key.now _ c.self.view_is c.in-State.ensures refl c.find-in-State.ensures

pub returns-in-Sums : goal.returns-in-Sums
returns-in-Sums g c = found _ c.args.self.now c.args.row kind.Sums _ c.args.key.now _ c.self.view_is c.in-Sums.ensures refl c.find-in-Sums.ensures

pub returns-in-Status : goal.returns-in-Status
returns-in-Status g c = found _ c.args.self.now c.args.row kind.Status _ c.args.key.now _ c.self.view_is c.in-Status.ensures refl c.find-in-Status.ensures
