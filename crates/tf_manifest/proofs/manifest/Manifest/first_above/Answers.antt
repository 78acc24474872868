use Rattle.std.proofs.Common.{refl}
use Rattle.tf_manifest.specs.declared.kind.Kind.TheVariants as kind
use Rattle.tf_manifest.proofs.ByKind.{first}
use Rattle.tf_manifest.proofs.manifest.Manifest.first_above.Goals as goal

pub returns-in-Stamp : goal.returns-in-Stamp
returns-in-Stamp g c = first _ c.args.self.now c.args.row (kind.Stamp c.in-Stamp.row) _ _ c.args.key.now _ c.self.view_is c.in-Stamp.ensures c.index.ensures.place c.row.ensures.row c.first_above.ensures

pub returns-in-Account : goal.returns-in-Account
returns-in-Account g c = first _ c.args.self.now c.args.row kind.Account _ _ c.args.key.now _ c.self.view_is c.in-Account.ensures refl c.row-in-Account.ensures.row c.first_above-in-Account.ensures

pub returns-in-Transfer : goal.returns-in-Transfer
returns-in-Transfer g c = first _ c.args.self.now c.args.row kind.Transfer _ _ c.args.key.now _ c.self.view_is c.in-Transfer.ensures refl c.row-in-Transfer.ensures.row c.first_above-in-Transfer.ensures

pub returns-in-Id : goal.returns-in-Id
returns-in-Id g c = first _ c.args.self.now c.args.row kind.Id _ _ c.args.key.now _ c.self.view_is c.in-Id.ensures refl c.row-in-Id.ensures.row c.first_above-in-Id.ensures

pub returns-in-Unit : goal.returns-in-Unit
returns-in-Unit g c = first _ c.args.self.now c.args.row (kind.Unit c.in-Unit.row) _ _ c.args.key.now _ c.self.view_is c.in-Unit.ensures c.index-in-Unit.ensures.place c.row-in-Unit.ensures.row c.first_above-in-Unit.ensures

pub returns-in-State : goal.returns-in-State
returns-in-State g c = first _ c.args.self.now c.args.row kind.State _ _ c.args.key.now _ c.self.view_is c.in-State.ensures refl c.row-in-State.ensures.row c.first_above-in-State.ensures

pub returns-in-Sums : goal.returns-in-Sums
returns-in-Sums g c = first _ c.args.self.now c.args.row kind.Sums _ _ c.args.key.now _ c.self.view_is c.in-Sums.ensures refl c.row-in-Sums.ensures.row c.first_above-in-Sums.ensures

pub returns-in-Status : goal.returns-in-Status
returns-in-Status g c = first _ c.args.self.now c.args.row kind.Status _ _ c.args.key.now _ c.self.view_is c.in-Status.ensures refl c.row-in-Status.ensures.row c.first_above-in-Status.ensures
