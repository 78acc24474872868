use Rattle.std.proofs.Common.{refl}
use Rattle.tf_manifest.specs.declared.kind.Kind.TheVariants as kind
use Rattle.tf_manifest.proofs.ByKind.{counted}
use Rattle.tf_manifest.proofs.manifest.Manifest.references.Goals as goal

pub returns-in-Stamp-clause-value : goal.returns-in-Stamp-clause-value
returns-in-Stamp-clause-value g c = counted _ c.args.self.now c.args.row (kind.Stamp c.in-Stamp.row) _ _ c.self.view_is c.in-Stamp.ensures c.index.ensures.place c.references.ensures.value

pub returns-in-Account-clause-value : goal.returns-in-Account-clause-value
returns-in-Account-clause-value g c = counted _ c.args.self.now c.args.row kind.Account _ _ c.self.view_is c.in-Account.ensures refl c.references-in-Account.ensures.value

pub returns-in-Transfer-clause-value : goal.returns-in-Transfer-clause-value
returns-in-Transfer-clause-value g c = counted _ c.args.self.now c.args.row kind.Transfer _ _ c.self.view_is c.in-Transfer.ensures refl c.references-in-Transfer.ensures.value

pub returns-in-Id-clause-value : goal.returns-in-Id-clause-value
returns-in-Id-clause-value g c = counted _ c.args.self.now c.args.row kind.Id _ _ c.self.view_is c.in-Id.ensures refl c.references-in-Id.ensures.value

pub returns-in-Unit-clause-value : goal.returns-in-Unit-clause-value
returns-in-Unit-clause-value g c = counted _ c.args.self.now c.args.row (kind.Unit c.in-Unit.row) _ _ c.self.view_is c.in-Unit.ensures c.index-in-Unit.ensures.place c.references-in-Unit.ensures.value

pub returns-in-State-clause-value : goal.returns-in-State-clause-value
returns-in-State-clause-value g c = counted _ c.args.self.now c.args.row kind.State _ _ c.self.view_is c.in-State.ensures refl c.references-in-State.ensures.value

pub returns-in-Sums-clause-value : goal.returns-in-Sums-clause-value
returns-in-Sums-clause-value g c = counted _ c.args.self.now c.args.row kind.Sums _ _ c.self.view_is c.in-Sums.ensures refl c.references-in-Sums.ensures.value

pub returns-in-Status-clause-value : goal.returns-in-Status-clause-value
returns-in-Status-clause-value g c = counted _ c.args.self.now c.args.row kind.Status _ _ c.self.view_is c.in-Status.ensures refl c.references-in-Status.ensures.value
