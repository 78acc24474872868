use Rattle.std.proofs.Common.{ap, subst}
use Rattle.tf_manifest.specs.View.{View, IsLight, HasRows}
use Rattle.tf_manifest.proofs.Halves.{sound}
use Rattle.tf_manifest.proofs.manifest.Manifest.again.Goals as goal

pub invariant_of-result : goal.invariant_of-result
invariant_of-result g c =
    sound c.args.self.now c.in-Some.records c.in-Some.states _ c.records_again-records.result c.states_again-states.result
    c.in-Some.ensures c.records_again-records.ensures c.states_again-states.ensures (ap (λ (v : View). v.pushed) c.self.view_is) (subst (λ (v : View). IsLight v × HasRows v) c.self.view_is c.self.invariant)
