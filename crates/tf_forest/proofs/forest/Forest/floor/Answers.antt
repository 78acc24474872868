use Rattle.std.proofs.Common.{ap, subst}
use Rattle.tf_rows.specs.Floors.{IsFloor}
use Rattle.tf_forest.specs.Forest.{View}
use Rattle.tf_forest.proofs.forest.Forest.floor.Goals as goal

pub returns : goal.returns
returns g c = subst (IsFloor c.self.inside.floors.present) (ap (λ (v : View). v.journal) c.self.view_is) c.self.invariant.floors.present
