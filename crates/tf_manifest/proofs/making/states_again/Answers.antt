use Rattle.std.proofs.Common.{IfSome, subst}
use Rattle.tf_manifest.specs.Halves.{AreStates}
use Rattle.tf_manifest.specs.View.{View}
use Rattle.tf_manifest.specs.Fields.{view_of}
use Rattle.tf_manifest.proofs.Halves.{states}
use Rattle.tf_manifest.proofs.making.states_again.Goals as goal

pub returns : goal.returns
returns g c =
    subst (λ (v : View). IfSome c.four.result (AreStates v)) c.manifest.view_is
    (states (view_of c.manifest.inside) c.rows_again-units.result c.rows_again-states.result c.rows_again-sums.result c.rows_again-statuses.result c.four.result
    c.rows_again-units.ensures c.rows_again-states.ensures c.rows_again-sums.ensures c.rows_again-statuses.ensures c.four.ensures)
