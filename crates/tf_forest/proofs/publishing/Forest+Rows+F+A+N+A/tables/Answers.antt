use Rattle.std.proofs.Common.{◌∙◌, ap}
use Rattle.tf_forest.specs.Forest.{View}
use Rattle.tf_forest.proofs.publishing.Forest+Rows+F+A+N+A.tables.Goals as goal

pub returns : goal.returns
returns g c = c.manifest.ensures ∙ ap (λ (v : View). v.sealed.tables) c.self.view_is
