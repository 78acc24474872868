use Rattle.std.proofs.Common.{◌∙◌, ap, subst}
use Rattle.tf_rows.specs.Counts.{AreBounded}
use Rattle.tf_forest.specs.Forest.{View}
use Rattle.tf_forest.proofs.publishing.Forest+Rows+F+A+N+A.counts.Goals as goal

pub returns-clause-value : goal.returns-clause-value
returns-clause-value g c = c.counts.ensures.value ∙ ap (λ (v : View). v.sealed.counts) c.self.view_is

pub returns-clause-bounded : goal.returns-clause-bounded
returns-clause-bounded g c = subst (λ (v : View). AreBounded v.sealed) c.self.view_is c.counts.ensures.bounded
