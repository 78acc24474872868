use Rattle.std.proofs.Common.{◌∙◌, ap}
use Rattle.std.proofs.lemmas.Result.{IfOk-weaker}
use Rattle.tf_scan.specs.Sets.{is_among}
use Rattle.tf_scan.proofs.Joins.{among-union}
use Rattle.tf_scan.proofs.scan.Scan.union.Goals as goal

pub returns-clause-members : goal.returns-clause-members
returns-clause-members g c = IfOk-weaker c.join.result _ _ (λ scan e t. ap (is_among t) e ∙ among-union c.args.left.direction t c.args.left.left c.args.right.left) c.join.ensures.left
