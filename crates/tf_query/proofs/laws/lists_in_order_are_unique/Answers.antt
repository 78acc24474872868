use Rattle.tf_scan.proofs.Members.{same-members}
use Rattle.tf_query.proofs.laws.lists_in_order_are_unique.Goals as goal

pub returns : goal.returns
returns c = same-members
