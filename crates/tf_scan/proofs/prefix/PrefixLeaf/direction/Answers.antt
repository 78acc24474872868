use Rattle.std.proofs.Common.{subst}
use Rattle.tf_scan.specs.Order.{IsInOrder}
use Rattle.tf_scan.specs.Sequence.{Sequence}
use Rattle.tf_scan.specs.Place.{lists_left}
use Rattle.tf_scan.proofs.Prefixes.{in_order-prefix}
use Rattle.tf_scan.proofs.prefix.PrefixLeaf.direction.Goals as goal

pub returns-clause-in_order : goal.returns-clause-in_order
returns-clause-in_order g c =
    subst (λ (s : Sequence). IsInOrder s.direction s.left) c.self.view_is (in_order-prefix c.self.inside.direction c.self.inside.value (lists_left c.self.inside.direction c.self.inside.value c.self.inside.places.items))
