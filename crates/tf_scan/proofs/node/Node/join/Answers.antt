use Rattle.std.proofs.Common.{◌∙◌, sym, ap, subst}
use Rattle.tf_scan.specs.Order.{IsInOrder}
use Rattle.tf_scan.specs.Part.{Part}
use Rattle.tf_scan.specs.Node.{join_of}
use Rattle.tf_scan.proofs.Nodes.{in_order-join}
use Rattle.tf_scan.proofs.node.Node.join.Goals as goal

pub returns-clause-in_order : goal.returns-clause-in_order
returns-clause-in_order g c =
    let same = sym (c.direction.ensures ∙ ap (λ (p : Part). p.direction) c.deref.ensures) in
    subst (λ d. IsInOrder d (join_of c.args.operation d c.args.left.value.left c.args.right.value.left)) same
    (in_order-join c.args.operation c.args.left.value.direction c.args.left.value.left c.args.right.value.left c.requires.left c.requires.right.in_order)
