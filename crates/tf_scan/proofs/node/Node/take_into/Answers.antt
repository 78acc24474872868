use Rattle.std.proofs.Common.{◌≡◌, ◌++◌, sym, ◌∙◌, ap, subst, length, min, take, drop}
use Rattle.tf_scan.specs.Part.{Part}
use Rattle.tf_scan.specs.Order.{IsInOrder}
use Rattle.tf_scan.specs.Node.{left_behind, with_head, height_of, IsKind, IsHead}
use Rattle.tf_scan.proofs.Order.{in_order-rest}
use Rattle.tf_scan.proofs.Nodes.{in_order-node, keeps, leaf-left}
use Rattle.tf_scan.proofs.Unions.{join-kept}
use Rattle.tf_scan.proofs.node.Node.take_into.Goals as goal

pub invariant_of-self : goal.invariant_of-self
invariant_of-self g c =
    let taken = rw c.deref_mut.ensures.value at c.take_into.ensures in
    let below = subst (IsKind g.P.Leaf.direction g.P.Leaf.left c.self.inside.direction) c.in-Leaf.is c.self.invariant.below in
    record {
      below = (taken.direction_kept ∙ below.0, subst (IsInOrder c.self.inside.direction) (sym taken.others) (in_order-rest _ _ _ below.1));
      first = subst (λ h. IsHead c.self.inside.direction h (g.P.Leaf.left c.take_into.new.self)) (sym c.in-Unread.is) tt;
    }

pub returns-in-Leaf-clause-count : goal.returns-in-Leaf-clause-count
returns-in-Leaf-clause-count g c =
    let taken = rw c.deref_mut.ensures.value at c.take_into.ensures in
    taken.count ∙ ap (λ ts. min (length c.args.out.now) (length ts)) (leaf-left g.P.Leaf.left c.self.inside.direction c.self.inside.head c.self.inside.kind c.in-Leaf.leaf c.args.self.now c.in-Unread.is c.in-Leaf.is c.self.view_is)

pub returns-in-Leaf-clause-moved : goal.returns-in-Leaf-clause-moved
returns-in-Leaf-clause-moved g c =
    let taken = rw c.deref_mut.ensures.value at c.take_into.ensures in
    taken.moved
    ∙ ap (λ ts. take c.take_into.result ts ++ drop c.take_into.result c.args.out.now) (leaf-left g.P.Leaf.left c.self.inside.direction c.self.inside.head c.self.inside.kind c.in-Leaf.leaf c.args.self.now c.in-Unread.is c.in-Leaf.is c.self.view_is)

pub returns-in-Leaf-clause-others : goal.returns-in-Leaf-clause-others
returns-in-Leaf-clause-others g c =
    let taken = rw c.deref_mut.ensures.value at c.take_into.ensures in
    rw c.in-Unread.is (taken.others ∙ ap (drop c.take_into.result) (leaf-left g.P.Leaf.left c.self.inside.direction c.self.inside.head c.self.inside.kind c.in-Leaf.leaf c.args.self.now c.in-Unread.is c.in-Leaf.is c.self.view_is))

pub returns-in-Leaf-clause-kept : goal.returns-in-Leaf-clause-kept
returns-in-Leaf-clause-kept g c =
    let taken = rw c.deref_mut.ensures.value at c.take_into.ensures in
    let below = subst (IsKind g.P.Leaf.direction g.P.Leaf.left c.self.inside.direction) c.in-Leaf.is c.self.invariant.below in
    let shown = ap (λ h. with_head h (g.P.Leaf.left c.take_into.new.self)) c.in-Unread.is in
    keeps c.args.self.now _ _ _ (ap (λ (p : Part). p.direction) c.self.view_is) (sym (ap height_of c.in-Leaf.is) ∙ ap (λ (p : Part). p.height) c.self.view_is)
    (subst (IsInOrder c.self.inside.direction) (sym (shown ∙ taken.others)) (in_order-rest _ _ _ below.1))

pub returns-in-Join-Union-default-default-clause-kept : goal.returns-in-Join-Union-default-default-clause-kept
returns-in-Join-Union-default-default-clause-kept g c =
    let join = c.in-Join-Union-default-default in
    let d = c.self.inside.direction in
    let head = c.self.inside.head in
    let below = subst (IsKind g.P.Leaf.direction g.P.Leaf.left d) join.is c.self.invariant.below in
    join-kept d head join.field-0 c.args.self.now join.left.value join.right.value c.deref_mut-in-Join-Union-default-default.result.now c.deref_mut-in-Join-Union-default-default-2.result.now c.take_union.new.left c.take_union.new.right below.0 below.1
    c.deref_mut-in-Join-Union-default-default.ensures.value c.deref_mut-in-Join-Union-default-default-2.ensures.value c.take_union.ensures.left c.take_union.ensures.right c.in-Unread.is
    (subst (λ k. record { direction = d; left = with_head head (left_behind g.P.Leaf.left d k); height = height_of k } ≡ c.args.self.now) join.is c.self.view_is)

pub take_each-requires : goal.take_each-requires
take_each-requires g c =
    subst (λ k. IsInOrder c.self.inside.direction (with_head c.self.inside.head (left_behind g.P.Leaf.left c.self.inside.direction k))) c.in-Join.is
    (in_order-node g.P.Leaf.direction g.P.Leaf.left c.self.inside.direction c.self.inside.head c.self.inside.kind c.self.invariant)

pub take_each-requires-in_default : goal.take_each-requires-in_default
take_each-requires-in_default g c = subst (λ (p : Part). IsInOrder p.direction p.left) c.self.view_is (in_order-node g.P.Leaf.direction g.P.Leaf.left c.self.inside.direction c.self.inside.head c.self.inside.kind c.self.invariant)
