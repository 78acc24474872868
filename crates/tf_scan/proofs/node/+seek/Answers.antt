use Rattle.std.proofs.Common.{◌≡◌, refl, sym, ◌∙◌, ap, subst}
use Rattle.std.proofs.Common.{false}
use Rattle.tf_scan.specs.Order.{is_before, IsInOrder, those_from}
use Rattle.tf_scan.specs.Part.{Part}
use Rattle.tf_scan.specs.Node.{left_behind, with_head, IsKind, IsHead, IsPartOf}
use Rattle.tf_scan.proofs.Order.{in_order-filter}
use Rattle.tf_scan.proofs.Seeks.{from-first, from-join}
use Rattle.tf_scan.proofs.Nodes.{in_order-kind, in_order-node, keeps, seek-left}
use Rattle.tf_scan.proofs.node.+seek.Goals as goal

pub Node::seek-returns-then-is_before-clause-kept : goal.Node::seek-returns-then-is_before-clause-kept
Node::seek-returns-then-is_before-clause-kept g t c =
    keeps c.args.self.now _ _ _ (ap (λ p. p.direction) c.self.view_is) (c.seek_below.ensures.height ∙ ap (λ p. p.height) c.self.view_is) (in_order-kind _ _ _ _ c.seek_below.ensures.kind)

pub Node::seek-returns-else-is_before-clause-others : goal.Node::seek-returns-else-is_before-clause-others
Node::seek-returns-else-is_before-clause-others g t c =
    let inner : is_before c.self.inside.direction c.in-At.first c.args.timestamp ≡ false = sym c.is_before.ensures ∙ c.if-is_before.false in
    let head = subst (λ h. IsHead c.self.inside.direction h (left_behind g.P.Leaf.left c.self.inside.direction c.self.inside.kind)) c.in-At.is c.self.invariant.first in
    let stays = sym (from-first _ _ _ _ head inner) in
    let now = ap (λ h. with_head h (left_behind g.P.Leaf.left c.self.inside.direction c.self.inside.kind)) c.in-At.is in
    subst (λ (p : Part). p.left ≡ those_from p.direction c.args.timestamp p.left) c.self.view_is (rw now stays)

pub Node::seek-returns-else-is_before-clause-kept : goal.Node::seek-returns-else-is_before-clause-kept
Node::seek-returns-else-is_before-clause-kept g t c =
    record { direction = refl; height = refl; in_order = subst (λ (p : Part). IsInOrder p.direction p.left) c.self.view_is (in_order-node _ _ _ _ _ c.self.invariant) }

pub Node::seek-returns-in-Unread-clause-kept : goal.Node::seek-returns-in-Unread-clause-kept
Node::seek-returns-in-Unread-clause-kept g t c =
    let now = ap (λ h. with_head h (left_behind g.P.Leaf.left c.self.inside.direction c.seek_below-in-Unread.new.kind)) c.in-Unread.is in
    keeps c.args.self.now _ _ _ (ap (λ p. p.direction) c.self.view_is) (c.seek_below-in-Unread.ensures.height ∙ ap (λ p. p.height) c.self.view_is)
    (rw now (in_order-kind _ _ _ _ c.seek_below-in-Unread.ensures.kind))

pub reading::seek_below-returns-in-Leaf-clause-kind : goal.reading::seek_below-returns-in-Leaf-clause-kind
reading::seek_below-returns-in-Leaf-clause-kind g t c =
    let old = subst (λ k. IsKind g.P.Leaf.direction g.P.Leaf.left c.args.direction k) c.in-Leaf.is c.requires.kind in
    let sought = rw c.deref_mut.ensures.value at c.seek.ensures in
    (sought.direction_kept ∙ old.0, rw sought.others (in_order-filter _ _ _ old.1))

pub reading::seek_below-returns-in-Join-clause-others : goal.reading::seek_below-returns-in-Join-clause-others
reading::seek_below-returns-in-Join-clause-others g t c =
    let old = subst (λ k. IsKind g.P.Leaf.direction g.P.Leaf.left c.args.direction k) c.in-Join.is c.requires.kind in
    let l = subst (λ (p : Part). IsPartOf c.args.direction p) (sym c.deref_mut-in-Join.ensures.value) old.0 in
    let r = subst (λ (p : Part). IsPartOf c.args.direction p) (sym c.deref_mut-in-Join-2.ensures.value) old.1 in
    rw (c.in-Join.is, seek-left _ _ _ _ l c.seek-in-Join.ensures.others, seek-left _ _ _ _ r c.seek-in-Join-2.ensures.others, c.deref_mut-in-Join.ensures.value, c.deref_mut-in-Join-2.ensures.value)
    (sym (from-join _ _ _ _ _ old.0.in_order old.1.in_order))
