use Rattle.std.proofs.Common.{◌≡◌, ◌++◌, not, ap, subst, sym, ◌∙◌}
use Rattle.tf_scan.specs.Order.{IsInOrder, those_from, is_before}
use Rattle.tf_scan.specs.Sequence.{Sequence}
use Rattle.tf_scan.proofs.Order.{in_order-filter}
use Rattle.tf_scan.proofs.Members.{false_true}
use Rattle.tf_scan.proofs.Buffers.{in_order-front, seek-kept, seek-passed}
use Rattle.tf_scan.proofs.buffered.BufferedLeaf.seek.Given as given
use Rattle.tf_scan.proofs.buffered.BufferedLeaf.seek.Goals as goal

pub seek-requires : goal.seek-requires
seek-requires g c =
    subst (λ d. IsInOrder d c.self.inside.buffer) (sym c.direction.ensures.value) (in_order-front (g.P.Leaf.direction c.self.inside.leaf) c.self.inside.buffer (g.P.Leaf.left c.self.inside.leaf) c.self.invariant)

-- what stays in the buffer stands before what the leaf has left
stays : (g : given.Over) (c : goal.Then-not-is_empty g) → c.seek.new.self ++ g.P.Leaf.left c.self.inside.leaf ≡ those_from (g.P.Leaf.direction c.self.inside.leaf) c.args.timestamp (c.self.inside.buffer ++ g.P.Leaf.left c.self.inside.leaf)
stays g c =
    let sought = c.seek.ensures ∙ ap (λ d. those_from d c.args.timestamp c.self.inside.buffer) c.direction.ensures.value in
    seek-kept (g.P.Leaf.direction c.self.inside.leaf) c.args.timestamp c.self.inside.buffer (g.P.Leaf.left c.self.inside.leaf) c.seek.new.self sought c.self.invariant
    (λ e. false_true (sym c.if-not-is_empty.true ∙ c.is_empty.ensures.1 e))

pub invariant_of-self : goal.invariant_of-self
invariant_of-self g c =
    let d = g.P.Leaf.direction c.self.inside.leaf in
    subst (IsInOrder d) (sym (stays g c)) (in_order-filter d (λ u. not (is_before d u c.args.timestamp)) (c.self.inside.buffer ++ g.P.Leaf.left c.self.inside.leaf) c.self.invariant)

pub returns-then-not-is_empty-clause-others : goal.returns-then-not-is_empty-clause-others
returns-then-not-is_empty-clause-others g c = stays g c ∙ ap (λ (s : Sequence). those_from s.direction c.args.timestamp s.left) c.self.view_is

pub invariant_of-self-2 : goal.invariant_of-self-2
invariant_of-self-2 g c =
    let d = g.P.Leaf.direction c.self.inside.leaf in
    let left = g.P.Leaf.left c.self.inside.leaf in
    let sought = c.seek.ensures ∙ ap (λ w. those_from w c.args.timestamp c.self.inside.buffer) c.direction.ensures.value in
    let passed = seek-passed d c.args.timestamp c.self.inside.buffer left c.seek.new.self sought (g.P.Leaf.left c.seek-2.new.self) c.seek-2.ensures.others in
    subst (λ w. IsInOrder w (c.seek.new.self ++ g.P.Leaf.left c.seek-2.new.self)) (sym c.seek-2.ensures.direction_kept)
    (subst (IsInOrder d) (sym passed) (in_order-filter d (λ u. not (is_before d u c.args.timestamp)) (c.self.inside.buffer ++ left) c.self.invariant))
