use Rattle.std.proofs.Common.{drop, refl, sym, ◌∙◌, ap, subst}
use Rattle.std.specs.Prelude.{slice_get}
use Rattle.tf_scan.specs.Part.{Part}
use Rattle.tf_scan.specs.Node.{left_behind, with_head, IsHead}
use Rattle.tf_scan.proofs.Firsts.{union-left-none, union-right-none, intersection-left-none, intersection-right-none, rest-left-none, rest-right-none, rest-left, rest-right, rest-both, rest-shared, first-left, first-right, first-both}
use Rattle.tf_scan.proofs.Nodes.{in_order-kind, keeps, still, read-behind, meeting-left, meeting-right, shorter-left, shorter-right}
use Rattle.tf_scan.proofs.node.+read.Goals.{Node::peek-in-Some, Node::peek-in-None}
use Rattle.tf_scan.proofs.node.+read.Goals as goal

pub Node::next-returns-in-At-clause-kept : goal.Node::next-returns-in-At-clause-kept
Node::next-returns-in-At-clause-kept g t c =
    keeps c.args.self.now _ _ _ (ap (λ p. p.direction) c.self.view_is) (ap (λ p. p.height) c.self.view_is) (in_order-kind _ _ _ _ c.self.invariant.below)

pub Node::next-returns-in-Unread-clause-kept : goal.Node::next-returns-in-Unread-clause-kept
Node::next-returns-in-Unread-clause-kept g t c =
    let now = ap (λ h. with_head h (left_behind g.P.Leaf.left c.self.inside.direction c.read.new.kind)) c.in-Unread.is in
    keeps c.args.self.now _ _ _ (ap (λ p. p.direction) c.self.view_is) (c.read.ensures.height ∙ ap (λ p. p.height) c.self.view_is) (rw now (in_order-kind _ _ _ _ c.read.ensures.kind))

pub Node::peek-invariant_of-self : goal.Node::peek-invariant_of-self
Node::peek-invariant_of-self g t c = elim c.match-first.branch [
  | Node::peek-in-Some w ↦ record {
    below = c.read-first.ensures.kind;
    first = subst (λ h. IsHead c.self.inside.direction h (left_behind g.P.Leaf.left c.self.inside.direction c.read-first.new.kind)) (sym w.self-is)
        (read-behind _ _ _ _ (in_order-kind _ _ _ _ c.self.invariant.below) w.in-Some.ensures.first c.read-first.ensures.others);
  }
  | Node::peek-in-None w ↦ record {
    below = c.read-first.ensures.kind;
    first = subst (λ h. IsHead c.self.inside.direction h (left_behind g.P.Leaf.left c.self.inside.direction c.read-first.new.kind)) (sym w.self-is) tt;
  }
]

pub reading::next_of_intersection-loop-first-smaller-then-is_before : goal.reading::next_of_intersection-loop-first-smaller-then-is_before
reading::next_of_intersection-loop-first-smaller-then-is_before g t c =
    shorter-left _ _ _ _ _ _ _ _ c.seek.new.self c.requires.left c.requires.right c.loop-first.invariant c.peek.ensures.same c.peek-in-loop-first.ensures.same
    _ c.in-Some-Some.ensures.first (sym c.is_before.ensures ∙ c.if-is_before.true) c.seek.ensures.others

pub reading::next_of_intersection-loop-first-preserved-then-is_before : goal.reading::next_of_intersection-loop-first-preserved-then-is_before
reading::next_of_intersection-loop-first-preserved-then-is_before g t c =
    meeting-left _ _ _ _ _ _ _ _ _ c.requires.left c.requires.right c.loop-first.invariant c.peek.ensures.same c.peek-in-loop-first.ensures.same
    c.in-Some-Some.ensures'.first c.seek.ensures.others c.seek.ensures.kept

pub reading::next_of_intersection-loop-first-smaller : goal.reading::next_of_intersection-loop-first-smaller
reading::next_of_intersection-loop-first-smaller g t c =
    shorter-right _ _ _ _ _ _ _ _ c.seek-then-is_before-2.new.self c.requires.left c.requires.right c.loop-first.invariant c.peek.ensures.same c.peek-in-loop-first.ensures.same
    _ c.in-Some-Some.ensures'.first (sym c.is_before-else-is_before.ensures ∙ c.if-is_before-2.true) c.seek-then-is_before-2.ensures.others

pub reading::next_of_intersection-loop-first-preserved : goal.reading::next_of_intersection-loop-first-preserved
reading::next_of_intersection-loop-first-preserved g t c =
    meeting-right _ _ _ _ _ _ _ _ _ c.requires.left c.requires.right c.loop-first.invariant c.peek.ensures.same c.peek-in-loop-first.ensures.same
    c.in-Some-Some.ensures.first c.seek-then-is_before-2.ensures.others c.seek-then-is_before-2.ensures.kept

pub reading::next_of_intersection-returns-in_default-clause-first : goal.reading::next_of_intersection-returns-in_default-clause-first
reading::next_of_intersection-returns-in_default-clause-first g t c =
    rw (← c.loop-first.invariant.both, intersection-right-none c.loop-first.left.left c.loop-first.right.left (sym c.in_default.ensures'.first)) refl

pub reading::next_of_intersection-returns-in_default-clause-others : goal.reading::next_of_intersection-returns-in_default-clause-others
reading::next_of_intersection-returns-in_default-clause-others g t c =
    rw (← c.loop-first.invariant.both, c.peek.ensures.same, c.peek-in-loop-first.ensures.same, intersection-right-none c.loop-first.left.left c.loop-first.right.left (sym c.in_default.ensures'.first)) refl

pub reading::next_of_intersection-returns-in_default-2-clause-first : goal.reading::next_of_intersection-returns-in_default-2-clause-first
reading::next_of_intersection-returns-in_default-2-clause-first g t c =
    rw (← c.loop-first.invariant.both, intersection-left-none c.loop-first.left.left c.loop-first.right.left (sym c.peek.ensures.first ∙ c.in_default.is-0)) refl

pub reading::next_of_intersection-returns-in_default-2-clause-others : goal.reading::next_of_intersection-returns-in_default-2-clause-others
reading::next_of_intersection-returns-in_default-2-clause-others g t c =
    rw (← c.loop-first.invariant.both, c.peek.ensures.same, c.peek-in-loop-first.ensures.same, intersection-left-none c.loop-first.left.left c.loop-first.right.left (sym c.peek.ensures.first ∙ c.in_default.is-0)) refl

pub reading::next_of_union-returns-in_default-clause-first : goal.reading::next_of_union-returns-in_default-clause-first
reading::next_of_union-returns-in_default-clause-first g t c = rw (union-left-none c.args.direction c.args.left.now.left c.args.right.now.left (sym c.in_default.ensures.first)) c.next.ensures.first

pub reading::next_of_union-returns-in_default-clause-others : goal.reading::next_of_union-returns-in_default-clause-others
reading::next_of_union-returns-in_default-clause-others g t c =
    rest-left-none _ _ _ _ _ c.in_default.ensures.first (ap (λ p. p.left) c.peek.ensures.same) c.next.ensures.others

pub reading::next_of_union-returns-in_default-peek-clause-first : goal.reading::next_of_union-returns-in_default-peek-clause-first
reading::next_of_union-returns-in_default-peek-clause-first g t c =
    rw (union-right-none c.args.direction c.args.left.now.left c.args.right.now.left c.requires.left.in_order (sym c.in_default-peek.ensures.first))
    (c.next-in_default-peek.ensures.first ∙ ap (λ p. slice_get p.left 0) c.peek.ensures.same)

pub reading::next_of_union-returns-in_default-peek-clause-others : goal.reading::next_of_union-returns-in_default-peek-clause-others
reading::next_of_union-returns-in_default-peek-clause-others g t c =
    rest-right-none _ _ _ _ _ c.requires.left.in_order c.in_default-peek.ensures.first
    (c.next-in_default-peek.ensures.others ∙ ap (λ (p : Part). drop 1 p.left) c.peek.ensures.same) (ap (λ (p : Part). p.left) c.peek-2.ensures.same)

pub reading::next_of_union-returns-then-is_before-clause-first : goal.reading::next_of_union-returns-then-is_before-clause-first
reading::next_of_union-returns-then-is_before-clause-first g t c =
    first-left _ _ _ c.args.left.now.left c.args.right.now.left c.requires.left.in_order c.requires.right.in_order c.in-Some.ensures.first c.in-Some-peek.ensures.first _
    (sym c.is_before.ensures ∙ c.if-is_before.true) (c.next-then-is_before.ensures.first ∙ ap (λ (p : Part). slice_get p.left 0) c.peek.ensures.same)

pub reading::next_of_union-returns-then-is_before-clause-others : goal.reading::next_of_union-returns-then-is_before-clause-others
reading::next_of_union-returns-then-is_before-clause-others g t c =
    rest-left _ _ _ _ _ _ _ c.requires.left.in_order c.requires.right.in_order c.in-Some.ensures.first c.in-Some-peek.ensures.first
    (sym c.is_before.ensures ∙ c.if-is_before.true)
    (c.next-then-is_before.ensures.others ∙ ap (λ (p : Part). drop 1 p.left) c.peek.ensures.same) (ap (λ (p : Part). p.left) c.peek-2.ensures.same)

pub reading::next_of_union-returns-then-is_before-2-clause-first : goal.reading::next_of_union-returns-then-is_before-2-clause-first
reading::next_of_union-returns-then-is_before-2-clause-first g t c =
    first-right _ _ _ c.args.left.now.left c.args.right.now.left c.requires.left.in_order c.requires.right.in_order c.in-Some.ensures.first c.in-Some-peek.ensures.first _
    (sym c.is_before-2.ensures ∙ c.if-is_before-2.true) (c.next-then-is_before-2.ensures.first ∙ ap (λ (p : Part). slice_get p.left 0) c.peek-2.ensures.same)

pub reading::next_of_union-returns-then-is_before-2-clause-others : goal.reading::next_of_union-returns-then-is_before-2-clause-others
reading::next_of_union-returns-then-is_before-2-clause-others g t c =
    rest-right _ _ _ _ _ _ _ c.requires.left.in_order c.requires.right.in_order c.in-Some.ensures.first c.in-Some-peek.ensures.first
    (sym c.is_before-2.ensures ∙ c.if-is_before-2.true)
    (ap (λ (p : Part). p.left) c.peek.ensures.same) (c.next-then-is_before-2.ensures.others ∙ ap (λ (p : Part). drop 1 p.left) c.peek-2.ensures.same)

pub reading::next_of_union-returns-clause-first : goal.reading::next_of_union-returns-clause-first
reading::next_of_union-returns-clause-first g t c =
    first-both _ _ _ c.args.left.now.left c.args.right.now.left c.requires.left.in_order c.requires.right.in_order c.in-Some.ensures.first c.in-Some-peek.ensures.first _
    (sym c.is_before.ensures ∙ c.if-is_before.false) (sym c.is_before-2.ensures ∙ c.if-is_before-2.false)
    (c.next-3.ensures.first ∙ ap (λ (p : Part). slice_get p.left 0) c.peek-2.ensures.same)

pub reading::next_of_union-returns-clause-others : goal.reading::next_of_union-returns-clause-others
reading::next_of_union-returns-clause-others g t c =
    rest-both _ _ _ _ _ _ _ c.requires.left.in_order c.requires.right.in_order c.in-Some.ensures.first c.in-Some-peek.ensures.first
    (sym c.is_before.ensures ∙ c.if-is_before.false) (sym c.is_before-2.ensures ∙ c.if-is_before-2.false)
    (c.next-2.ensures.others ∙ ap (λ (p : Part). drop 1 p.left) c.peek.ensures.same) (c.next-3.ensures.others ∙ ap (λ (p : Part). drop 1 p.left) c.peek-2.ensures.same)

pub reading::next_of_intersection-returns-else-is_before-2-clause-others : goal.reading::next_of_intersection-returns-else-is_before-2-clause-others
reading::next_of_intersection-returns-else-is_before-2-clause-others g t c =
    let l = still c.args.direction _ _ c.requires.left c.loop-first.invariant.left_kept in
    let r = still c.args.direction _ _ c.requires.right c.loop-first.invariant.right_kept in
    rest-shared c.args.direction _ _ c.loop-first.left.left c.loop-first.right.left _ _ l.in_order r.in_order c.in-Some-Some.ensures.first c.in-Some-Some.ensures'.first
    (sym c.is_before.ensures ∙ c.if-is_before.false) (sym c.is_before-else-is_before.ensures ∙ c.if-is_before-2.false)
    (c.next.ensures.others ∙ ap (λ (p : Part). drop 1 p.left) c.peek.ensures.same) (c.next-else-is_before-2.ensures.others ∙ ap (λ (p : Part). drop 1 p.left) c.peek-in-loop-first.ensures.same)
    ∙ ap (drop 1) c.loop-first.invariant.both
