use Rattle.std.proofs.Common.{◌++◌, ◌+◌, ap, subst, sym, ◌∙◌, take, drop}
use Rattle.tf_scan.specs.Order.{IsInOrder}
use Rattle.tf_scan.specs.Sequence.{Sequence}
use Rattle.tf_scan.proofs.Order.{in_order-rest}
use Rattle.tf_scan.proofs.Moves.{moved-list, moved-rest}
use Rattle.tf_scan.proofs.Buffers.{moved-both}
use Rattle.tf_scan.proofs.buffered.BufferedLeaf.take_into.Goals as goal

pub invariant_of-self : goal.invariant_of-self
invariant_of-self g c =
    let kept = c.take_into-kept.ensures in
    let more = c.take_into-more.ensures in
    let rest = moved-rest _ _ _ _ _ (moved-both _ _ _ _ _ _ _ _ _ kept.count kept.moved kept.others more.count more.moved more.others) in
    subst (λ d. IsInOrder d (c.take_into-kept.new.self ++ g.P.Leaf.left c.take_into-more.new.self)) (sym more.direction_kept)
    (subst (IsInOrder (g.P.Leaf.direction c.self.inside.leaf)) (sym rest) (in_order-rest _ (c.take_into-kept.result + c.take_into-more.result) _ c.self.invariant))

pub returns-clause-moved : goal.returns-clause-moved
returns-clause-moved g c =
    let kept = c.take_into-kept.ensures in
    let more = c.take_into-more.ensures in
    let n = c.take_into-kept.result + c.take_into-more.result in
    moved-list _ _ _ _ _ (moved-both _ _ _ _ _ _ _ _ _ kept.count kept.moved kept.others more.count more.moved more.others) ∙ ap (λ (s : Sequence). take n s.left ++ drop n c.args.out.now) c.self.view_is

pub returns-clause-others : goal.returns-clause-others
returns-clause-others g c =
    let kept = c.take_into-kept.ensures in
    let more = c.take_into-more.ensures in
    let n = c.take_into-kept.result + c.take_into-more.result in
    moved-rest _ _ _ _ _ (moved-both _ _ _ _ _ _ _ _ _ kept.count kept.moved kept.others more.count more.moved more.others) ∙ ap (λ (s : Sequence). drop n s.left) c.self.view_is
