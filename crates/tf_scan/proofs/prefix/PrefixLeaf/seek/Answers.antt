use Rattle.std.proofs.Common.{ap, subst, ◌∙◌}
use Rattle.std.specs.List.{AllZip}
use Rattle.tf_scan.specs.Order.{those_from}
use Rattle.tf_scan.specs.Place.{lists_left, Seeks}
use Rattle.tf_scan.specs.Prefix.{prefix_of}
use Rattle.tf_scan.specs.Sequence.{Sequence}
use Rattle.tf_scan.proofs.Across.{refilled, seeks-long, seeks-right, sought}
use Rattle.tf_scan.proofs.prefix.PrefixLeaf.seek.Goals as goal

pub invariant_of-self : goal.invariant_of-self
invariant_of-self g c =
    let d = c.self.inside.direction in
    let v = c.self.inside.value in
    let items = c.self.inside.places.items in
    let done = subst (λ ps. AllZip (Seeks d v c.args.timestamp) ps c.seek.new.places) c.as_mut_slice.ensures.value c.seek.ensures.sought in
    rw (refilled items c.seek.new.places (seeks-long d v c.args.timestamp items c.seek.new.places done)) (seeks-right d v c.args.timestamp items c.seek.new.places done, c.seek.ensures.turn)

pub returns-clause-others : goal.returns-clause-others
returns-clause-others g c =
    let d = c.self.inside.direction in
    let v = c.self.inside.value in
    let items = c.self.inside.places.items in
    let done = subst (λ ps. AllZip (Seeks d v c.args.timestamp) ps c.seek.new.places) c.as_mut_slice.ensures.value c.seek.ensures.sought in
    ap (λ ps. prefix_of d v (lists_left d v ps)) (refilled items c.seek.new.places (seeks-long d v c.args.timestamp items c.seek.new.places done))
    ∙ sought d v c.args.timestamp items c.seek.new.places done
    ∙ ap (λ (s : Sequence). those_from s.direction c.args.timestamp s.left) c.self.view_is
