use Rattle.std.proofs.Common.{◌∙◌, ◌++◌, arith, length, min, ap, take, drop}
use Rattle.tf_scan.specs.Place.{lists_left}
use Rattle.tf_scan.specs.Prefix.{prefix_of}
use Rattle.tf_scan.specs.Sequence.{Sequence}
use Rattle.tf_scan.proofs.Across.{refilled}
use Rattle.tf_scan.proofs.prefix.PrefixLeaf.take_into.Goals as goal

pub invariant_of-self : goal.invariant_of-self
invariant_of-self g c =
    rw (refilled c.self.inside.places.items c.take_into.new.places (omega (arith, c.take_into.auto.places, ap length c.as_mut_slice.ensures.value))) (c.take_into.ensures.right, c.take_into.ensures.turn)

pub returns-clause-count : goal.returns-clause-count
returns-clause-count g c =
    c.take_into.ensures.count
    ∙ ap (λ ps. min (length c.args.out.now) (length (prefix_of c.self.inside.direction c.self.inside.value (lists_left c.self.inside.direction c.self.inside.value ps)))) c.as_mut_slice.ensures.value
    ∙ ap (λ (s : Sequence). min (length c.args.out.now) (length s.left)) c.self.view_is

pub returns-clause-moved : goal.returns-clause-moved
returns-clause-moved g c =
    let n = c.take_into.result in
    c.take_into.ensures.moved
    ∙ ap (λ ps. take n (prefix_of c.self.inside.direction c.self.inside.value (lists_left c.self.inside.direction c.self.inside.value ps)) ++ drop n c.args.out.now) c.as_mut_slice.ensures.value
    ∙ ap (λ (s : Sequence). take n s.left ++ drop n c.args.out.now) c.self.view_is

pub returns-clause-others : goal.returns-clause-others
returns-clause-others g c =
    let d = c.self.inside.direction in
    let v = c.self.inside.value in
    let n = c.take_into.result in
    ap (λ ps. prefix_of d v (lists_left d v ps)) (refilled c.self.inside.places.items c.take_into.new.places (omega (arith, c.take_into.auto.places, ap length c.as_mut_slice.ensures.value)))
    ∙ c.take_into.ensures.others
    ∙ ap (λ ps. drop n (prefix_of d v (lists_left d v ps))) c.as_mut_slice.ensures.value
    ∙ ap (λ (s : Sequence). drop n s.left) c.self.view_is
