use Rattle.std.proofs.Common.{arith, length, ap, drop, ◌∙◌}
use Rattle.std.specs.Prelude.{slice_get}
use Rattle.tf_scan.specs.Place.{lists_left}
use Rattle.tf_scan.specs.Prefix.{prefix_of}
use Rattle.tf_scan.specs.Sequence.{Sequence}
use Rattle.tf_scan.proofs.Across.{refilled}
use Rattle.tf_scan.proofs.prefix.PrefixLeaf.next.Goals as goal

pub invariant_of-self : goal.invariant_of-self
invariant_of-self g c =
    rw (refilled c.self.inside.places.items c.next.new.places (omega (arith, c.next.auto.places, ap length c.as_mut_slice.ensures.value))) (c.next.ensures.right, c.next.ensures.turn)

pub returns-clause-first : goal.returns-clause-first
returns-clause-first g c =
    c.next.ensures.first
    ∙ ap (λ ps. slice_get (prefix_of c.self.inside.direction c.self.inside.value (lists_left c.self.inside.direction c.self.inside.value ps)) 0) c.as_mut_slice.ensures.value
    ∙ ap (λ (s : Sequence). slice_get s.left 0) c.self.view_is

pub returns-clause-others : goal.returns-clause-others
returns-clause-others g c =
    let d = c.self.inside.direction in
    let v = c.self.inside.value in
    ap (λ ps. prefix_of d v (lists_left d v ps)) (refilled c.self.inside.places.items c.next.new.places (omega (arith, c.next.auto.places, ap length c.as_mut_slice.ensures.value)))
    ∙ c.next.ensures.others
    ∙ ap (λ ps. drop 1 (prefix_of d v (lists_left d v ps))) c.as_mut_slice.ensures.value
    ∙ ap (λ (s : Sequence). drop 1 s.left) c.self.view_is
