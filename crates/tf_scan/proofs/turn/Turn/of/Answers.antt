use Rattle.std.proofs.Common.{◌≡◌, ◌+◌, ◌-◌, ◌∙◌, ap, sym, arith, drop}
use Rattle.tf_scan.specs.Place.{nearer}
use Rattle.tf_scan.specs.Turn.{nearest_at}
use Rattle.tf_scan.proofs.Turns.{nearest-parts, first-at, first-but}
use Rattle.tf_scan.proofs.turn.Turn.of.Goals as goal

pub loop-rest-preserved-then-comes_first : goal.loop-rest-preserved-then-comes_first
loop-rest-preserved-then-comes_first g c =
    let d = c.args.direction in
    let places = c.args.places.now in
    let rest = c.loop-rest.rest in
    let turn = c.loop-rest.turn in
    let p = c.index-places-rest.result in
    let more : rest ≡ (rest - 1) + 1 = omega arith in
    record {
      within = omega arith;
      inside = omega (arith, c.loop-rest.invariant.within, c.loop-rest.invariant.inside);
      found = c.nearest-nearest.ensures ∙ first-at d places (rest - 1) rest p (omega arith) (sym c.index-places-rest.is) more;
      until =
          c.nearer_of.ensures
          ∙ ap (λ n. nearer d n turn.until) c.loop-rest.invariant.found
          ∙ ap (nearer d (nearest_at d (turn.place - rest) (drop rest places))) c.loop-rest.invariant.until
          ∙ sym (nearest-parts d (turn.place - rest) (drop rest places))
          ∙ first-but d places (rest - 1) rest p (omega arith) (sym c.index-places-rest.is) more;
    }
