use Rattle.std.proofs.Common.{◌∙◌, sym, arith}
use Rattle.tf_scan.proofs.Turns.{at-place, at-none}
use Rattle.tf_scan.proofs.turn.nearest_of_place.Goals as goal

pub returns-then-place-places : goal.returns-then-place-places
returns-then-place-places g c =
    c.nearest.ensures ∙ sym (at-place c.args.direction c.args.place c.args.places.now c.index-places-place.result (omega arith) (sym c.index-places-place.is))

pub returns-else-place-places : goal.returns-else-place-places
returns-else-place-places g c = sym (at-none c.args.direction c.args.place c.args.places.now (omega arith))
