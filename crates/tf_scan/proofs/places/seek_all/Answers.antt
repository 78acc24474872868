use Rattle.std.proofs.Common.{arith, sym, subst}
use Rattle.tf_scan.specs.Place.{Seeks}
use Rattle.tf_scan.proofs.Walked.{walked-more}
use Rattle.tf_scan.proofs.places.seek_all.Goals as goal

pub loop-place-preserved : goal.loop-place-preserved
loop-place-preserved g c =
    walked-more (Seeks c.args.direction c.args.value c.args.timestamp) c.loop-place.place-index c.args.places.now c.loop-place.places c.place-item.result c.seek.new.self c.loop-place.invariant (omega arith) c.place-item.is
    (subst (λ q. Seeks c.args.direction c.args.value c.args.timestamp q c.seek.new.self) (sym c.place-item.is) c.seek.ensures)
