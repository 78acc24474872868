use Rattle.std.proofs.Common.{◌≡◌, arith, ap, cond, sym, ◌∙◌, subst}
use Rattle.tf_table.specs.Content.{entry_at}
use Rattle.tf_manifest.specs.Rows.{key_of}
use Rattle.tf_scan.specs.Place.{rows_left, Takes}
use Rattle.tf_scan.proofs.Walked.{walked-more}
use Rattle.tf_scan.proofs.Across.{entry-more}
use Rattle.tf_scan.proofs.places.take_all.Goals.{then-is_none, else-is_none}
use Rattle.tf_scan.proofs.places.take_all.Goals as goal

pub loop-place-preserved : goal.loop-place-preserved
loop-place-preserved g c =
    let d = c.args.direction in
    let v = c.args.value in
    let t = c.args.timestamp in
    let i = c.loop-place.place-index in
    let p = c.place-item.result in
    let walked = c.loop-place.invariant.walked in
    let newest : c.if-is_none.newest ≡ cond c.is_none.result c.take-entry.result c.loop-place.newest = elim c.if-is_none.branch [
      | then-is_none w ↦ w.newest-is ∙ sym (ap (λ b. cond b c.take-entry.result c.loop-place.newest) w.if-is_none.true)
      | else-is_none w ↦ w.newest-is ∙ sym (ap (λ b. cond b c.take-entry.result c.loop-place.newest) w.if-is_none.false)
    ] in
    record {
      walked = walked-more (Takes d v t) i c.args.places.now c.loop-place.places p c.take-entry.new.self walked (omega arith) c.place-item.is
          (subst (λ q. Takes d v t q c.take-entry.new.self) (sym c.place-item.is) c.take-entry.ensures.taken);
      newest = entry-more d v t c.args.places.now c.loop-place.places i p walked (omega arith) c.place-item.is c.loop-place.newest c.take-entry.result c.if-is_none.newest c.is_none.result
          c.is_none.ensures newest c.loop-place.invariant.newest (c.take-entry.ensures.entry ∙ ap (λ q. entry_at (key_of v t) (rows_left d v q)) (sym c.place-item.is));
    }
