use Rattle.std.proofs.Common.{◌∙◌, ap, arith, get_or}
use Rattle.std.specs.Option.{option_and_then, option_flatten}
use Rattle.std.proofs.lemmas.List.{length-set}
use Rattle.tf_look_ups.specs.Reads.{stamp_by, stored_stamp}
use Rattle.tf_look_ups.proofs.Ahead.{same-ahead}
use Rattle.tf_look_ups.proofs.look_ups.stamps_one_by_one.Goals as goal

pub loop-place-preserved : goal.loop-place-preserved
loop-place-preserved g c = record {
  same = c.entry_in_gapped.ensures.same ∙ c.loop-place.invariant.same;
  found = same-ahead (stamp_by c.args.tables.now) c.loop-place.stamps c.stamp_of.result c.args.ids.now c.loop-place.place 0 (omega (arith, c.loop-place.invariant.wide)) (omega arith)
      (c.stamp_of.ensures ∙ ap (λ e. option_and_then stored_stamp (option_flatten e)) c.entry_in_gapped.ensures.found ∙ ap (λ tables. stamp_by tables (get_or c.args.ids.now c.loop-place.place 0)) c.loop-place.invariant.same) c.loop-place.invariant.found;
  wide = length-set c.loop-place.stamps c.loop-place.place _ ∙ c.loop-place.invariant.wide;
}
