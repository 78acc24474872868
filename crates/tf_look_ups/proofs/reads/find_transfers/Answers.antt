use Rattle.std.proofs.Common.{arith, ◌∙◌, ap, get_or}
use Rattle.std.specs.Option.{option_copied}
use Rattle.std.proofs.lemmas.List.{length-set}
use Rattle.tf_registry.specs.Row.{content_at}
use Rattle.tf_manifest.specs.Rows.{key_of}
use Rattle.tf_look_ups.specs.Reads.{stored_record}
use Rattle.tf_look_ups.proofs.Ahead.{one-ahead}
use Rattle.tf_look_ups.proofs.reads.find_transfers.Goals as goal

pub loop-place-preserved : goal.loop-place-preserved
loop-place-preserved g c = record {
  found = one-ahead option_copied (λ t. stored_record (content_at (key_of 0 t) c.args.transfers.now)) _ _ c.args.timestamps.now c.loop-place.place _ (omega (arith, c.loop-place.invariant.wide)) (omega arith) (c.found_transfer.ensures.found ∙ ap (λ tables. stored_record (content_at (key_of 0 (get_or c.args.timestamps.now c.loop-place.place 0)) tables)) c.loop-place.invariant.same) c.loop-place.invariant.found;
  wide = length-set c.loop-place.found c.loop-place.place _ ∙ c.loop-place.invariant.wide;
  same = c.found_transfer.ensures.same ∙ c.loop-place.invariant.same;
}
