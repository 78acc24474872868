use Rattle.std.proofs.Common.{◌∙◌, arith, None}
use Rattle.std.specs.Option.{option_and_then, option_copied}
use Rattle.std.proofs.lemmas.List.{length-set}
use Rattle.tf_table.specs.Content.{entry_of}
use Rattle.tf_registry.specs.Row.{lists_of}
use Rattle.tf_manifest.specs.Rows.{key_of}
use Rattle.tf_look_ups.proofs.Ahead.{one-ahead}
use Rattle.tf_look_ups.proofs.at_once.entries_at_stamps.Goals as goal

pub loop-place-preserved : goal.loop-place-preserved
loop-place-preserved g c = record {
  found = one-ahead option_copied (option_and_then (λ t. entry_of (key_of 0 t) (lists_of c.args.references.now))) c.loop-place.found c.entry_at_stamp.result c.args.stamps.now c.loop-place.place None (omega (arith, c.loop-place.invariant.wide)) (omega arith) (c.entry_at_stamp.ensures) c.loop-place.invariant.found;
  wide = length-set c.loop-place.found c.loop-place.place _ ∙ c.loop-place.invariant.wide;
}
