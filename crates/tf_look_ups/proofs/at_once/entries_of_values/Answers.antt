use Rattle.std.proofs.Common.{◌∙◌, ap, arith}
use Rattle.std.specs.Option.{option_copied}
use Rattle.std.proofs.lemmas.List.{length-set}
use Rattle.tf_table.specs.Content.{entry_of}
use Rattle.tf_registry.specs.Row.{lists_of}
use Rattle.tf_manifest.specs.Rows.{key_of}
use Rattle.tf_look_ups.proofs.Ahead.{one-ahead}
use Rattle.tf_look_ups.proofs.at_once.entries_of_values.Goals as goal

pub loop-place-preserved : goal.loop-place-preserved
loop-place-preserved g c = record {
  found = one-ahead option_copied (λ value. entry_of (key_of value 0) (lists_of c.args.references.now)) c.loop-place.found c.entry_in.result c.args.values.now c.loop-place.place 0 (omega (arith, c.loop-place.invariant.wide)) (omega arith) (c.entry_in.ensures ∙ ap (λ k. entry_of k (lists_of c.args.references.now)) c.key_of.ensures) c.loop-place.invariant.found;
  wide = length-set c.loop-place.found c.loop-place.place _ ∙ c.loop-place.invariant.wide;
}
