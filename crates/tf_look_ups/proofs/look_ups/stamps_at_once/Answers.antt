use Rattle.std.proofs.Common.{◌≡◌, ◌∙◌, None, ap, arith, get_or, length, map, subst, take}
use Rattle.std.specs.Option.{option_and_then, option_copied, option_flatten}
use Rattle.std.proofs.lemmas.List.{length-set, take_all}
use Rattle.tf_table.specs.Content.{entry_of}
use Rattle.tf_manifest.specs.declared.kind.Kind.TheVariants as kind
use Rattle.tf_registry.specs.Row.{content_at, lists_of}
use Rattle.tf_manifest.specs.Rows.{key_of}
use Rattle.tf_manifest.specs.View.{View, tables_by}
use Rattle.tf_look_ups.specs.Reads.{stored_stamp, transfer_stamp_in}
use Rattle.tf_look_ups.proofs.Ahead.{given-ahead, same-ahead}
use Rattle.tf_look_ups.proofs.look_ups.stamps_at_once.Goals as goal

pub loop-place-preserved : goal.loop-place-preserved
loop-place-preserved g c =
    let ids = c.args.ids.now in
    let found = given-ahead option_copied (λ id. entry_of (key_of id 0) (lists_of c.references.result.now)) c.entries_of_values-entries.result ids c.loop-place.place None 0 (omega arith) c.entries_of_values-entries.ensures in
    let stamp = c.stamp_of.ensures ∙ ap (λ e. option_and_then stored_stamp (option_flatten e)) found ∙ ap (λ tables. option_and_then stored_stamp (content_at (key_of (get_or ids c.loop-place.place 0) 0) tables)) (c.references.ensures.value ∙ c.row.ensures.row ∙ ap (λ (v : View). tables_by v kind.Id) c.manifest.view_is) in
    record {
      found = same-ahead (transfer_stamp_in c.args.manifest.now) c.loop-place.stamps c.stamp_of.result ids c.loop-place.place 0 (omega (arith, c.loop-place.invariant.wide)) (omega arith) stamp c.loop-place.invariant.found;
      wide = length-set c.loop-place.stamps c.loop-place.place _ ∙ c.loop-place.invariant.wide;
    }

pub row-requires : goal.row-requires
row-requires g c = omega (arith, c.manifest.invariant.1.ids)

pub returns : goal.returns
returns g c =
    let ids = c.args.ids.now in
    let stamp = transfer_stamp_in c.args.manifest.now in
    let all : c.loop-place.place ≡ length ids = omega arith in
    subst (λ n. take n c.loop-place.stamps ≡ map stamp (take n ids)) all c.loop-place.invariant.found ∙ ap (map stamp) (take_all (length ids) ids (omega arith))
