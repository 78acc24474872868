use Rattle.std.proofs.Common.{◌≡◌, ◌∙◌, ℕ, List, Option, None, Some, refl, ap, arith, length, take, get_or}
use Rattle.std.specs.Option.{option_and_then, option_copied, option_flatten}
use Rattle.std.proofs.lemmas.List.{get_or-map, length-map, length-set}
use Rattle.tf_records.specs.declared.transfer.Transfer.{Transfer}
use Rattle.tf_table.specs.declared.key.Key.{Key}
use Rattle.tf_table.specs.Content.{entry_of}
use Rattle.tf_manifest.specs.declared.kind.Kind.TheVariants as kind
use Rattle.tf_manifest.specs.declared.kinds.Stored.{Stored}
use Rattle.tf_registry.specs.Row.{content_at, lists_of}
use Rattle.tf_manifest.specs.Rows.{key_of}
use Rattle.tf_manifest.specs.View.{View, tables_by}
use Rattle.tf_look_ups.specs.Reads.{stored_record, transfer_stamp_in, transfer_in}
use Rattle.tf_look_ups.proofs.Ahead.{given-ahead, one-ahead}
use Rattle.tf_look_ups.proofs.look_ups.transfers_ahead.Goals as goal

-- what is stored at a timestamp, if there is a timestamp
stored_at : (lists : List (List (Key × Option (Stored Transfer)))) (stamp : Option ℕ) → stored_record (option_flatten (option_and_then (λ t. entry_of (key_of 0 t) lists) stamp)) ≡ option_and_then (λ t. stored_record (option_flatten (entry_of (key_of 0 t) lists))) stamp
stored_at lists None = refl
stored_at lists (Some t) = refl

pub loop-place-preserved : goal.loop-place-preserved
loop-place-preserved g c =
    let ids = c.args.ids.now in
    let lists = lists_of c.references.result.now in
    let part = take (length ids) c.transfer_stamps-stamps.result in
    let stamp : get_or part c.loop-place.place None ≡ transfer_stamp_in c.args.manifest.now (get_or ids c.loop-place.place 0) = ap (λ ss. get_or ss c.loop-place.place None) c.transfer_stamps-stamps.ensures.found ∙ get_or-map (transfer_stamp_in c.args.manifest.now) ids c.loop-place.place 0 None (omega arith) in
    let found = given-ahead option_copied (option_and_then (λ t. entry_of (key_of 0 t) lists)) c.entries_at_stamps-entries.result part c.loop-place.place None None (omega (arith, ap length c.transfer_stamps-stamps.ensures.found, length-map ids (transfer_stamp_in c.args.manifest.now))) c.entries_at_stamps-entries.ensures in
    let transfer = c.transfer_of.ensures
    ∙ ap (λ e. stored_record (option_flatten e)) found
    ∙ stored_at lists (get_or part c.loop-place.place None)
    ∙ ap (λ tables. option_and_then (λ t. stored_record (content_at (key_of 0 t) tables)) (get_or part c.loop-place.place None)) (c.references.ensures.value ∙ c.row.ensures.row ∙ ap (λ (v : View). tables_by v kind.Transfer) c.manifest.view_is)
    ∙ ap (option_and_then (transfer_in c.args.manifest.now)) stamp in
    record {
      found = one-ahead option_copied (λ id. option_and_then (transfer_in c.args.manifest.now) (transfer_stamp_in c.args.manifest.now id)) c.loop-place.found c.transfer_of.result ids c.loop-place.place 0 (omega (arith, c.loop-place.invariant.wide)) (omega arith) transfer c.loop-place.invariant.found;
      wide = length-set c.loop-place.found c.loop-place.place _ ∙ c.loop-place.invariant.wide;
    }
