use Rattle.std.proofs.Common.{◌++◌, ◌∙◌, ap, arith, length, map, take}
use Rattle.std.specs.List.{filter_map}
use Rattle.std.specs.Option.{option_copied}
use Rattle.std.proofs.lemmas.List.{length-take}
use Rattle.tf_registry.specs.Row.{content_at}
use Rattle.tf_manifest.specs.declared.kind.Kind.TheVariants as kind
use Rattle.tf_manifest.specs.Rows.{key_of}
use Rattle.tf_manifest.specs.View.{View, tables_by}
use Rattle.tf_look_ups.specs.Reads.{stored_record, transfer_in}
use Rattle.tf_look_ups.proofs.Ahead.{more-ahead}
use Rattle.tf_look_ups.proofs.reads.transfers_at.Goals as goal

pub loop-transfers-preserved : goal.loop-transfers-preserved
loop-transfers-preserved g c =
    let part = c.split_at.result.0.now in
    let read = take (length part) c.find_transfers-found.result in
    let found = c.find_transfers-found.ensures.found ∙ ap (λ tables. map (λ t. stored_record (content_at (key_of 0 t) tables)) part) c.loop-transfers.invariant.tables in
    record {
      found = more-ahead option_copied (transfer_in c.args.manifest.now) (λ o. o) read part c.split_at.result.1.now c.loop-transfers.rest.now _ _ _ found c.split_at.ensures.by_index.0 c.push_records.ensures.items c.loop-transfers.invariant.found;
      few = omega (arith, c.push_records.ensures.len, length-take (length part) c.find_transfers-found.result, c.split_at.ensures.front_len, c.split_at.ensures.back_len, c.loop-transfers.invariant.few);
      tables = c.find_transfers-found.ensures.same ∙ c.loop-transfers.invariant.tables;
      room = c.push_records.ensures.room ∙ c.loop-transfers.invariant.room;
    }

pub row-requires : goal.row-requires
row-requires g c = omega (arith, c.manifest.invariant.1.transfers)

pub loop-transfers-init : goal.loop-transfers-init
loop-transfers-init g c = record {
  found = ap (λ rows. rows ++ filter_map (transfer_in c.args.manifest.now) c.args.timestamps.now) c.in-Ok.ensures.items;
  few = omega (arith, c.in-Ok.ensures.len);
  tables = c.new-transfers.ensures ∙ c.row.ensures.row ∙ ap (λ (v : View). tables_by v kind.Transfer) c.manifest.view_is;
  room = c.in-Ok.ensures.exact;
}

pub split_at-requires : goal.split_at-requires
split_at-requires g c = omega (arith, c.min.ensures)

pub push_records-requires : goal.push_records-requires
push_records-requires g c = omega (arith, length-take (length c.split_at.result.0.now) c.find_transfers-found.result, c.split_at.ensures.front_len, c.split_at.ensures.back_len, c.loop-transfers.invariant.few, c.loop-transfers.invariant.room)

pub returns-clause-room : goal.returns-clause-room
returns-clause-room g c = c.loop-transfers.invariant.room

pub returns-clause-refusal : goal.returns-clause-refusal
returns-clause-refusal g c = tt
