use Rattle.std.proofs.Common.{◌++◌, ◌∙◌, ap, arith, length, take}
use Rattle.std.specs.List.{filter_map}
use Rattle.std.specs.Option.{option_and_then, option_copied}
use Rattle.std.proofs.lemmas.List.{length-take}
use Rattle.tf_look_ups.specs.Reads.{transfer_stamp_in, transfer_in}
use Rattle.tf_look_ups.proofs.Ahead.{more-ahead}
use Rattle.tf_look_ups.proofs.look_ups.transfers_under_ids.Goals as goal

pub loop-rest-preserved : goal.loop-rest-preserved
loop-rest-preserved g c =
    let part = c.split_at.result.0.now in
    let read = take (length part) c.transfers_ahead-found.result in
    record {
      found = more-ahead option_copied (λ id. option_and_then (transfer_in c.args.manifest.now) (transfer_stamp_in c.args.manifest.now id)) (λ o. o) read part c.split_at.result.1.now c.loop-rest.rest.now _ _ _ c.transfers_ahead-found.ensures.found c.split_at.ensures.by_index.0 c.push_records.ensures.items c.loop-rest.invariant.found;
      few = omega (arith, c.push_records.ensures.len, length-take (length part) c.transfers_ahead-found.result, c.split_at.ensures.front_len, c.split_at.ensures.back_len, c.loop-rest.invariant.few);
      room = c.push_records.ensures.room ∙ c.loop-rest.invariant.room;
      tables = c.transfers_ahead-found.ensures.tables;
    }

pub loop-rest-init : goal.loop-rest-init
loop-rest-init g c = record {
  found = ap (λ rows. rows ++ filter_map (λ id. option_and_then (transfer_in c.args.manifest.now) (transfer_stamp_in c.args.manifest.now id)) c.args.ids.now) c.in-Ok.ensures.items;
  few = omega (arith, c.in-Ok.ensures.len);
  room = c.in-Ok.ensures.exact;
  tables = c.in-Ok-tables_of_rising.ensures.ok;
}

pub split_at-requires : goal.split_at-requires
split_at-requires g c = omega (arith, c.min.ensures)

pub push_records-requires : goal.push_records-requires
push_records-requires g c = omega (arith, length-take (length c.split_at.result.0.now) c.transfers_ahead-found.result, c.split_at.ensures.front_len, c.split_at.ensures.back_len, c.loop-rest.invariant.few, c.loop-rest.invariant.room)

pub returns-clause-room : goal.returns-clause-room
returns-clause-room g c = c.loop-rest.invariant.room

pub returns-clause-refusal : goal.returns-clause-refusal
returns-clause-refusal g c = tt

pub transfers_ahead-found-requires-clause-ids : goal.transfers_ahead-found-requires-clause-ids
transfers_ahead-found-requires-clause-ids g c = omega (arith, c.min.ensures, c.split_at.ensures.front_len)

pub transfers_ahead-found-requires-clause-tables : goal.transfers_ahead-found-requires-clause-tables
transfers_ahead-found-requires-clause-tables g c = c.loop-rest.invariant.tables
