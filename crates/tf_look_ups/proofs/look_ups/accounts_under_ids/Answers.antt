use Rattle.std.proofs.Common.{ap, arith, ◌∙◌}
use Rattle.std.specs.List.{filter_map}
use Rattle.std.specs.Option.{option_and_then}
use Rattle.std.proofs.lemmas.List.{take_all}
use Rattle.tf_look_ups.specs.Reads.{account_stamp_in, shown_in}
use Rattle.tf_look_ups.proofs.Found.{more-found}
use Rattle.tf_look_ups.proofs.look_ups.accounts_under_ids.Goals as goal

pub loop-id-preserved : goal.loop-id-preserved
loop-id-preserved g c = record {
  found = more-found (λ id. option_and_then (shown_in c.args.manifest.now) (account_stamp_in c.args.manifest.now id)) c.args.ids.now c.loop-id.id-index _ _ _ _ (omega arith) c.account.ensures c.push_found.ensures.items c.loop-id.invariant.found;
  few = omega (arith, c.push_found.ensures.len, c.loop-id.invariant.few);
  room = c.push_found.ensures.room ∙ c.loop-id.invariant.room;
}

pub push_found-requires : goal.push_found-requires
push_found-requires g c = omega (arith, c.loop-id-test.true, c.loop-id.invariant.few, c.loop-id.invariant.room)

pub returns-clause-ok : goal.returns-clause-ok
returns-clause-ok g c = c.loop-id.invariant.found ∙ ap (filter_map (λ id. option_and_then (shown_in c.args.manifest.now) (account_stamp_in c.args.manifest.now id))) (take_all c.loop-id.id-index c.args.ids.now c.loop-id-test.false)

pub returns-clause-room : goal.returns-clause-room
returns-clause-room g c = c.loop-id.invariant.room

pub returns-clause-refusal : goal.returns-clause-refusal
returns-clause-refusal g c = tt
