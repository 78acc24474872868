use Rattle.std.proofs.Common.{ap, arith, ◌∙◌}
use Rattle.std.specs.List.{filter_map}
use Rattle.std.proofs.lemmas.List.{take_all}
use Rattle.tf_look_ups.specs.Reads.{shown_in}
use Rattle.tf_look_ups.proofs.Found.{more-found}
use Rattle.tf_look_ups.proofs.reads.accounts_at.Goals as goal

pub loop-timestamp-preserved : goal.loop-timestamp-preserved
loop-timestamp-preserved g c = record {
  found = more-found (shown_in c.args.manifest.now) c.args.timestamps.now c.loop-timestamp.timestamp-index _ _ _ _ (omega arith) c.account_at.ensures c.push_found.ensures.items c.loop-timestamp.invariant.found;
  few = omega (arith, c.push_found.ensures.len, c.loop-timestamp.invariant.few);
  room = c.push_found.ensures.room ∙ c.loop-timestamp.invariant.room;
}

pub push_found-requires : goal.push_found-requires
push_found-requires g c = omega (arith, c.loop-timestamp-test.true, c.loop-timestamp.invariant.few, c.loop-timestamp.invariant.room)

pub returns-clause-ok : goal.returns-clause-ok
returns-clause-ok g c = c.loop-timestamp.invariant.found ∙ ap (filter_map (shown_in c.args.manifest.now)) (take_all c.loop-timestamp.timestamp-index c.args.timestamps.now c.loop-timestamp-test.false)

pub returns-clause-room : goal.returns-clause-room
returns-clause-room g c = c.loop-timestamp.invariant.room

pub returns-clause-refusal : goal.returns-clause-refusal
returns-clause-refusal g c = tt
