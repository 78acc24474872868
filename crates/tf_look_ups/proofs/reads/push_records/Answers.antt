use Rattle.std.proofs.Common.{arith, ◌∙◌, ap}
use Rattle.std.specs.Option.{option_copied}
use Rattle.tf_look_ups.proofs.Found.{more-behind}
use Rattle.tf_look_ups.proofs.reads.push_records.Goals as goal

pub loop-record-preserved : goal.loop-record-preserved
loop-record-preserved g c = record {
  found = more-behind option_copied c.args.found.now c.loop-record.record-index _ _ _ _ _ (omega arith) (ap option_copied c.record-item.is) c.push_record.ensures.items c.loop-record.invariant.found;
  few = omega (arith, c.push_record.ensures.len, c.loop-record.invariant.few);
  room = c.push_record.ensures.room ∙ c.loop-record.invariant.room;
}
