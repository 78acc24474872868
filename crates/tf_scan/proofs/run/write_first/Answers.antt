use Rattle.tf_scan.proofs.Keys.{keys-endless}
use Rattle.tf_scan.proofs.run.write_first.Goals as goal

pub returns-then-lasts_for_ends : goal.returns-then-lasts_for_ends
returns-then-lasts_for_ends c = λ rising.
    keys-endless c.args.direction c.args.turn.until c.args.keys.now rising (c.lasts_for_ends.ensures c.if-lasts_for_ends.true) c.args.from c.write_timestamps.result c.args.out.now c.write_timestamps.new.out c.write_timestamps.ensures
