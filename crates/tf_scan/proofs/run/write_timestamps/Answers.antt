use Rattle.std.proofs.Common.{◌∙◌, sym, arith}
use Rattle.tf_scan.proofs.Keys.{keys-none, keys-more}
use Rattle.tf_scan.proofs.run.write_timestamps.Goals as goal

pub loop-to-init : goal.loop-to-init
loop-to-init c = keys-none c.args.direction c.args.turn.until c.args.from c.args.keys.now c.args.out.now c.requires

pub loop-to-preserved : goal.loop-to-preserved
loop-to-preserved c =
    keys-more c.args.direction c.args.turn.until c.args.from c.loop-to.to c.args.keys.now c.loop-to.left.now c.in-Some.others.now c.args.out.now c.loop-to.out c.loop-to.invariant c.in-Some.key.now c.in-Some.ensures (sym c.has.ensures ∙ c.if-not-has.false) (omega arith)
