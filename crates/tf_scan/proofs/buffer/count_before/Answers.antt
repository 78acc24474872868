use Rattle.std.proofs.Common.{sym, ◌∙◌, arith}
use Rattle.tf_scan.proofs.Buffers.{before-more, before-end}
use Rattle.tf_scan.proofs.buffer.count_before.Goals as goal

pub returns-then-not-is_before-clause-others : goal.returns-then-not-is_before-clause-others
returns-then-not-is_before-clause-others c =
    before-end c.args.direction c.args.timestamp c.args.timestamps.now c.loop-count.count (omega arith) c.loop-count.invariant c.requires (sym c.is_before.ensures ∙ c.if-not-is_before.true)

pub loop-count-preserved : goal.loop-count-preserved
loop-count-preserved c =
    before-more c.args.direction c.args.timestamp c.args.timestamps.now c.loop-count.count (omega arith) c.loop-count.invariant (sym c.is_before.ensures ∙ c.if-not-is_before.false)
