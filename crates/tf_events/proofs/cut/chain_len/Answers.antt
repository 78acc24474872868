use Rattle.std.proofs.Common.{◌∙◌, sym}
use Rattle.tf_events.proofs.Cuts.{linked_more, unlinked_last}
use Rattle.tf_events.proofs.cut.chain_len.Goals as goal

pub returns-then-not-is_linked : goal.returns-then-not-is_linked
returns-then-not-is_linked g c =
    unlinked_last g.E.Event.kind c.args.events.now c.loop-i.i c.index-events-i.result c.loop-i-test.true c.index-events-i.is
    (sym c.is_linked.ensures ∙ c.if-not-is_linked.true) c.loop-i.invariant

pub loop-i-preserved : goal.loop-i-preserved
loop-i-preserved g c =
    linked_more g.E.Event.kind c.args.events.now c.loop-i.i c.index-events-i.result c.loop-i-test.true c.index-events-i.is
    (sym c.is_linked.ensures ∙ c.if-not-is_linked.false) c.loop-i.invariant
