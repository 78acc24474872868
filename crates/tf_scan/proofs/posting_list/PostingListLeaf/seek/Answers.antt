use Rattle.std.proofs.Common.{sym, ◌∙◌}
use Rattle.tf_scan.proofs.Postings.{over}
use Rattle.tf_scan.proofs.posting_list.PostingListLeaf.seek.Goals as goal

pub returns-then-not-is_before-clause-others : goal.returns-then-not-is_before-clause-others
returns-then-not-is_before-clause-others c =
    over _ c.in-Some.first.now c.args.timestamp _ _ _ c.loop-first.invariant.in_order c.in-Some.ensures.cases.0 (sym c.is_before.ensures ∙ c.if-not-is_before.true) c.loop-first.invariant.same
