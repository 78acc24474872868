use Rattle.std.proofs.Common.{sym, ◌∙◌}
use Rattle.tf_scan.proofs.Postings.{behind-first}
use Rattle.tf_scan.proofs.posting_list.is_in_order.Goals as goal

pub loop-first-preserved-else-not-is_before : goal.loop-first-preserved-else-not-is_before
loop-first-preserved-else-not-is_before c =
    behind-first _ c.in-Some.first.now c.in-Some-first.next.now _ _ _ c.loop-first.invariant c.in-Some.ensures.cases.0 c.in-Some-first.ensures.value (sym c.is_before.ensures ∙ c.if-not-is_before.false)
