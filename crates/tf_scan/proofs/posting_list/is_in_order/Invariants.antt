use Rattle.std.proofs.Common.{length}
use Rattle.tf_scan.proofs.Postings.{AreInOrderAlike}
use Rattle.tf_scan.proofs.posting_list.is_in_order.Given as goal

abbrev pub invariant-loop-first : goal.invariant-loop-first
invariant-loop-first l = AreInOrderAlike l.direction l.timestamps l.left

abbrev pub decreases-loop-first : goal.decreases-loop-first
decreases-loop-first l = length l.left
