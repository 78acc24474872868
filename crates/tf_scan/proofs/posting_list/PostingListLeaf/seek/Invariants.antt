use Rattle.std.proofs.Common.{length}
use Rattle.tf_scan.proofs.Postings.{IsSought}
use Rattle.tf_scan.proofs.posting_list.PostingListLeaf.seek.Given as goal

abbrev pub invariant-loop-first : goal.invariant-loop-first
invariant-loop-first l = IsSought l.timestamp l.fn.self l.self-inside.direction l.self-inside.timestamps.now

abbrev pub decreases-loop-first : goal.decreases-loop-first
decreases-loop-first l = length l.self-inside.timestamps.now
