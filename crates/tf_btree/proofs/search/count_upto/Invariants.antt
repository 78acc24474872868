use Rattle.tf_btree.proofs.Words.{◌≡◌, ◌<◌, ◌≤◌, length, get_or, true, is_gt}
use Rattle.tf_btree.proofs.search.count_upto.Given as goal

abbrev pub invariant-loop-count : goal.invariant-loop-count
invariant-loop-count g l =
    (l.count ≤ length l.keys)
    × ((d : g.row.K.Denot) → l.count < length l.keys → is_gt (g.K.Ord.cmp (get_or l.keys l.count d) l.key) ≡ true)

abbrev pub decreases-loop-count : goal.decreases-loop-count
decreases-loop-count g l = l.count
