use Rattle.tf_btree.proofs.Words.{◌≡◌, ◌<◌, ◌≤◌, length, get_or, false, is_lt}
use Rattle.tf_btree.proofs.search.count_below.Given as goal

abbrev pub invariant-loop-count : goal.invariant-loop-count
invariant-loop-count g l =
    (l.count ≤ length l.keys)
    × ((d : g.row.K.Denot) → l.count < length l.keys → is_lt (g.K.Ord.cmp (get_or l.keys l.count d) l.key) ≡ false)

abbrev pub decreases-loop-count : goal.decreases-loop-count
decreases-loop-count g l = l.count
