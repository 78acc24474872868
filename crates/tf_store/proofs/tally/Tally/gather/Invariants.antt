use Rattle.std.proofs.Common.{◌≡◌, ◌+◌, sum, vec_len}
use Rattle.tf_store.proofs.tally.Tally.gather.Given as goal

abbrev pub invariant-loop-share : goal.invariant-loop-share
invariant-loop-share g l =
    (l.all-inside.token.parts + vec_len l.shares ≡ g.S.Ledger.parts)
    × (l.all-inside.token.amount ≡ l.all-inside.count)
    × (l.all-inside.count + sum l.shares.items ≡ sum l.fn.shares.items)
    × (l.self-inside.book.total ≡ l.self-inside.count)
    × (l.self-inside.count ≡ l.initial.self-inside.count)

abbrev pub decreases-loop-share : goal.decreases-loop-share
decreases-loop-share g l = goal.left-loop-share g l
