use Rattle.std.proofs.Common.{◌≡◌, ◌+◌, vec_len}
use Rattle.std.specs.List.{All}
use Rattle.tf_store.proofs.opening.cut.Given as goal

abbrev pub invariant-loop-share : goal.invariant-loop-share
invariant-loop-share g l =
    (l.whole.parts + vec_len l.cut ≡ l.fn.shares)
    × (l.whole.amount ≡ 0)
    × (vec_len l.cut ≡ l._share)
    × All (λ s. s ≡ 0) l.cut.items
