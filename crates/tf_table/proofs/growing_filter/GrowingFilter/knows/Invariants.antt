use Rattle.std.proofs.Common.{take}
use Rattle.std.specs.List.{All}
use Rattle.tf_table.specs.GrowingFilter.{HasPut}
use Rattle.tf_table.proofs.growing_filter.GrowingFilter.knows.Given as goal

abbrev pub invariant-loop-words : goal.invariant-loop-words
invariant-loop-words g l = All (λ part. HasPut part.items l.value → ⊥) (take l.words-index l.words-items)
