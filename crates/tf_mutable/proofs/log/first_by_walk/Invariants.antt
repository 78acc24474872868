use Rattle.std.proofs.Common.{take}
use Rattle.tf_table.specs.Content.{entry_at}
use Rattle.tf_table.specs.First.{IsFirstAbove}
use Rattle.tf_mutable.proofs.log.first_by_walk.Given as goal

abbrev pub invariant-loop-row : goal.invariant-loop-row
invariant-loop-row g l = IsFirstAbove l.key (λ found. entry_at found (take l.row-index l.rows)) l.first
