use Rattle.std.proofs.Common.{◌≡◌, ◌++◌, List, Option}
use Rattle.tf_table.specs.Content.{entry_at}
use Rattle.tf_table.specs.First.{IsFirstAbove}
use Rattle.tf_mutable_rows.specs.Hashed.{keyed}
use Rattle.tf_mutable_rows.specs.declared.hashed.HashedKey.{HashedKey}
use Rattle.tf_mutable_rows.proofs.hashed.first_by_walk.Given as goal

abbrev pub invariant-loop-hashed : goal.invariant-loop-hashed
invariant-loop-hashed g l = (seen : List (HashedKey × Option g.row.V.Denot)) × ((seen ++ l.hashed-iterator ≡ l.rows.entries) × IsFirstAbove l.key (λ found. entry_at found (keyed seen)) l.first)
