use Rattle.std.proofs.Common.{◌≡◌, ◌++◌, List, Option}
use Rattle.tf_mutable.specs.Mutable.{in_order}
use Rattle.tf_mutable_rows.specs.Hashed.{keyed}
use Rattle.tf_mutable_rows.specs.declared.hashed.HashedKey.{HashedKey}
use Rattle.tf_mutable_rows.proofs.hashed.logged.Given as goal

abbrev pub invariant-loop-hashed : goal.invariant-loop-hashed
invariant-loop-hashed g l = (seen : List (HashedKey × Option g.row.V.Denot)) × ((seen ++ l.hashed-iterator ≡ l.rows.entries) × (l.log ≡ in_order (keyed seen)))
