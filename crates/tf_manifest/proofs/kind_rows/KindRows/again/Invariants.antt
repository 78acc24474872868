use Rattle.std.proofs.Common.{◌≡◌, length, take}
use Rattle.tf_manifest.proofs.kind_rows.KindRows.again.Given as goal

abbrev pub invariant-loop-at : goal.invariant-loop-at
invariant-loop-at g l = (l.list.items ≡ take l.at l.self) × (length l.list.items ≡ l.at)
