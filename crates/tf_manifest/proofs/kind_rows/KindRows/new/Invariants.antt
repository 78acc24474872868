use Rattle.std.proofs.Common.{◌≡◌, [], length, replicate}
use Rattle.tf_manifest.proofs.kind_rows.KindRows.new.Given as goal

abbrev pub invariant-loop-row : goal.invariant-loop-row
invariant-loop-row g l = (l.list.items ≡ replicate l._row []) × (length l.list.items ≡ l._row)
