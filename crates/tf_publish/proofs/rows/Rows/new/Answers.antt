use Rattle.std.proofs.Common.{ap}
use Rattle.tf_rows.specs.Counts.{Sealed}
use Rattle.tf_publish.proofs.Sealed.{empty_rows}
use Rattle.tf_publish.proofs.rows.Rows.new.Goals as goal

pub returns-clause-empty : goal.returns-clause-empty
returns-clause-empty g c = empty_rows (g.F.MutableRows.entries c.empty.result) c.in_ok-published.published.tables c.args.registries.now.limit c.empty.ensures (ap (λ (s : Sealed). s.tables) c.in_ok-published.ensures.none)
