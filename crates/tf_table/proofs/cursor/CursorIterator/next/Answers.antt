use Rattle.std.proofs.Common.{◌+◌, refl, arith}
use Rattle.tf_table.specs.Merge.{seen}
use Rattle.tf_table.proofs.Spans.{span, first_read}
use Rattle.tf_table.proofs.cursor.CursorIterator.next.Goals as goal

pub returns-clause-steps : goal.returns-clause-steps
returns-clause-steps g c =
    let t = c.self.inside in
    first_read (seen {V = g.row.V.Denot}) c.row_at.result t.from t.to t.table.now c.args.self.now (span (t.from + 1) t.to t.table.now) c.self.view_is refl c.row_at.ensures.value (omega arith) (omega arith)
