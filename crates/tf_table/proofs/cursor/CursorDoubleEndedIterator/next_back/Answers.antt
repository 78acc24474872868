use Rattle.std.proofs.Common.{◌-◌, refl, arith}
use Rattle.tf_table.specs.Merge.{seen}
use Rattle.tf_table.proofs.Spans.{span, last_read}
use Rattle.tf_table.proofs.cursor.CursorDoubleEndedIterator.next_back.Goals as goal

pub returns-clause-steps : goal.returns-clause-steps
returns-clause-steps g c =
    let t = c.self.inside in
    last_read (seen {V = g.row.V.Denot}) c.row_at.result t.from t.to (t.to - 1) t.table.now c.args.self.now (span t.from (t.to - 1) t.table.now) c.self.view_is refl c.row_at.ensures.value (omega arith) (omega arith) (omega arith)
