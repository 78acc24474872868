use Rattle.tf_publish.proofs.Sealed.{taken_in_front}
use Rattle.tf_publish.proofs.rows.RowsRowSet.take_back.Goals as goal

pub returns-clause-back : goal.returns-clause-back
returns-clause-back g c = taken_in_front c.args.self.now.published.tables c.args.row c.args.key.now c.args.before (g.F.MutableRows.entries c.args.self.now.fresh) (g.F.MutableRows.entries c.take_back.new.self) c.take_back.ensures
