use Rattle.tf_publish.proofs.Records.{record_taken}
use Rattle.tf_publish.proofs.rows.RowsRowSet.take_transfer.Goals as goal

pub take_transfer-requires : goal.take_transfer-requires
take_transfer-requires g c = c.requires.there

pub returns-clause-back : goal.returns-clause-back
returns-clause-back g c =
    record_taken c.args.transfer.now c.args.self.now.published.tables (g.F.MutableRows.entries c.args.self.now.fresh) (g.F.MutableRows.entries c.take_transfer.new.self) c.take_transfer.ensures
