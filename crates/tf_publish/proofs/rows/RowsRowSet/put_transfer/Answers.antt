use Rattle.std.proofs.Common.{ap}
use Rattle.tf_manifest.proofs.Maps.{on_err, on_ok}
use Rattle.tf_rows.specs.Parts.{Entries, parts_of}
use Rattle.tf_publish.proofs.Records.{free_for_record, record_put, record_restores, record_there}
use Rattle.tf_publish.proofs.rows.RowsRowSet.put_transfer.Goals as goal

pub put_transfer-requires : goal.put_transfer-requires
put_transfer-requires g c = free_for_record c.args.transfer.now c.args.self.now.published.tables (g.F.MutableRows.entries c.args.self.now.fresh) c.requires

pub returns-clause-put : goal.returns-clause-put
returns-clause-put g c =
    on_ok c.put_transfer.result _ _
    (record_put c.args.transfer.now c.args.self.now.published.tables (g.F.MutableRows.entries c.args.self.now.fresh) (g.F.MutableRows.entries c.put_transfer.new.self))
    c.put_transfer.ensures.put

pub returns-clause-there : goal.returns-clause-there
returns-clause-there g c =
    on_ok c.put_transfer.result _ _
    (record_there c.args.transfer.now c.args.self.now.published.tables (g.F.MutableRows.entries c.args.self.now.fresh) (g.F.MutableRows.entries c.put_transfer.new.self))
    c.put_transfer.ensures.put

pub returns-clause-restores : goal.returns-clause-restores
returns-clause-restores g c =
    on_ok c.put_transfer.result _ _
    (record_restores c.args.transfer.now c.args.self.now.published.tables (g.F.MutableRows.entries c.args.self.now.fresh) (g.F.MutableRows.entries c.put_transfer.new.self))
    c.put_transfer.ensures.put

pub returns-clause-err : goal.returns-clause-err
returns-clause-err g c =
    on_err c.put_transfer.result _ _ (λ same. ap (λ (fresh : Entries). parts_of fresh c.args.self.now.published.tables) same) c.put_transfer.ensures.err
