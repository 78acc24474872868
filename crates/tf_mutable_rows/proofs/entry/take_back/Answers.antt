use Rattle.tf_rows.proofs.Parts.{back-seen, some-seen}
use Rattle.tf_mutable_rows.proofs.entry.take_back.Goals as goal

pub take_back-requires : goal.take_back-requires
take_back-requires g c = some-seen g.V.RowValue.seen c.args.key.now (g.M.MutableTable.rows c.args.table.now) c.requires.there

pub returns : goal.returns
returns g c = back-seen g.V.RowValue.seen c.args.key.now c.stored_before-stored.result c.args.before (g.M.MutableTable.rows c.args.table.now) (g.M.MutableTable.rows c.take_back.new.self) c.take_back.ensures.rows c.stored_before-stored.ensures
