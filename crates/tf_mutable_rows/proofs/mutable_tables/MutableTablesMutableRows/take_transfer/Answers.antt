use Rattle.std.proofs.Common.{refl}
use Rattle.tf_mutable_rows.proofs.Records.{takes_from, there_among}
use Rattle.tf_mutable_rows.proofs.mutable_tables.MutableTablesMutableRows.take_transfer.Goals as goal

pub take-requires : goal.take-requires
take-requires g c = there_among _ c.args.self.now c.self.view_is _ _ c.self.invariant _ refl c.args.transfer.now c.requires

pub returns : goal.returns
returns g c = takes_from _ c.args.self.now c.self.view_is _ _ c.self.invariant _ refl c.take.new.self _ refl c.args.transfer.now c.take.ensures
