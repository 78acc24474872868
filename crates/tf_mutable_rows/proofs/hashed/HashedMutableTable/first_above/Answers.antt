use Rattle.tf_mutable.proofs.Logged.{first_in_order}
use Rattle.tf_mutable_rows.specs.Hashed.{keyed}
use Rattle.tf_mutable_rows.proofs.hashed.HashedMutableTable.first_above.Goals as goal

pub returns : goal.returns
returns g c = first_in_order c.args.key.now (keyed c.self.inside.rows.entries) c.args.self.now c.first_by_walk.result c.self.view_is c.first_by_walk.ensures
