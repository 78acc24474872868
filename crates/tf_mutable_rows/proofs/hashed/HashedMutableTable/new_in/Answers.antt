use Rattle.std.proofs.Common.{ap}
use Rattle.tf_mutable.specs.Mutable.{in_order}
use Rattle.tf_mutable_rows.specs.Hashed.{keyed}
use Rattle.tf_mutable_rows.proofs.hashed.HashedMutableTable.new_in.Goals as goal

pub returns : goal.returns
returns g c = ap (λ rows. in_order (keyed rows)) c.new.ensures.empty
