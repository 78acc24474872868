use Rattle.tf_rows.proofs.BelowFloors.{empty_floors}
use Rattle.tf_rows.proofs.floors.Floors.new.Goals as goal

pub returns : goal.returns
returns c = empty_floors _
