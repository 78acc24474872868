use Rattle.tf_rows.proofs.BelowFloors.{floors_back}
use Rattle.tf_rows.proofs.floors.Floors.back.Goals as goal

pub returns-clause-holds : goal.returns-clause-holds
returns-clause-holds c = λ journal kept n more is. floors_back c.args.self journal kept n more is
