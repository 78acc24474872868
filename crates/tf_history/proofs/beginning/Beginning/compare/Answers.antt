use Rattle.tf_history.proofs.Publications.{one_begins}
use Rattle.tf_history.proofs.beginning.Beginning.compare.Goals as goal

pub returns : goal.returns
returns g c =
    rw (← c.self.view_is, ← c.other.view_is) (one_begins c.self.inside.count c.other.inside.count c.self.inside.front c.other.inside.front c.compare.ensures)
