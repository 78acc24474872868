use Rattle.tf_totals.proofs.Counting.{totals_told}
use Rattle.tf_totals.proofs.totals.totals_of.Goals as goal

pub returns : goal.returns
returns g c =
    totals_told (λ e. e.1) (λ r. r.0) _ c.storm_shared.result c.told.result c.told.ensures.same c.told.ensures.totals
    c.storm_shared.ensures.clients c.storm_shared.ensures.shares
