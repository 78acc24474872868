use Rattle.std.proofs.Common.{subst, List, Option}
use Rattle.tf_table.specs.declared.key.Key.{Key}
use Rattle.tf_table.specs.Content.{entry_at}
use Rattle.tf_table.specs.First.{IsFirstAbove}
use Rattle.tf_mutable.proofs.Logged.{first_in_order}
use Rattle.tf_mutable.proofs.log.LogMutableTable.first_above.Goals as goal

pub returns-then-self : goal.returns-then-self
returns-then-self g c =
    let rows = c.self.inside.rows.items in
    let key = c.args.key.now in
    first_in_order key rows c.args.self.now c.first_by_halving.result c.self.view_is
    (subst (λ (rs : List (Key × Option g.row.V.Denot)). IsFirstAbove key (λ found. entry_at found rs) c.first_by_halving.result) c.deref.ensures.value c.first_by_halving.ensures)

pub returns-else-self : goal.returns-else-self
returns-else-self g c =
    let rows = c.self.inside.rows.items in
    let key = c.args.key.now in
    first_in_order key rows c.args.self.now c.first_by_walk.result c.self.view_is
    (subst (λ (rs : List (Key × Option g.row.V.Denot)). IsFirstAbove key (λ found. entry_at found rs) c.first_by_walk.result) c.deref-else-self.ensures.value c.first_by_walk.ensures)
