use Rattle.std.proofs.Common.{◌≤◌, List, Option, length, sym, ◌∙◌, ap, subst}
use Rattle.tf_table.specs.declared.key.Key.{Key}
use Rattle.tf_mutable.specs.Mutable.{in_order, rows_of_key}
use Rattle.tf_mutable.proofs.log.Log.rows.Goals as goal

pub returns-clause-order : goal.returns-clause-order
returns-clause-order g c = ap in_order c.as_slice.ensures.value ∙ c.self.view_is

pub returns-clause-once : goal.returns-clause-once
returns-clause-once g c =
    subst (λ (rows : List (Key × Option g.row.V.Denot)). (key : Key) → length (rows_of_key key rows) ≤ 1) (sym c.as_slice.ensures.value) c.self.invariant.once
