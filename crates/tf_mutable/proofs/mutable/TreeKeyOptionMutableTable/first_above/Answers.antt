use Rattle.std.proofs.Common.{ap, sym, ◌∙◌}
use Rattle.std.specs.Ordering.{is_gt}
use Rattle.tf_sorted.specs.Rows.{first_key}
use Rattle.tf_table.proofs.First.{sought_none, sought_first, sought_second}
use Rattle.tf_mutable.proofs.mutable.TreeKeyOptionMutableTable.first_above.Goals as goal

pub returns-in_err-first : goal.returns-in_err-first
returns-in_err-first g c = sought_none c.args.key.now c.args.self.now c.seek-rows.result c.from_residual.result c.len-rows.ensures.rising c.seek-rows.ensures c.in_err-first.ensures.steps.0 c.from_residual.ensures

pub returns-then-is_gt : goal.returns-then-is_gt
returns-then-is_gt g c =
    sought_first c.args.key.now c.args.self.now c.seek-rows.result _ c.next.new.self c.len-rows.ensures.rising c.seek-rows.ensures c.in_ok-first.ensures.steps
    (sym (ap is_gt c.cmp.ensures) ∙ sym c.is_gt.ensures ∙ c.if-is_gt.true)

pub returns-in_err-second : goal.returns-in_err-second
returns-in_err-second g c =
    sought_second c.args.key.now c.args.self.now c.seek-rows.result _ c.next.new.self c.from_residual-in_err-second.result c.len-rows.ensures.rising c.seek-rows.ensures c.in_ok-first.ensures.steps
    (sym (ap is_gt c.cmp.ensures) ∙ sym c.is_gt.ensures ∙ c.if-is_gt.false) (ap first_key c.in_err-second.ensures.steps.0 ∙ sym c.from_residual-in_err-second.ensures)

pub returns : goal.returns
returns g c =
    sought_second c.args.key.now c.args.self.now c.seek-rows.result _ c.next.new.self _ c.len-rows.ensures.rising c.seek-rows.ensures c.in_ok-first.ensures.steps
    (sym (ap is_gt c.cmp.ensures) ∙ sym c.is_gt.ensures ∙ c.if-is_gt.false) (ap first_key c.in_ok-second.ensures.steps)
