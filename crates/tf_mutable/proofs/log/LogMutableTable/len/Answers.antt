use Rattle.std.proofs.Common.{length, ap, sym, ◌∙◌, subst}
use Rattle.tf_sorted.specs.Rows.{IsRising}
use Rattle.tf_table.specs.Key.{key_cmp}
use Rattle.tf_table.proofs.Keys.{keys_total, exact_keys}
use Rattle.tf_mutable.proofs.Logged.{length-in_order, rising-in_order}
use Rattle.tf_mutable.proofs.log.LogMutableTable.len.Goals as goal

pub returns-clause-value : goal.returns-clause-value
returns-clause-value g c =
    let rows = c.self.inside.rows.items in
    c.len.ensures ∙ c.self.inside.rows.ok.0 ∙ sym (length-in_order key_cmp keys_total exact_keys rows c.self.invariant.once) ∙ ap length c.self.view_is

pub returns-clause-rising : goal.returns-clause-rising
returns-clause-rising g c = subst (IsRising key_cmp) c.self.view_is (rising-in_order key_cmp keys_total exact_keys c.self.inside.rows.items)
