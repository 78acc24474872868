use Rattle.std.proofs.Common.{length, ap, sym, ◌∙◌}
use Rattle.std.specs.Bool.{◌==◌}
use Rattle.tf_table.specs.Key.{key_cmp}
use Rattle.tf_table.proofs.Keys.{keys_total, exact_keys}
use Rattle.tf_mutable.proofs.Logged.{length-in_order}
use Rattle.tf_mutable.proofs.log.LogMutableTable.is_empty.Goals as goal

pub returns : goal.returns
returns g c =
    let rows = c.self.inside.rows.items in
    c.is_empty.ensures ∙ ap (λ n. n == 0) (c.self.inside.rows.ok.0 ∙ sym (length-in_order key_cmp keys_total exact_keys rows c.self.invariant.once) ∙ ap length c.self.view_is)
