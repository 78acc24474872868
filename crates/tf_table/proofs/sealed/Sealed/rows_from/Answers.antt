use Rattle.std.proofs.Common.{◌∙◌, ap}
use Rattle.tf_sorted.specs.Rows.{rows_from}
use Rattle.tf_table.specs.Key.{key_cmp}
use Rattle.tf_table.proofs.Spans.{span_all}
use Rattle.tf_table.proofs.sealed.Sealed.rows_from.Goals as goal

pub returns : goal.returns
returns g c = c.first_from.ensures.rows ∙ ap (rows_from key_cmp c.args.key.now) (span_all c.len-to.result c.args.self.now c.len-to.ensures.value)
