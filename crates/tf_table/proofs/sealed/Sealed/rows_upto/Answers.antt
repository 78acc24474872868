use Rattle.std.proofs.Common.{◌∙◌, ap}
use Rattle.tf_sorted.specs.Rows.{rows_upto}
use Rattle.tf_table.specs.Key.{key_cmp}
use Rattle.tf_table.proofs.Spans.{span_all}
use Rattle.tf_table.proofs.sealed.Sealed.rows_upto.Goals as goal

pub returns : goal.returns
returns g c = c.last_upto.ensures.rows ∙ ap (rows_upto key_cmp c.args.key.now) (span_all c.len-len.result c.args.self.now c.len-len.ensures.value)
