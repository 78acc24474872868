use Rattle.std.proofs.Common.{◌∙◌, ap, arith}
use Rattle.tf_table.specs.Content.{entry_at}
use Rattle.tf_manifest.specs.Rows.{key_of}
use Rattle.tf_scan.specs.Place.{rows_within, span_from}
use Rattle.tf_scan.proofs.Entries.{entry-start}
use Rattle.tf_scan.proofs.place.Place.new.Goals as goal

pub returns-in-Some-clause-rows : goal.returns-in-Some-clause-rows
returns-in-Some-clause-rows g c = λ v t.
    ap (λ bound. entry_at (key_of v t) (rows_within v (span_from c.args.direction bound) c.args.table.now)) c.start.ensures
    ∙ entry-start c.args.direction v c.in-Some.span t c.args.table.now c.in-Some.ensures (omega arith)
