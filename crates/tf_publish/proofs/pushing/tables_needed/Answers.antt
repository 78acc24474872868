use Rattle.std.proofs.Common.{ap, arith}
use Rattle.tf_publish.proofs.PublishRows.{rows_from}
use Rattle.tf_publish.specs.Publish.{needed_by}
use Rattle.tf_publish.proofs.pushing.tables_needed.Goals as goal

pub loop-number-preserved : goal.loop-number-preserved
loop-number-preserved g c =
    let before = c.loop-number.invariant.sum in
    let some = c.loop-number.invariant.few in
    let own = c.needed_for-needed.ensures.needed in
    let two = c.needed_for-needed.ensures.few in
    let rows = ap (needed_by (g.F.MutableRows.entries c.args.fresh.now) c.args.manifest.now) (rows_from c.loop-number.number c.row_at.result c.loop-number-test.true c.row_at.ensures) in
    record { sum = omega (arith, before, own, rows); few = omega (arith, some, two) }
