use Rattle.std.proofs.Common.{◌≡◌, ◌+◌, ◌*◌, ◌≤◌, drop}
use Rattle.tf_manifest.specs.RowNames.{rows_in_order}
use Rattle.tf_publish.specs.Publish.{needed_by, tables_needed}
use Rattle.tf_publish.proofs.pushing.tables_needed.Given as goal

abbrev pub invariant-loop-number : goal.invariant-loop-number
invariant-loop-number g l = record {
  sum : l.needed + needed_by (g.F.MutableRows.entries l.fn.fresh) l.fn.manifest (drop l.number rows_in_order) ≡ tables_needed (g.F.MutableRows.entries l.fn.fresh) l.fn.manifest;
  few : l.needed ≤ 2 * l.number;
}
