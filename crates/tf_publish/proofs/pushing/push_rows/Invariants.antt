use Rattle.std.proofs.Common.{◌≡◌, ◌+◌, drop}
use Rattle.tf_manifest.specs.RowNames.{rows_in_order}
use Rattle.tf_rows.specs.Counts.{PushesMore}
use Rattle.tf_publish.specs.Publish.{entries_waiting, waiting_in}
use Rattle.tf_publish.proofs.PublishRows.{Going}
use Rattle.tf_publish.proofs.Tables.{TablesGoing}
use Rattle.tf_publish.proofs.pushing.push_rows.Given as goal

abbrev pub invariant-loop-number : goal.invariant-loop-number
invariant-loop-number g l = record {
  going : Going (g.F.MutableRows.entries l.fn.fresh) l.fn.next.tables l.next.tables l.number;
  tables : TablesGoing (g.F.MutableRows.entries l.fn.fresh) l.fn.next l.next l.number;
  still : entries_waiting (g.F.MutableRows.entries l.fn.fresh) ≡ 0 → l.next ≡ l.fn.next;
  fresh : g.F.MutableRows.entries l.fresh ≡ g.F.MutableRows.entries l.fn.fresh;
  sealed : l.next.sealed + waiting_in (g.F.MutableRows.entries l.fn.fresh) (drop l.number rows_in_order) ≡ l.fn.next.sealed + entries_waiting (g.F.MutableRows.entries l.fn.fresh);
  more : PushesMore l.fn.next l.next;
}
