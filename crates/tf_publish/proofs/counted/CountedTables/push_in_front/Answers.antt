use Rattle.std.proofs.Common.{◌<◌, ◌^◌, length, sym, subst, arith}
use Rattle.tf_manifest.specs.View.{tables_by}
use Rattle.tf_rows.specs.Counts.{Counted}
use Rattle.tf_rows.specs.SealedRow.{kind_of_sealed}
use Rattle.tf_publish.proofs.Bounds.{counted_push}
use Rattle.tf_publish.proofs.counted.CountedTables.push_in_front.Goals as goal

pub invariant_of-self : goal.invariant_of-self
invariant_of-self g c =
    let old : Counted = record { tables = c.self.inside.manifest; sealed = c.self.inside.sealed; held = c.self.inside.held } in
    let fits : c.entries-entries.result < 2 ^ 64 = omega arith in
    let room : length (tables_by old.tables (kind_of_sealed c.args.sealed)) < 64 = subst (λ (v : Counted). length (tables_by v.tables (kind_of_sealed c.args.sealed)) < 64) (sym c.self.view_is) c.requires.room in
    counted_push {A = g.row.A.Denot} old c.push_in_front.new.manifest c.args.sealed c.in-Ok.ensures.pushes c.entries-entries.result c.entries-entries.ensures fits room c.self.invariant
