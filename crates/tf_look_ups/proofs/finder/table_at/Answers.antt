use Rattle.std.proofs.Common.{◌∙◌, ap}
use Rattle.tf_registry.specs.Table.{Shown, Table}
use Rattle.tf_look_ups.proofs.Finding.{rows_there}
use Rattle.tf_look_ups.proofs.finder.table_at.Goals as goal

pub returns : goal.returns
returns g c =
    rows_there (λ (t : Shown g.row.V.Denot). t.table.rows) c.args.references.now c.args.place c.index-references-place.result c.table-2.result.now c.requires c.index-references-place.is
    (c.table-2.ensures ∙ ap (λ (t : Table g.row.V.Denot). t.rows) c.table.ensures)
