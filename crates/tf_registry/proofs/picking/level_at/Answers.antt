use Rattle.std.proofs.Common.{sym, ap, Some, ◌∙◌}
use Rattle.tf_registry.specs.Table.{Table}
use Rattle.tf_registry.proofs.Maps.{read_at, read_past}
use Rattle.tf_registry.proofs.picking.level_at.Goals as goal

pub returns-then-place-references-clause-value : goal.returns-then-place-references-clause-value
returns-then-place-references-clause-value g c =
    ap Some (c.level.ensures ∙ ap (λ (t : Table g.row.V.Denot). t.level) c.table.ensures)
    ∙ sym (read_at _ c.args.references.now c.args.place c.index-references-place.result c.if-place-references.true c.index-references-place.is)

pub returns-else-place-references-clause-value : goal.returns-else-place-references-clause-value
returns-else-place-references-clause-value g c = sym (read_past _ c.args.references.now c.args.place c.if-place-references.false)
