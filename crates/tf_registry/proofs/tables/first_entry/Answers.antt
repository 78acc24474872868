use Rattle.std.proofs.Common.{ap, ◌∙◌, arith}
use Rattle.tf_registry.specs.Table.{Table}
use Rattle.tf_registry.proofs.Firsts.{first_found, first_of_all}
use Rattle.tf_registry.proofs.tables.first_entry.Goals as goal

pub loop-reference-preserved : goal.loop-reference-preserved
loop-reference-preserved g c =
    first_found c.args.references.now c.loop-reference.reference-index c.reference-item.result c.args.key.now c.loop-reference.first c.first_above.result c.lesser-first.result c.table-in-loop-reference.result.now
    (omega arith) c.reference-item.is (c.table-in-loop-reference.ensures ∙ ap (λ (t : Table g.row.V.Denot). t.rows) c.table.ensures) c.lesser-first.ensures c.loop-reference.invariant c.first_above.ensures

pub returns : goal.returns
returns g c = first_of_all c.args.references.now c.loop-reference.reference-index c.args.key.now c.loop-reference.first (omega arith) c.loop-reference.invariant
