use Rattle.std.proofs.Common.{sym, ap, Some, ◌∙◌}
use Rattle.tf_registry.proofs.Maps.{read_at, read_past}
use Rattle.tf_registry.proofs.place.number_at.Goals as goal

pub returns-then-at-references-clause-value : goal.returns-then-at-references-clause-value
returns-then-at-references-clause-value g c =
    ap Some c.number.ensures.value ∙ sym (read_at _ c.args.references.now c.args.at c.index-references-at.result c.if-at-references.true c.index-references-at.is)

pub returns-else-at-references-clause-value : goal.returns-else-at-references-clause-value
returns-else-at-references-clause-value g c = sym (read_past _ c.args.references.now c.args.at c.if-at-references.false)
