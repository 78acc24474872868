use Rattle.std.proofs.Common.{◌≡◌, ◌∙◌, true, false, not, sym, ap, subst}
use Rattle.tf_table.specs.GrowingFilter.{Knows}
use Rattle.tf_forest.proofs.UsedIds.{unknown_free}
use Rattle.tf_forest.proofs.used_ids.UsedIds.is_unused.Goals as goal

apart : true ≡ false → ⊥
apart e = cc

pub returns : goal.returns
returns g c = λ unused journal known.
    let unknown : Knows c.self.inside.ids c.args.id → ⊥ = λ knows. apart (sym unused ∙ ap not (c.knows.ensures.has knows)) in
    unknown_free c.args.self.now c.args.id (λ knows. unknown (subst (λ parts. Knows parts c.args.id) (sym c.self.view_is) knows)) journal known
