use Rattle.std.proofs.Common.{◌∙◌, [], ◌∷◌, ◌++◌, sym, ap, subst}
use Rattle.tf_rows.specs.declared.floors.Floors.{Floors}
use Rattle.tf_rows.specs.declared.found.Found.{Found}
use Rattle.tf_rows.specs.Floors.{HaveFloors, floors_after}
use Rattle.tf_rows.proofs.BelowFloors.{floors_hold}
use Rattle.tf_rows.proofs.floors.Floors.after.Goals as goal

pub returns-clause-holds : goal.returns-clause-holds
returns-clause-holds c = λ journal kept sound grows is have.
    subst (λ (floors : Floors). HaveFloors floors (journal ++ c.args.entry.now ∷ []) kept)
    (sym (c.moved.ensures ∙ ap (λ (found : Found). floors_after c.args.self c.args.entry.now found.settled) is))
    (floors_hold c.rows_change_by_edits.ensures.rows c.rows_are_maps.ensures journal sound c.args.self kept have c.args.entry.now grows)
