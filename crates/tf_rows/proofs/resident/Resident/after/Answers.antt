use Rattle.std.proofs.Common.{◌∙◌, sym, ap}
use Rattle.tf_rows.specs.declared.found.Found.{Found}
use Rattle.tf_rows.specs.Edits.{party_of}
use Rattle.tf_rows.specs.Resident.{accounts_after}
use Rattle.tf_rows.proofs.resident.Resident.after.Goals as goal

pub returns : goal.returns
returns g c = λ journal sound grows is among id party there.
    sym (c.accounts_change_as_found.ensures.after journal c.args.entry.now sound grows id)
    ∙ ap (λ (found : Found). accounts_after found c.args.entry.now (party_of journal) id) (sym is)
    ∙ c.change.ensures (party_of journal) among id party there
