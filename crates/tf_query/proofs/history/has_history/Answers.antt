use Rattle.std.proofs.Common.{◌∙◌, ap, false}
use Rattle.std.specs.Option.{option_map_or}
use Rattle.tf_journal.specs.Flags.{keeps_history}
use Rattle.tf_query.proofs.history.has_history.Goals as goal

pub returns-in-Some : goal.returns-in-Some
returns-in-Some g c journal sound shows =
    c.has_flag.ensures
    ∙ ap (λ o. option_map_or keeps_history o false) (c.in-Some.ensures ∙ c.rows_find_ids.ensures.accounts c.args.manifest.now journal sound shows c.args.id)

pub returns-in-None : goal.returns-in-None
returns-in-None g c journal sound shows =
    ap (λ o. option_map_or keeps_history o false) (c.in-None.ensures ∙ c.rows_find_ids.ensures.accounts c.args.manifest.now journal sound shows c.args.id)
