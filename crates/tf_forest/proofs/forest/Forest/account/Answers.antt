use Rattle.std.proofs.Common.{◌∙◌, Some, ap, sym}
use Rattle.std.specs.Option.{option_map}
use Rattle.tf_journal.specs.Lookup.{shown_with_id}
use Rattle.tf_forest.specs.Forest.{View}
use Rattle.tf_rows.specs.LookUps.{shown_party}
use Rattle.tf_forest.proofs.forest.Forest.account.Goals as goal

pub returns-in-None : goal.returns-in-None
returns-in-None g c =
    c.account.ensures
    ∙ c.rows_answer_look_ups.ensures.shown _ _ c.self.invariant.shows.sound c.self.invariant.shows.shows c.args.id
    ∙ ap (λ (view : View). shown_with_id view.journal c.args.id) c.self.view_is

pub returns-in-Some : goal.returns-in-Some
returns-in-Some g c =
    let held = c.self.invariant.resident c.args.id c.in-Some.party (sym c.get.ensures ∙ c.in-Some.is) in
    ap Some c.shown.ensures
    ∙ sym (ap (option_map shown_party) (c.rows_answer_look_ups.ensures.parties _ _ c.self.invariant.shows.sound c.self.invariant.shows.shows c.args.id ∙ held))
    ∙ c.rows_answer_look_ups.ensures.shown _ _ c.self.invariant.shows.sound c.self.invariant.shows.shows c.args.id
    ∙ ap (λ (view : View). shown_with_id view.journal c.args.id) c.self.view_is
