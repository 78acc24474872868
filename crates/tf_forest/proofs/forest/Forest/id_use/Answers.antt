use Rattle.std.proofs.Common.{◌∙◌, sym, ap}
use Rattle.tf_journal.specs.Lookup.{id_use_of}
use Rattle.tf_forest.specs.Forest.{View}
use Rattle.tf_forest.proofs.forest.Forest.id_use.Goals as goal

pub returns-then-is_unused : goal.returns-then-is_unused
returns-then-is_unused g c =
    sym (c.is_unused.ensures c.if-is_unused.true _ c.self.invariant.used)
    ∙ ap (λ (view : View). id_use_of view.journal c.args.id) c.self.view_is

pub returns : goal.returns
returns g c =
    c.id_use.ensures
    ∙ c.rows_answer_look_ups.ensures.uses _ _ c.self.invariant.shows.sound c.self.invariant.shows.shows c.args.id
    ∙ ap (λ (view : View). id_use_of view.journal c.args.id) c.self.view_is
