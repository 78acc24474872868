use Rattle.std.proofs.Common.{◌∙◌, ap}
use Rattle.tf_journal.specs.Status.{status_at}
use Rattle.tf_forest.specs.Forest.{View}
use Rattle.tf_forest.proofs.forest.Forest.status.Goals as goal

pub returns : goal.returns
returns g c =
    c.status.ensures
    ∙ c.rows_answer_look_ups.ensures.statuses _ _ c.self.invariant.shows.sound c.self.invariant.shows.shows c.args.pending
    ∙ ap (λ (view : View). status_at view.journal c.args.pending) c.self.view_is
