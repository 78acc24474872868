use Rattle.std.proofs.Common.{List, ap, subst}
use Rattle.tf_journal.specs.declared.entry.Entry.{Entry}
use Rattle.tf_forest.specs.Forest.{View}
use Rattle.tf_rows.specs.DueSet.{AreHeld}
use Rattle.tf_rows.proofs.HeldKeys.{Free}
use Rattle.tf_rows.proofs.Unvalued.{none_now}
use Rattle.tf_forest.proofs.forest.Forest.due_set.Goals as goal

pub returns : goal.returns
returns g c =
    subst (λ (j : List Entry). AreHeld c.self.inside.due j) (ap (λ (v : View). v.journal) c.self.view_is)
    (none_now (Free c.self.inside.due) c.self.inside.kept _ c.self.invariant.due)
