use Rattle.std.proofs.Common.{sym, subst}
use Rattle.tf_rows.specs.DueSet.{AreHeld}
use Rattle.tf_rows.specs.Floors.{IsFloor}
use Rattle.tf_forest.proofs.forest.Forest.next_due.Goals as goal

pub next_due-requires-clause-floor : goal.next_due-requires-clause-floor
next_due-requires-clause-floor g c = subst (IsFloor c.floor.result) (sym c.rows.ensures.journal) c.floor.ensures

pub next_due-requires-clause-held : goal.next_due-requires-clause-held
next_due-requires-clause-held g c = subst (AreHeld c.due_set.result.now) (sym c.rows.ensures.journal) c.due_set.ensures
