use Rattle.std.proofs.Common.{sym, subst}
use Rattle.tf_rows.specs.DueSet.{AreHeld}
use Rattle.tf_rows.specs.Floors.{IsFloor}
use Rattle.tf_forest.proofs.forest.Forest.due_count.Goals as goal

pub due_count-requires-clause-floor : goal.due_count-requires-clause-floor
due_count-requires-clause-floor g c = subst (IsFloor c.floor.result) (sym c.rows.ensures.journal) c.floor.ensures

pub due_count-requires-clause-held : goal.due_count-requires-clause-held
due_count-requires-clause-held g c = subst (AreHeld c.due_set.result.now) (sym c.rows.ensures.journal) c.due_set.ensures
