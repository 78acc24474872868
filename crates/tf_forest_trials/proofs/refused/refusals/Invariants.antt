use Rattle.tf_journal.specs.Lawful.{IsLawfulAt}
use Rattle.tf_forest_trials.proofs.refused.refusals.Given as goal

abbrev pub invariant-loop-refused : goal.invariant-loop-refused
invariant-loop-refused g l = IsLawfulAt (g.M.Ledger.clock l.forest) (g.M.Ledger.journal l.forest)
