use Rattle.tf_journal.specs.Lawful.{IsLawfulAt}
use Rattle.tf_forest_trials.proofs.alike.are_commands_alike.Given as goal

abbrev pub invariant-loop-command : goal.invariant-loop-command
invariant-loop-command g l = IsLawfulAt (g.M.Ledger.clock l.forest) (g.M.Ledger.journal l.forest)
