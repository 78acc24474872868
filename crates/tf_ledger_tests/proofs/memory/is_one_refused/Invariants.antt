use Rattle.tf_journal.specs.Lawful.{IsLawfulAt}
use Rattle.tf_ledger_tests.proofs.memory.is_one_refused.Given as goal

abbrev pub invariant-loop-command : goal.invariant-loop-command
invariant-loop-command g l = IsLawfulAt (g.L.Ledger.clock l.ledger) (g.L.Ledger.journal l.ledger)
