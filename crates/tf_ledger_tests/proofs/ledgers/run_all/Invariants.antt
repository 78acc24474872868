use Rattle.tf_journal.specs.Lawful.{IsLawfulAt}
use Rattle.tf_ledger_tests.proofs.ledgers.run_all.Given as goal

abbrev pub invariant-loop-command : goal.invariant-loop-command
invariant-loop-command g l = IsLawfulAt (g.L.Ledger.clock l.ledger) (g.L.Ledger.journal l.ledger)
