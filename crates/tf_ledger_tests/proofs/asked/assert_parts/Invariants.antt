use Rattle.tf_journal.specs.Lawful.{IsLawfulAt}
use Rattle.tf_ledger_tests.proofs.asked.assert_parts.Given as goal

abbrev pub invariant-loop-part : goal.invariant-loop-part
invariant-loop-part g l = IsLawfulAt (g.L.Ledger.clock l.ledger) (g.L.Ledger.journal l.ledger)
