use Rattle.std.proofs.Common.{◌≡◌}
use Rattle.tf_pending.specs.Parts.{IsExpiring}
use Rattle.tf_pending.proofs.expiring.expire_due.Given as goal

-- as many transfers expired as there were turns
abbrev pub invariant-loop-count : goal.invariant-loop-count
invariant-loop-count g l =
    record {
      expired : IsExpiring l.moment (g.L.Ledger.journal l.initial.ledger) (g.L.Ledger.journal l.ledger) l.count;
      clock : g.L.Ledger.clock l.ledger ≡ g.L.Ledger.clock l.initial.ledger;
      kept : g.L.Ledger.kept l.ledger ≡ g.L.Ledger.kept l.initial.ledger;
      rest : g.L.Ledger.rest l.ledger ≡ g.L.Ledger.rest l.initial.ledger;
    }
