use Rattle.std.proofs.Common.{◌≡◌, ◌+◌, drop}
use Rattle.tf_events.specs.Batch.{placed}
use Rattle.tf_events.specs.Chain.{first_failure, with_events}
use Rattle.tf_events.specs.Walk.{Extends, IsSoundAt}
use Rattle.tf_events.proofs.chain.store_events.Given as goal

-- the events so far are stored, and what is left of the events gives what the whole gives
abbrev pub invariant-loop-i : goal.invariant-loop-i
invariant-loop-i g l =
    let kind = g.E.Event.kind in
    let journal = g.L.Ledger.journal in
    let left = placed (l.index + l.i) (l.before + 1 + l.i) (drop l.i l.events) in
    let all = placed l.index (l.before + 1) l.events in
    record {
      first : first_failure kind (journal l.ledger) left ≡ first_failure kind (journal l.initial.ledger) all;
      stored : with_events kind (journal l.ledger) left ≡ with_events kind (journal l.initial.ledger) all;
      sound : IsSoundAt (l.before + l.i) (journal l.ledger);
      extends : Extends (journal l.initial.ledger) (journal l.ledger);
      clock : g.L.Ledger.clock l.ledger ≡ g.L.Ledger.clock l.initial.ledger;
      kept : g.L.Ledger.kept l.ledger ≡ g.L.Ledger.kept l.initial.ledger;
      rest : g.L.Ledger.rest l.ledger ≡ g.L.Ledger.rest l.initial.ledger;
    }
