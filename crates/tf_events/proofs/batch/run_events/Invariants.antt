use Rattle.std.proofs.Common.{◌≡◌, ◌+◌, ◌≤◌, ◌++◌, ◌-◌, length}
use Rattle.tf_journal.specs.Lawful.{AreChained}
use Rattle.tf_events.specs.Batch.{chains_of, chains_step, placed}
use Rattle.tf_events.specs.Walk.{Extends, IsSoundAt}
use Rattle.tf_events.proofs.Left.{left_from}
use Rattle.tf_events.proofs.batch.run_events.Given as goal

-- what is stored and noted so far, followed by the steps of the chains that are left, is what the batch leaves
abbrev pub invariant-loop-start : goal.invariant-loop-start
invariant-loop-start g l =
    let journal = g.L.Ledger.journal in
    let left = left_from g.E.Event.kind (journal l.ledger) l.before l.start l.events in
    let all = chains_step g.E.Event.kind (journal l.initial.ledger) (chains_of g.E.Event.kind (placed 0 (l.before + 1) l.events)) in
    record {
      stored : left.journal ≡ all.journal;
      noted : l.failures.items ++ left.failures ≡ all.failures;
      within : l.start ≤ length l.events;
      sound : IsSoundAt (l.before + l.start) (journal l.ledger);
      chained : AreChained (journal l.ledger);
      extends : Extends (journal l.initial.ledger) (journal l.ledger);
      clock : g.L.Ledger.clock l.ledger ≡ g.L.Ledger.clock l.initial.ledger;
      kept : g.L.Ledger.kept l.ledger ≡ g.L.Ledger.kept l.initial.ledger;
      rest : g.L.Ledger.rest l.ledger ≡ g.L.Ledger.rest l.initial.ledger;
    }

abbrev pub decreases-loop-start : goal.decreases-loop-start
decreases-loop-start g l = length l.events - l.start
