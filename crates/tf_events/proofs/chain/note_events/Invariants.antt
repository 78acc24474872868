use Rattle.std.proofs.Common.{◌≡◌, ℕ, ◌+◌, ◌++◌, drop}
use Rattle.std.specs.Option.{option_map}
use Rattle.tf_events.specs.Batch.{placed}
use Rattle.tf_events.specs.Chain.{failures_of}
use Rattle.tf_events.specs.Walk.{own_failure_of}
use Rattle.tf_events.proofs.chain.note_events.Given as goal

-- what is noted so far, followed by the failures of the events that are left, is what the whole notes
abbrev pub invariant-loop-i : goal.invariant-loop-i
invariant-loop-i g l =
    let own = option_map own_failure_of l.own in
    (timestamp : ℕ) → l.failures.items ++ failures_of own (placed (l.index + l.i) (timestamp + l.i) (drop l.i l.events))
    ≡ l.initial.failures.items ++ failures_of own (placed l.index timestamp l.events)
