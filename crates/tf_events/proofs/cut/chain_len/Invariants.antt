use Rattle.std.proofs.Common.{◌≡◌, ◌+◌, drop}
use Rattle.tf_events.specs.Walk.{chain_length}
use Rattle.tf_events.proofs.cut.chain_len.Given as goal

-- the events so far are linked: the first chain has them and the first chain of the rest
abbrev pub invariant-loop-i : goal.invariant-loop-i
invariant-loop-i g l = chain_length g.E.Event.kind l.events ≡ chain_length g.E.Event.kind (drop l.i l.events) + l.i
