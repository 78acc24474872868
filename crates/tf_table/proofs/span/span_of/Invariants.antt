use Rattle.std.proofs.Common.{map}
use Rattle.tf_table.proofs.Times.{Spans}
use Rattle.tf_table.proofs.span.span_of.Given as goal

abbrev pub invariant-loop-key : goal.invariant-loop-key
invariant-loop-key l = Spans l.span (map (λ key. key.timestamp) l.keys) l.key-index
