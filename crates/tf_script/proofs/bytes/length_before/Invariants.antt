use Rattle.std.proofs.Common.{◌≡◌, ◌+◌, ◌==◌, drop}
use Rattle.std.specs.List.{position_or_len}
use Rattle.tf_script.proofs.bytes.length_before.Given as goal

-- none of the bytes so far is the stop
abbrev pub invariant-loop-place : goal.invariant-loop-place
invariant-loop-place l =
    position_or_len (λ byte. byte == l.stop) l.bytes
    ≡ l.place + position_or_len (λ byte. byte == l.stop) (drop l.place l.bytes)
