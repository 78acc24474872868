use Rattle.std.proofs.Common.{◌≡◌, ◌+◌, ◌==◌, drop}
use Rattle.std.specs.List.{prefix_len}
use Rattle.tf_script.proofs.bytes.leading_spaces.Given as goal

-- the bytes so far are spaces, so what is counted in all is what is counted in the rest, and these
abbrev pub invariant-loop-place : goal.invariant-loop-place
invariant-loop-place l =
    prefix_len (λ byte. byte == 32) l.bytes ≡ l.place + prefix_len (λ byte. byte == 32) (drop l.place l.bytes)
