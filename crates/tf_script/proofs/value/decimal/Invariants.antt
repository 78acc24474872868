use Rattle.std.proofs.Common.{◌≡◌, drop, fold}
use Rattle.tf_script.specs.Values.{decimal}
use Rattle.tf_script.proofs.ValueLemmas.{next_digit}
use Rattle.tf_script.proofs.value.decimal.Given as goal

-- the rest of the digits complete the number
abbrev pub invariant-loop-byte : goal.invariant-loop-byte
invariant-loop-byte l = fold next_digit l.number (drop l.byte-index l.digits) ≡ decimal l.digits
