use Rattle.std.proofs.Common.{◌≡◌, length}
use Rattle.std.specs.List.{slice_split}
use Rattle.tf_script.specs.Reader.Tables.{texts_of}
use Rattle.tf_script.specs.Values.{bits_with}
use Rattle.tf_script.proofs.ValueLemmas.{is_bar}
use Rattle.tf_script.proofs.value.flags.Given as goal

-- the names so far and those that are left
abbrev pub invariant-loop-bits : goal.invariant-loop-bits
invariant-loop-bits l =
    bits_with (texts_of l.names) l.bits (slice_split is_bar l.rest)
    ≡ bits_with (texts_of l.names) 0 (slice_split is_bar l.text)

abbrev pub decreases-loop-bits : goal.decreases-loop-bits
decreases-loop-bits l = length l.rest
