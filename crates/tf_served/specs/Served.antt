-- What ends a run of commands over a store of their own.
use Rattle.std.specs.Prelude.{ℕ, List, Option, true}
use Rattle.tf_script.specs.Command.{Command}
use Rattle.tf_main.specs.declared.fault.RunFault.{RunFault}
use Rattle.tf_main.specs.declared.fault.RunFault.TheVariants.{NoMemory, BadLine, CannotWrite}
use Rattle.tf_main.specs.Script.{HasAnsweredPart, StopsForMemory}

-- what a fault of commands says that are run over a store of their own: memory may be refused before the first of them
abbrev pub StopsServing : List Command → Option (List ℕ) → Option (List ℕ) → RunFault → Type 0
StopsServing commands old new NoMemory = StopsForMemory true commands old new
StopsServing commands old new (BadLine line column) = ⊥
StopsServing commands old new (CannotWrite error) = HasAnsweredPart true commands old new
