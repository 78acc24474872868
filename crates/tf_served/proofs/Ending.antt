-- What ends a run of commands ends it over a store of its own.
use Rattle.std.proofs.Common.{ℕ, List, Option, Result, Ok, Err, IfErr, true, inr}
use Rattle.tf_script.specs.Command.{Command}
use Rattle.tf_main.specs.declared.fault.RunFault.{RunFault}
use Rattle.tf_main.specs.declared.fault.RunFault.TheVariants.{NoMemory, BadLine, CannotWrite}
use Rattle.tf_main.specs.Script.{StopsRunning}
use Rattle.tf_served.specs.Served.{StopsServing}

stops : (commands : List Command) (old new : Option (List ℕ)) (fault : RunFault) → StopsRunning true commands old new fault → StopsServing commands old new fault
stops commands old new NoMemory stopped = inr stopped
stops commands old new (BadLine line column) stopped = stopped
stops commands old new (CannotWrite error) stopped = stopped

pub stops_serving : {X : Type 0} (commands : List Command) (old new : Option (List ℕ)) (result : Result X RunFault) → IfErr result (StopsRunning true commands old new) → IfErr result (StopsServing commands old new)
stops_serving commands old new (Ok x) stopped = tt
stops_serving commands old new (Err fault) stopped = stops commands old new fault stopped
