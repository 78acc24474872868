-- What a storm of scripts tells.
use Rattle.std.specs.Prelude.{◌≡◌, ◌⊎◌, ℕ, ◌<◌, List, [], ◌∷◌, length, Option, Some, None, Result, Ok, Err, ⊤}
use Rattle.std.specs.Io.KnownBytes.{Appends, Keeps}
use Rattle.tf_script.specs.Command.{Command}
use Rattle.tf_script.specs.Script.{Place, script_of}
use Rattle.tf_main.specs.declared.ending.Ending.{Ending}
use Rattle.tf_main.specs.declared.ending.Ending.TheVariants.{Done, Usage, CannotRead, Fault}
use Rattle.tf_main.specs.declared.ending.Ending.TheVariants as ending
use Rattle.tf_main.specs.declared.fault.RunFault.TheVariants.{NoMemory, BadLine, CannotWrite}
use Rattle.tf_main.specs.Line.{totals_lines}
use Rattle.tf_main.specs.Output.{AppendsPart}
use Rattle.tf_storm.specs.declared.faults.RunStormFault.{RunStormFault}
use Rattle.tf_storm.specs.declared.faults.RunStormFault.TheVariants.{Run, NoThread}
use Rattle.tf_totals.specs.Totals.{IsBook}

-- the fault of a script that was read, else the first of the scripts behind it
abbrev pub or_later : Result (List Command) Place → Option Place → Option Place
or_later (Ok commands) later = later
or_later (Err place) later = Some place

-- the place of the first fault of the first script that has one
abbrev pub first_fault_of : List (List ℕ) → Option Place
first_fault_of [] = None
first_fault_of (script ∷ scripts) = or_later (script_of script) (first_fault_of scripts)

-- the lines of a storm of so many scripts were written, and nothing else: how many clients there were, and twice the book of a
-- lawful journal
pub record Tells (count : ℕ) (old new : Option (List ℕ)) : Type 0 where
  pub stored : ℕ
  pub book : IsBook stored
  pub written : Appends old new (totals_lines count stored stored)

-- a part of the lines was written, from the first byte on and not the whole
pub record TellsPart (count : ℕ) (old new : Option (List ℕ)) : Type 0 where
  pub stored : ℕ
  pub book : IsBook stored
  pub written : AppendsPart old new (totals_lines count stored stored)

-- no script has a fault, and the lines of a storm of them were written
abbrev pub HasTold : List (List ℕ) → Option (List ℕ) → Option (List ℕ) → Type 0
HasTold scripts old new = (first_fault_of scripts ≡ None) × Tells (length scripts) old new

-- what a fault says of reading scripts, whose first fault is this: that it is told, or that memory was refused
abbrev pub StopsReading : Option Place → RunStormFault → Type 0
StopsReading first (Run NoMemory) = ⊤
StopsReading first (Run (BadLine line column)) = first ≡ Some (record { line = line; column = column })
StopsReading first (Run (CannotWrite error)) = ⊥
StopsReading first NoThread = ⊥

-- a fault of the workers of a storm: memory was refused, or a thread
abbrev pub StopsWorking : RunStormFault → Type 0
StopsWorking (Run NoMemory) = ⊤
StopsWorking (Run (BadLine line column)) = ⊥
StopsWorking (Run (CannotWrite error)) = ⊥
StopsWorking NoThread = ⊤

-- what the fault of a storm says of its scripts and of what was written: at a bad line, that it is the first fault of the first
-- script that has one; where the writer failed or a thread couldn't be made, that no script has a fault
abbrev pub FaultTells : List (List ℕ) → Option (List ℕ) → Option (List ℕ) → RunStormFault → Type 0
FaultTells scripts old new (Run NoMemory) = Keeps old new
FaultTells scripts old new (Run (BadLine line column)) = (first_fault_of scripts ≡ Some (record { line = line; column = column })) × Keeps old new
FaultTells scripts old new (Run (CannotWrite error)) = (first_fault_of scripts ≡ None) × TellsPart (length scripts) old new
FaultTells scripts old new NoThread = (first_fault_of scripts ≡ None) × Keeps old new

-- what the ending of a storm of so many files says of what was written: its lines where it was done, or all of them or nothing
-- where memory was refused
abbrev pub EndingTells : ℕ → Option (List ℕ) → Option (List ℕ) → Ending → Type 0
EndingTells count old new Done = Tells count old new
EndingTells count old new Usage = Keeps old new × ((count ≡ 0) ⊎ (64 < count))
EndingTells count old new (CannotRead name) = Keeps old new
EndingTells count old new (Fault NoMemory) = Keeps old new ⊎ Tells count old new
EndingTells count old new (Fault (BadLine line column)) = Keeps old new
EndingTells count old new (Fault (CannotWrite error)) = TellsPart count old new
EndingTells count old new ending.NoThread = Keeps old new
