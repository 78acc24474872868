-- How the program ends: its line on standard error and its exit status.
use Rattle.std.specs.Prelude.{ℕ, List, [], ◌∷◌, ◌++◌, codes, string_bytes}
use Rattle.std.specs.Fmt.{decimal}
use Rattle.std.specs.List.{concat}
use Rattle.tf_main.specs.Line.{line_feed}
use Rattle.tf_main.specs.declared.fault.RunFault.{RunFault}
use Rattle.tf_main.specs.declared.fault.RunFault.TheVariants.{NoMemory, BadLine, CannotWrite}
use Rattle.tf_main.specs.declared.ending.Ending.{Ending}
use Rattle.tf_main.specs.declared.ending.Ending.TheVariants.{Done, Usage, CannotRead, Fault, NoThread}

-- the line of a script's first fault
abbrev pub bad_line : ℕ → ℕ → List ℕ
bad_line line column = concat (codes "bad line " ∷ decimal line ∷ codes " column " ∷ decimal column ∷ line_feed ∷ [])

-- the line of a run that ended early
abbrev pub fault_line : RunFault → List ℕ
fault_line NoMemory = codes "no memory" ++ line_feed
fault_line (BadLine line column) = bad_line line column
fault_line (CannotWrite error) = codes "cannot write" ++ line_feed

-- the line where the file of this name couldn't be read
abbrev pub unread_line : List ℕ → List ℕ
unread_line name = concat (codes "cannot read " ∷ name ∷ line_feed ∷ [])

-- the line on standard error: none where the script was run to its end
abbrev pub ending_line : Ending → List ℕ
ending_line Done = []
ending_line Usage = codes "usage: tigerforest run SCRIPT or tigerforest storm SCRIPT.." ++ line_feed
ending_line (CannotRead name) = unread_line (string_bytes name)
ending_line (Fault fault) = fault_line fault
ending_line NoThread = codes "cannot start a thread" ++ line_feed

-- the exit status of a run that ended early: 2 for want of memory, else 1
abbrev pub fault_status : RunFault → ℕ
fault_status NoMemory = 2
fault_status (BadLine line column) = 1
fault_status (CannotWrite error) = 1

-- the exit status: 0 after a whole run, 2 for want of a thread
abbrev pub exit_status_of : Ending → ℕ
exit_status_of Done = 0
exit_status_of Usage = 1
exit_status_of (CannotRead name) = 1
exit_status_of (Fault fault) = fault_status fault
exit_status_of NoThread = 2
