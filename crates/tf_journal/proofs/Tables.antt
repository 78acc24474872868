-- The first fault of a table that is another one's beginning.
use Rattle.std.proofs.Common.{◌≡◌, List, [], ◌∷◌, ◌++◌, Bool, true, false, Some, None, refl}
use Rattle.tf_records.specs.declared.outcome.Outcome.{Outcome}
use Rattle.tf_journal.specs.Verdict.{first_fault}

-- a fault of the first lines is that of the table
pub fault_early : (lines more : List (Bool × Outcome)) (fault : Outcome) → first_fault lines ≡ Some fault → first_fault (lines ++ more) ≡ Some fault
fault_early [] more fault is = cc
fault_early ((true, o) ∷ lines) more fault is = is
fault_early ((false, o) ∷ lines) more fault is = fault_early lines more fault is

-- where the first lines don't hold, the fault is that of the others
pub fault_later : (lines more : List (Bool × Outcome)) → first_fault lines ≡ None → first_fault (lines ++ more) ≡ first_fault more
fault_later [] more is = refl
fault_later ((true, o) ∷ lines) more is = cc
fault_later ((false, o) ∷ lines) more is = fault_later lines more is
