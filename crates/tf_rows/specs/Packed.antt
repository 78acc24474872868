-- Steps in little room: what was changed, and beside it the entries of those keys that had one.
use Rattle.std.specs.Prelude.{ℕ, ◌+◌, List, [], ◌∷◌, ◌++◌, ◌≡◌, Option, Some, None, Bool, true, false, if◌then◌else◌}
use Rattle.tf_manifest.specs.declared.row.Row.{Row}
use Rattle.tf_manifest.specs.declared.value.Value.{Value}
use Rattle.tf_rows.specs.declared.change.Step.{Step}
use Rattle.tf_rows.specs.declared.change.Step.TheVariants as step
use Rattle.tf_rows.specs.declared.steps.Touched.{Touched}
use Rattle.tf_rows.specs.declared.steps.Touched.TheVariants as touched
use Rattle.tf_rows.specs.Changes.{CanStepAll, all_stepped}
use Rattle.tf_rows.specs.Parts.{Parts}

-- what a key had, if it had an entry: the first of those that are left
abbrev pub before_in : Bool → List (Option Value) → Option (Option Value)
before_in false entries = None
before_in true [] = None
before_in true (entry ∷ entries) = Some entry

-- those that are left after it
abbrev pub left_after : Bool → List (Option Value) → List (Option Value)
left_after false entries = entries
left_after true [] = []
left_after true (entry ∷ entries) = entries

-- whether what was changed had an entry
abbrev pub had_of : Touched → Bool
had_of (touched.Key had r timestamp value) = had
had_of (touched.Transfer t) = false

-- the step that takes a change back
abbrev pub step_of : Touched → List (Option Value) → Step
step_of (touched.Key had r timestamp value) entries =
    step.Key r (record { value = value; timestamp = timestamp }) (before_in had entries)
step_of (touched.Transfer t) entries = step.Transfer t

-- the steps that take changes back
abbrev pub steps_of : List Touched → List (Option Value) → List Step
steps_of [] entries = []
steps_of (change ∷ others) entries = step_of change entries ∷ steps_of others (left_after (had_of change) entries)

-- how many of them had an entry
abbrev pub had_count : List Touched → ℕ
had_count [] = 0
had_count (change ∷ others) = (if had_of change then 1 else 0) + had_count others

-- of a set of rows: which are in it, what values they store, and which take an entry for any key
module _ (has : Row → Bool) (fits : Row → Value → Bool) (takes_any : Row → Type 0) where
  -- steps were put behind others, which take the rows back to what they were
  pub record AreAdded (old new : List Step) (before after : Parts) : Type 0 where
    pub steps : List Step
    pub is : new ≡ old ++ steps
    pub can : CanStepAll has fits takes_any steps after
    pub back : all_stepped steps after ≡ before
