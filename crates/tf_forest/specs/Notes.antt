-- Notes whose steps lie behind one another.
use Rattle.std.specs.Prelude.{◌≡◌, ℕ, ◌+◌, List, [], ◌∷◌, ◌++◌, take, drop, Bool}
use Rattle.tf_manifest.specs.declared.row.Row.{Row}
use Rattle.tf_manifest.specs.declared.value.Value.{Value}
use Rattle.tf_rows.specs.declared.change.Step.{Step}
use Rattle.tf_rows.specs.declared.former.Formers.{Formers}
use Rattle.tf_rows.specs.Changes.{CanStepAll, all_stepped}
use Rattle.tf_rows.specs.Parts.{Parts}
use Rattle.tf_forest.specs.declared.note.Note.{Note}
use Rattle.tf_forest.specs.Forest.{Noted}

-- each note with its own steps
abbrev pub noted : List Note → List Step → List Noted
noted [] steps = []
noted (note ∷ notes) steps = record { steps = take note.steps steps; formers = note.formers } ∷ noted notes (drop note.steps steps)

-- how many steps they have together
abbrev pub step_count : List Note → ℕ
step_count [] = 0
step_count (note ∷ notes) = note.steps + step_count notes

-- of a set of rows: which are in it, what values they store, and which take an entry for any key
module _ (has : Row → Bool) (fits : Row → Value → Bool) (takes_any : Row → Type 0) where
  -- a note was put behind others, whose steps take the rows back to what they were
  pub record IsNoted (formers : Formers) (old new : List Noted) (before after : Parts) : Type 0 where
    pub steps : List Step
    pub is : new ≡ old ++ record { steps = steps; formers = formers } ∷ []
    pub can : CanStepAll has fits takes_any steps after
    pub back : all_stepped steps after ≡ before
