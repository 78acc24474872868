-- Changes that are made one after another, up to one that is refused.
use Rattle.std.specs.Prelude.{◌≡◌, List, Result, IfErr, OnOk, Bool}
use Rattle.tf_records.specs.declared.refusal.Refusal.{Refusal}
use Rattle.tf_records.specs.declared.refusal.Refusal.TheVariants as refusal
use Rattle.tf_manifest.specs.declared.row.Row.{Row}
use Rattle.tf_manifest.specs.declared.value.Value.{Value}
use Rattle.tf_rows.specs.declared.change.Change.{Change}
use Rattle.tf_rows.specs.declared.change.Step.{Step}
use Rattle.tf_rows.specs.Changes.{all_changed}
use Rattle.tf_rows.specs.Packed.{AreAdded}
use Rattle.tf_rows.specs.Parts.{Parts}

-- of a set of rows: which are in it, what values they store, and which take an entry for any key
module _ (has : Row → Bool) (fits : Row → Value → Bool) (takes_any : Row → Type 0) where
  -- all changes were made, or the first of them, before one was refused for want of memory: in any case steps were put behind
  -- others that take the rows back to what they were
  pub record AreMade {X : Type 0} (changes : List Change) (result : Result X Refusal) (old new : List Step) (before after : Parts) : Type 0 where
    pub rows : OnOk result (after ≡ all_changed changes before)
    pub steps : AreAdded has fits takes_any old new before after
    pub refusal : IfErr result (λ r. r ≡ refusal.NoMemory)
