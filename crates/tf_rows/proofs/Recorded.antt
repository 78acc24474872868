-- What a transfer's record changes, made at once with the step that takes it away.
use Rattle.std.proofs.Common.{◌≡◌, List, [], ◌∷◌, ◌++◌, Bool, Result, Ok, Err, IfErr, OnErr, OnOk, sym, ◌∙◌, subst}
use Rattle.tf_records.specs.declared.refusal.Refusal.{Refusal}
use Rattle.tf_records.specs.declared.refusal.Refusal.TheVariants as refusal
use Rattle.tf_records.specs.declared.transfer.Transfer.{Transfer}
use Rattle.tf_manifest.specs.declared.row.Row.{Row}
use Rattle.tf_manifest.specs.declared.value.Value.{Value}
use Rattle.tf_rows.specs.declared.change.Change.{Change}
use Rattle.tf_rows.specs.declared.change.Step.{Step}
use Rattle.tf_rows.specs.declared.change.Step.TheVariants as step
use Rattle.tf_rows.specs.Changes.{CanTakeRecord, all_changed, without_record}
use Rattle.tf_rows.specs.Made.{AreMade}
use Rattle.tf_rows.specs.Packed.{AreAdded}
use Rattle.tf_rows.specs.Parts.{Parts}
use Rattle.tf_rows.specs.Record.{record_changes}
use Rattle.tf_rows.proofs.Touched.{none_added, one_added}

module _ (has : Row → Bool) (fits : Row → Value → Bool) (takes_any : Row → Type 0) where
  -- rows that are as they were have no step more
  same_added : (steps : List Step) (old new : Parts) → new ≡ old → AreAdded has fits takes_any steps steps old new
  same_added steps old new same = subst (AreAdded has fits takes_any steps steps old) (sym same) (none_added has fits takes_any steps old)

  -- changes that were refused before any was made
  pub refused_at_once : {X : Type 0} (changes : List Change) (e : Refusal) (steps : List Step) (old new : Parts) → new ≡ old → e ≡ refusal.NoMemory → AreMade has fits takes_any {X = X} changes (Err e) steps steps old new
  refused_at_once changes e steps old new same is = record { rows = tt; steps = same_added steps old new same; refusal = is }

  -- a record that was put, and whose step was put behind others, or refused
  pub recorded : {X : Type 0} (result : Result X Refusal) (t : Transfer) (old mid new : Parts) (steps after : List Step)
      → mid ≡ all_changed (record_changes t) old → CanTakeRecord has fits takes_any t mid → without_record t mid ≡ old
      → OnOk result ((new ≡ mid) × (after ≡ steps ++ step.Transfer t ∷ [])) → OnErr result ((new ≡ without_record t mid) × (after ≡ steps)) → IfErr result (λ r. r ≡ refusal.NoMemory)
      → AreMade has fits takes_any (record_changes t) result steps after old new
  recorded (Ok x) t old mid new steps after put there restores ok err refused = record {
    rows = ok.0 ∙ put;
    steps = subst (AreAdded has fits takes_any steps after old) (sym ok.0) (one_added has fits takes_any steps after (step.Transfer t) old mid ok.1 there restores);
    refusal = tt;
  }
  recorded (Err e) t old mid new steps after put there restores ok err refused = record {
    rows = tt;
    steps = subst (λ (ss : List Step). AreAdded has fits takes_any steps ss old new) (sym err.1) (same_added steps old new (err.0 ∙ restores));
    refusal = refused;
  }
