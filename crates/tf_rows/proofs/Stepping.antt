-- Changes of rows one after another, and steps back one after another.
use Rattle.std.proofs.Common.{◌≡◌, ◌≢◌, ℕ, List, [], ◌∷◌, ◌++◌, Option, Bool, true, false, cond, refl, sym, ◌∙◌, ap, subst}
use Rattle.std.specs.Prelude.{◌==◌}
use Rattle.std.proofs.Math.ListN.{get_or}
use Rattle.std.proofs.Math.Path.{fun_ext}
use Rattle.std.proofs.lemmas.Bool.{both_ways, eq-eqb, eqb-true}
use Rattle.tf_table.specs.declared.key.Key.{Key}
use Rattle.tf_manifest.specs.declared.row.Row.{Row}
use Rattle.tf_manifest.specs.declared.row.Row.TheVariants as row
use Rattle.tf_manifest.specs.declared.value.Value.{Value}
use Rattle.tf_manifest.specs.RowNames.{rows_in_order}
use Rattle.tf_rows.specs.declared.change.Change.{Change}
use Rattle.tf_rows.specs.declared.change.Step.{Step}
use Rattle.tf_rows.specs.Changes.{CanStep, CanStepAll, all_stepped, changed, key_back, stepped, with_part}
use Rattle.tf_rows.specs.Parts.{IsPut, IsTakenBack, Part, Parts, place_of, with_back, with_entry}

-- the row at a place
row_at_place : ℕ → Row
row_at_place n = get_or rows_in_order n row.History

place_back : (r : Row) → row_at_place (place_of r) ≡ r
unfolding row_at_place
place_back row.AccountObjects = refl
place_back row.AccountIds = refl
place_back row.AccountUserData128 = refl
place_back row.AccountUserData64 = refl
place_back row.AccountUserData32 = refl
place_back row.AccountLedger = refl
place_back row.AccountCode = refl
place_back row.AccountSums = refl
place_back row.TransferObjects = refl
place_back row.TransferIds = refl
place_back row.TransferDebit = refl
place_back row.TransferCredit = refl
place_back row.TransferUserData128 = refl
place_back row.TransferUserData64 = refl
place_back row.TransferUserData32 = refl
place_back row.TransferLedger = refl
place_back row.TransferCode = refl
place_back row.PendingStatus = refl
place_back row.Expiry = refl
place_back row.ExpiryEntries = refl
place_back row.History = refl

-- no two rows stand at one place
pub place_exact : (r s : Row) → place_of r ≡ place_of s → r ≡ s
place_exact r s e = sym (place_back r) ∙ ap row_at_place e ∙ place_back s

-- rows that differ at one row alone
differ : (r : Row) (part : Part) (old new : Parts) → new r ≡ part → ((other : Row) → other ≢ r → new other ≡ old other) → new ≡ with_part r part old
differ r part old new here elsewhere = fun_ext each where
  by_test : (other : Row) (b : Bool) → (place_of other == place_of r) ≡ b → new other ≡ cond b part (old other)
  by_test other true e = ap new (place_exact other r (eqb-true (place_of other) (place_of r) e)) ∙ here
  by_test other false e = elsewhere other (λ (same : other ≡ r). both_ways (place_of other == place_of r) e (eq-eqb (place_of other) (place_of r) (ap place_of same)))

  each : (other : Row) → new other ≡ with_part r part old other
  each other = by_test other (place_of other == place_of r) refl

pub put_changed : (change : Change) (before : Option (Option Value)) (old new : Parts) → IsPut change.row change.key change.value before old new → new ≡ changed change old
put_changed change before old new put = differ change.row (with_entry change.key change.value (old change.row)) old new put.here put.elsewhere

pub put_stepped : (r : Row) (key : Key) (before : Option (Option Value)) (entry : Option Value) (old new : Parts) → IsPut r key entry before old new → key_back r key before new ≡ old
put_stepped r key before entry old new put = sym (differ r (with_back key before (new r)) new old (sym put.restores) (λ other n. sym (put.elsewhere other n)))

pub taken_stepped : (r : Row) (key : Key) (before : Option (Option Value)) (old new : Parts) → IsTakenBack r key before old new → new ≡ key_back r key before old
taken_stepped r key before old new taken = differ r (with_back key before (old r)) old new taken.here taken.elsewhere

-- the last step is taken first
pub all_stepped-last : (steps : List Step) (step : Step) (parts : Parts) → all_stepped (steps ++ step ∷ []) parts ≡ all_stepped steps (stepped step parts)
all_stepped-last [] step parts = refl
all_stepped-last (s ∷ steps) step parts = ap (stepped s) (all_stepped-last steps step parts)

module _ (has : Row → Bool) (fits : Row → Value → Bool) (takes_any : Row → Type 0) where
  pub can_step-last : (steps : List Step) (step : Step) (parts : Parts) → CanStep has fits takes_any step parts → CanStepAll has fits takes_any steps (stepped step parts) → CanStepAll has fits takes_any (steps ++ step ∷ []) parts
  can_step-last [] step parts can rest = (tt, can)
  can_step-last (s ∷ steps) step parts can rest =
      (can_step-last steps step parts can rest.0, subst (CanStep has fits takes_any s) (sym (all_stepped-last steps step parts)) rest.1)

  can_step-first : (steps : List Step) (step : Step) (parts : Parts) → CanStepAll has fits takes_any (steps ++ step ∷ []) parts → CanStep has fits takes_any step parts × CanStepAll has fits takes_any steps (stepped step parts)
  can_step-first [] step parts can = (can.1, tt)
  can_step-first (s ∷ steps) step parts can =
      let rest = can_step-first steps step parts can.0 in
      (rest.0, (rest.1, subst (CanStep has fits takes_any s) (all_stepped-last steps step parts) can.1))

  -- where the last of several steps can be taken, so can the others after it
  pub popped : (steps rest : List Step) (step : Step) (parts : Parts) → steps ≡ rest ++ step ∷ [] → CanStepAll has fits takes_any steps parts → CanStep has fits takes_any step parts × CanStepAll has fits takes_any rest (stepped step parts)
  popped steps rest step parts e can = can_step-first rest step parts (subst (λ (ss : List Step). CanStepAll has fits takes_any ss parts) e can)
