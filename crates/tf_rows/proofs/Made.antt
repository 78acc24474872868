-- Changes that are made one after another, up to one that is refused.
use Rattle.std.proofs.Common.{◌≡◌, List, [], ◌∷◌, ◌++◌, Bool, Option, Result, Ok, Err, IfSome, IsTrue, OnOk, refl, sym, ◌∙◌, ap, subst}
use Rattle.tf_records.specs.declared.refusal.Refusal.{Refusal}
use Rattle.tf_table.specs.declared.key.Key.{Key}
use Rattle.tf_manifest.specs.declared.row.Row.{Row}
use Rattle.tf_manifest.specs.declared.value.Value.{Value}
use Rattle.tf_rows.specs.declared.change.Change.{Change}
use Rattle.tf_rows.specs.declared.change.Step.{Step}
use Rattle.tf_rows.specs.declared.change.Step.TheVariants as step
use Rattle.tf_rows.specs.Changes.{CanChangeAll, IsSingle, all_changed, changed}
use Rattle.tf_rows.specs.Made.{AreMade}
use Rattle.tf_rows.specs.Packed.{AreAdded}
use Rattle.tf_rows.specs.Parts.{IsPut, Parts}
use Rattle.tf_rows.proofs.Stepping.{put_stepped}
use Rattle.tf_rows.proofs.Touched.{more_added, none_added, one_added}

module _ (has : Row → Bool) (fits : Row → Value → Bool) (takes_any : Row → Type 0) where
  abbrev Can : List Change → Parts → Type 0
  Can changes parts = CanChangeAll has fits takes_any changes parts

  abbrev Added : List Step → List Step → Parts → Parts → Type 0
  Added old new before after = AreAdded has fits takes_any old new before after

  -- a change whose step was put behind others
  pub noted : {X E : Type 0} (result : Result X E) (r : Row) (key : Key) (before : Option (Option Value)) (value : Option Value) (old mid new : Parts) (steps after : List Step)
      → IsSingle r → IsTrue (has r) → IfSome before (λ entry. IfSome entry (λ v. IsTrue (fits r v))) → IsPut r key value before old mid
      → OnOk result ((new ≡ mid) × (after ≡ steps ++ step.Key r key before ∷ [])) → OnOk result (Added steps after old new)
  noted (Ok x) r key before value old mid new steps after single held kind put ok =
      subst (Added steps after old) (sym ok.0)
      (one_added has fits takes_any steps after (step.Key r key before) old mid ok.1 (record { single = single; held = held; kind = kind; there = put.there }) (put_stepped r key before value old mid put))
  noted (Err e) r key before value old mid new steps after single held kind put ok = tt

  -- of changes of rows the first ones are made, and these are left
  module _ (changes : List Change) (old : List Step) (before : Parts) where
    pub record IsUnderWay (left : List Change) (now : List Step) (present : Parts) : Type 0 where
      pub can : Can left present
      pub steps : Added old now before present
      pub rows : all_changed left present ≡ all_changed changes before

    pub begun : (left : List Change) → changes ≡ left → Can changes before → IsUnderWay left old before
    begun left is can = record {
      can = subst (λ (cs : List Change). Can cs before) is can;
      steps = none_added has fits takes_any old before;
      rows = ap (λ (cs : List Change). all_changed cs before) (sym is);
    }

    module _ (made first rest : List Change) (is : made ≡ first) (now : List Step) (present : Parts) (under : IsUnderWay (first ++ rest) now present) where
      -- the next ones can be made
      pub fitting : Can made present
      fitting = subst (λ (cs : List Change). Can cs present) (sym is) (in_front first present under.can) where
        in_front : (some : List Change) (parts : Parts) → Can (some ++ rest) parts → Can some parts
        in_front [] parts can = tt
        in_front (change ∷ some) parts can = (can.0, in_front some (changed change parts) can.1)

      module _ {X : Type 0} (next : List Step) (after : Parts) where
        -- once they are made, the rest is left
        pub further : (x : X) → AreMade has fits takes_any made (Ok x) now next present after → IsUnderWay rest next after
        further x are = record {
          can = subst (Can rest) (sym then) (behind first present under.can);
          steps = more_added has fits takes_any old now next before present after under.steps are.steps;
          rows = ap (all_changed rest) then ∙ sym (one_after_another first present) ∙ under.rows;
        } where
          then : after ≡ all_changed first present
          then = are.rows ∙ ap (λ (cs : List Change). all_changed cs present) is

          behind : (some : List Change) (parts : Parts) → Can (some ++ rest) parts → Can rest (all_changed some parts)
          behind [] parts can = can
          behind (change ∷ some) parts can = behind some (changed change parts) can.1

          one_after_another : (some : List Change) (parts : Parts) → all_changed (some ++ rest) parts ≡ all_changed rest (all_changed some parts)
          one_after_another [] parts = refl
          one_after_another (change ∷ some) parts = one_after_another some (changed change parts)

        -- where one of them is refused, that is what comes of all
        pub stopped : (e : Refusal) → AreMade has fits takes_any {X = X} made (Err e) now next present after → AreMade has fits takes_any {X = X} changes (Err e) old next before after
        stopped e are = record { rows = tt; steps = more_added has fits takes_any old now next before present after under.steps are.steps; refusal = are.refusal }

    -- what comes of the last ones is what comes of all
    pub last_made : {X : Type 0} (made : List Change) (now : List Step) (present : Parts) → IsUnderWay made now present
        → (result : Result X Refusal) (next : List Step) (after : Parts) → AreMade has fits takes_any made result now next present after → AreMade has fits takes_any changes result old next before after
    last_made made now present under (Ok x) next after are =
        record { rows = are.rows ∙ under.rows; steps = more_added has fits takes_any old now next before present after under.steps are.steps; refusal = tt }
    last_made made now present under (Err e) next after are =
        record { rows = tt; steps = more_added has fits takes_any old now next before present after under.steps are.steps; refusal = are.refusal }
