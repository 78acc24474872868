-- What holds of many results together, from what holds of each.
use Rattle.std.specs.Prelude.{◌≡◌, List, [], ◌∷◌, map, Result, Ok, Err, All, Contains, IfErr, IfOk, MatchResult}
use Rattle.std.specs.List.{AllZip}
use Rattle.std.proofs.Common.{subst, sym}
use Rattle.std.proofs.lemmas.List.Elements.{All-cons, All-contains, All-nil}

-- what was collected of results: all values, or one of the failures
abbrev pub IsCollected : {Y E C : Type 0} → (C → List Y) → List (Result Y E) → Result C E → Type 0
IsCollected {Y} items results collected = MatchResult collected
    (λ all. (ys : List Y) × (results ≡ map Ok ys) × (items all ≡ ys))
    (λ error. Contains results (Err error))

module _ {X Y E C : Type 0} (items : C → List Y) (P : X → Result Y E → Type 0) where
  each-answered : (R : X → Y → Type 0) → ((x : X) (y : Y) → P x (Ok y) → R x y)
      → (xs : List X) (ys : List Y) → AllZip P xs (map Ok ys) → AllZip R xs ys
  each-answered R ok [] [] each = tt
  each-answered R ok [] (y ∷ ys) each = absurd each
  each-answered R ok (x ∷ xs) [] each = absurd each
  each-answered R ok (x ∷ xs) (y ∷ ys) each = (ok x y each.0, each-answered R ok xs ys each.1)

  each-failed : (Q : E → Type 0) → ((x : X) (r : Result Y E) → P x r → IfErr r Q)
      → (xs : List X) (rs : List (Result Y E)) → AllZip P xs rs → All (λ r. IfErr r Q) rs
  each-failed Q fails [] [] each = All-nil (λ r. IfErr r Q)
  each-failed Q fails [] (r ∷ rs) each = absurd each
  each-failed Q fails (x ∷ xs) [] each = absurd each
  each-failed Q fails (x ∷ xs) (r ∷ rs) each = All-cons (λ r. IfErr r Q) r rs (fails x r each.0) (each-failed Q fails xs rs each.1)

  -- the values that were collected are those of the items
  pub collected-answers : (R : X → Y → Type 0) → ((x : X) (y : Y) → P x (Ok y) → R x y)
      → (xs : List X) (rs : List (Result Y E)) (r : Result C E) → AllZip P xs rs → IsCollected items rs r
      → IfOk r (λ all. AllZip R xs (items all))
  collected-answers R ok xs rs (Ok all) each is =
      subst (AllZip R xs) (sym is.2) (each-answered R ok xs is.0 (subst (AllZip P xs) is.1 each))
  collected-answers R ok xs rs (Err error) each is = tt

  -- the failure that was collected is one that an item may have
  pub collected-fails : (Q : E → Type 0) → ((x : X) (r : Result Y E) → P x r → IfErr r Q)
      → (xs : List X) (rs : List (Result Y E)) (r : Result C E) → AllZip P xs rs → IsCollected items rs r → IfErr r Q
  collected-fails Q fails xs rs (Ok all) each is = tt
  collected-fails Q fails xs rs (Err error) each is =
      All-contains (λ r. IfErr r Q) rs (Err error) (each-failed Q fails xs rs each) is

-- a result that may be given is no other failure than those that may be given
pub only-refuses : {Y E : Type 0} (gives : Result Y E → Type 0) (Q : E → Type 0) → ((error : E) → gives (Err error) → Q error)
    → (r : Result Y E) → gives r → IfErr r Q
only-refuses gives Q fails (Ok value) is = tt
only-refuses gives Q fails (Err error) is = fails error is
