-- Lists: finding, pairs, and sums of which at most one term isn't 0.
use Rattle.std.proofs.Common.{◌≡◌, ℕ, ◌+◌, ◌<◌, zero, suc, Bool, true, false, cond, ◌||◌, List, [], ◌∷◌, ◌++◌, length, get_or, Option, Some, None, refl, ap, sym, ◌∙◌, subst, arith, append-nil, inl, inr}
use Rattle.std.specs.List.{All, AllPairs, cons_option, filter_map, find, list_any, sum_by}
use Rattle.std.specs.Option.{option_map_or, option_or}
use Rattle.std.proofs.Math.Bool.{or-false}
use Rattle.std.proofs.lemmas.Bool.{cases_Bool, both_ways, or_parts}
use Rattle.std.proofs.lemmas.List.{get_or_append_left, length-append}
use Rattle.std.proofs.lemmas.List.Elements.{All-cons, All-head, All-nil, All-tail, filter_map-append}
use Rattle.std.proofs.lemmas.List.Folds.{find-append, list_any-append}
use Rattle.std.proofs.lemmas.List.Sums.{sum_by-cons}

pub filter_map_push_some : {X Y : Type 0} (h : X → Option Y) (xs : List X) (x : X) (y : Y) → h x ≡ Some y → filter_map h (xs ++ x ∷ []) ≡ filter_map h xs ++ y ∷ []
filter_map_push_some h xs x y is = filter_map-append h xs (x ∷ []) ∙ ap (λ o. filter_map h xs ++ cons_option o []) is

pub filter_map_push_none : {X Y : Type 0} (h : X → Option Y) (xs : List X) (x : X) → h x ≡ None → filter_map h (xs ++ x ∷ []) ≡ filter_map h xs
filter_map_push_none h xs x is = filter_map-append h xs (x ∷ []) ∙ ap (λ o. filter_map h xs ++ cons_option o []) is ∙ append-nil (filter_map h xs)

-- what holds of each element holds of what a function gives of it
pub All-filter_map : {X Y : Type 0} (P : X → Type 0) (Q : Y → Type 0) (h : X → Option Y) → ((x : X) (y : Y) → h x ≡ Some y → P x → Q y)
    → (xs : List X) → All P xs → All Q (filter_map h xs)
All-filter_map P Q h gives [] all = All-nil Q
All-filter_map P Q h gives (x ∷ xs) all =
    let rest = All-filter_map P Q h gives xs (All-tail P x xs all) in
    let cases : (o : Option _) → h x ≡ o → All Q (cons_option o (filter_map h xs)) = elim [
      | None ↦ λ is. rest
      | Some y ↦ λ is. All-cons Q y (filter_map h xs) (gives x y is (All-head P x xs all)) rest
    ] in
    cases (h x) refl

pub list_any_push : {X : Type 0} (p : X → Bool) (xs : List X) (x : X) → list_any p (xs ++ x ∷ []) ≡ (list_any p xs || p x)
list_any_push p xs x = list_any-append p xs (x ∷ []) ∙ ap (λ b. list_any p xs || b) (or-false (p x))

-- what holds of each element of a list holds of each of its beginning
pub All_before : {X : Type 0} (P : X → Type 0) (xs ys : List X) → All P (xs ++ ys) → All P xs
All_before P xs ys all k d within = subst P (get_or_append_left xs ys d k within) (all k d (omega (arith, length-append xs ys)))

-- where no element passes, each fails
pub none_passes : {X : Type 0} (p : X → Bool) (xs : List X) → list_any p xs ≡ false → All (λ x. p x ≡ false) xs
none_passes p [] is = All-nil (λ x. p x ≡ false)
none_passes p (x ∷ xs) is =
    let parts = or_parts (p x) (list_any p xs) is in
    All-cons (λ y. p y ≡ false) x xs parts.0 (none_passes p xs parts.1)

find_here : {X : Type 0} (p : X → Bool) (x : X) (xs : List X) → p x ≡ true → find p (x ∷ xs) ≡ Some x
find_here p x xs passed = ap (λ b. cond b (Some x) (find p xs)) passed

find_later : {X : Type 0} (p : X → Bool) (x : X) (xs : List X) → p x ≡ false → find p (x ∷ xs) ≡ find p xs
find_later p x xs failed = ap (λ b. cond b (Some x) (find p xs)) failed

-- what isn't found is nowhere
pub find_none : {X : Type 0} (p : X → Bool) (xs : List X) → find p xs ≡ None → All (λ x. p x ≡ false) xs
find_none p [] is = All-nil (λ x. p x ≡ false)
find_none p (x ∷ xs) is =
    elim (cases_Bool (p x)) [
      | inl passed ↦ let found : Some x ≡ None = sym (find_here p x xs passed) ∙ is in cc
      | inr failed ↦ All-cons (λ y. p y ≡ false) x xs failed (find_none p xs (sym (find_later p x xs failed) ∙ is))
    ]

-- what is found passes the test
pub find_passes : {X : Type 0} (p : X → Bool) (xs : List X) (y : X) → find p xs ≡ Some y → p y ≡ true
find_passes p [] y is = cc
find_passes p (x ∷ xs) y is =
    elim (cases_Bool (p x)) [
      | inl passed ↦
          let found : Some x ≡ Some y = sym (find_here p x xs passed) ∙ is in
          let same : x ≡ y = cc in
          subst (λ z. p z ≡ true) same passed
      | inr failed ↦ find_passes p xs y (sym (find_later p x xs failed) ∙ is)
    ]

-- what holds of each element holds of what is found
pub find_All : {X : Type 0} (P : X → Type 0) (p : X → Bool) (xs : List X) (y : X) → All P xs → find p xs ≡ Some y → P y
find_All P p [] y all is = cc
find_All P p (x ∷ xs) y all is =
    elim (cases_Bool (p x)) [
      | inl passed ↦
          let found : Some x ≡ Some y = sym (find_here p x xs passed) ∙ is in
          let same : x ≡ y = cc in
          subst P same (All-head P x xs all)
      | inr failed ↦ find_All P p xs y (All-tail P x xs all) (sym (find_later p x xs failed) ∙ is)
    ]

-- what is found is found in a longer list too
pub find_push_some : {X : Type 0} (p : X → Bool) (xs ys : List X) (y : X) → find p xs ≡ Some y → find p (xs ++ ys) ≡ Some y
find_push_some p xs ys y is = find-append p xs ys ∙ ap (λ o. option_or o (find p ys)) is

-- what isn't found is not found in a beginning
pub find_before : {X : Type 0} (p : X → Bool) (xs ys : List X) → find p (xs ++ ys) ≡ None → find p xs ≡ None
find_before p xs ys is =
    let cases : (o : Option _) → option_or o (find p ys) ≡ None → o ≡ None = elim [
      | None ↦ λ none. refl
      | Some x ↦ λ none. cc
    ] in
    cases (find p xs) (sym (find-append p xs ys) ∙ is)

-- what isn't found before is found where it is last
pub find_push_none : {X : Type 0} (p : X → Bool) (xs ys : List X) → find p xs ≡ None → find p (xs ++ ys) ≡ find p ys
find_push_none p xs ys is = find-append p xs ys ∙ ap (λ o. option_or o (find p ys)) is

pub pairs_head : {X : Type 0} (R : X → X → Type 0) (x : X) (xs : List X) → AllPairs R (x ∷ xs) → All (R x) xs
pairs_head R x xs pairs k d within = pairs 0 (suc k) d (omega arith) (omega arith)

pub pairs_tail : {X : Type 0} (R : X → X → Type 0) (x : X) (xs : List X) → AllPairs R (x ∷ xs) → AllPairs R xs
pairs_tail R x xs pairs i j d before within = pairs (suc i) (suc j) d (omega arith) (omega arith)

-- no two elements pass
abbrev pub IsRare : {X : Type 0} → (X → Bool) → List X → Type 0
IsRare p xs = AllPairs (λ x y. p x ≡ true → p y ≡ false) xs

rare_rest : {X : Type 0} (p : X → Bool) (x : X) (xs : List X) → IsRare p (x ∷ xs) → p x ≡ true → All (λ y. p y ≡ false) xs
rare_rest p x xs rare passed k d within = pairs_head (λ x y. p x ≡ true → p y ≡ false) x xs rare k d within passed

rare_tail : {X : Type 0} (p : X → Bool) (x : X) (xs : List X) → IsRare p (x ∷ xs) → IsRare p xs
rare_tail p x xs rare = pairs_tail (λ x y. p x ≡ true → p y ≡ false) x xs rare

-- an element that alone passes is found
pub find_only : {X : Type 0} (p : X → Bool) (xs : List X) (y : X) (k : ℕ) → IsRare p xs → k < length xs → get_or xs k y ≡ y → p y ≡ true → find p xs ≡ Some y
find_only p [] y k rare within at passes = absurd (omega (arith, within))
find_only p (x ∷ xs) y zero rare within at passes = find_here p x xs (subst (λ z. p z ≡ true) (sym at) passes) ∙ ap Some at
find_only p (x ∷ xs) y (suc k) rare within at passes =
    let later : k < length xs = omega (arith, within) in
    elim (cases_Bool (p x)) [
      | inl passed ↦ absurd (both_ways (p y) (subst (λ z. p z ≡ false) at (rare_rest p x xs rare passed k y later)) passes)
      | inr failed ↦ find_later p x xs failed ∙ find_only p xs y k (rare_tail p x xs rare) later at passes
    ]

-- two sums of the same terms
pub sum_by_same : {X : Type 0} (f g : X → ℕ) (xs : List X) → All (λ x. f x ≡ g x) xs → sum_by f xs ≡ sum_by g xs
sum_by_same f g [] same = refl
sum_by_same f g (x ∷ xs) same =
    let rest = sum_by_same f g xs (All-tail (λ x. f x ≡ g x) x xs same) in
    let first : f x ≡ g x = All-head (λ x. f x ≡ g x) x xs same in
    omega (arith, sum_by-cons f x xs, sum_by-cons g x xs, rest, first)

-- a sum of terms that are all 0
pub sum_by_nothing : {X : Type 0} (f : X → ℕ) (xs : List X) → All (λ x. f x ≡ 0) xs → sum_by f xs ≡ 0
sum_by_nothing f [] none = refl
sum_by_nothing f (x ∷ xs) none =
    let rest = sum_by_nothing f xs (All-tail (λ y. f y ≡ 0) x xs none) in
    let first : f x ≡ 0 = All-head (λ y. f y ≡ 0) x xs none in
    omega (arith, sum_by-cons f x xs, rest, first)

-- two sums that differ at most at one place, where a test passes
pub sum_by_step : {X : Type 0} (f g h : X → ℕ) (p : X → Bool) (xs : List X) → IsRare p xs → All (λ x. p x ≡ false → f x ≡ g x) xs
    → ((x : X) → find p xs ≡ Some x → f x ≡ g x + h x) → sum_by f xs ≡ sum_by g xs + option_map_or h (find p xs) 0
sum_by_step f g h p [] rare same there = refl
sum_by_step f g h p (x ∷ xs) rare same there =
    elim (cases_Bool (p x)) [
      | inl passed ↦
          let here = find_here p x xs passed in
          let others : All (λ y. f y ≡ g y) xs = λ k d within. All-tail (λ y. p y ≡ false → f y ≡ g y) x xs same k d within (rare_rest p x xs rare passed k d within) in
          let rest = sum_by_same f g xs others in
          let found : option_map_or h (find p (x ∷ xs)) 0 ≡ h x = ap (λ o. option_map_or h o 0) here in
          omega (arith, sum_by-cons f x xs, sum_by-cons g x xs, rest, there x here, found)
      | inr failed ↦
          let later = find_later p x xs failed in
          let rest = sum_by_step f g h p xs (rare_tail p x xs rare) (All-tail (λ y. p y ≡ false → f y ≡ g y) x xs same) (λ y found. there y (later ∙ found)) in
          let first : f x ≡ g x = All-head (λ y. p y ≡ false → f y ≡ g y) x xs same failed in
          let found : option_map_or h (find p (x ∷ xs)) 0 ≡ option_map_or h (find p xs) 0 = ap (λ o. option_map_or h o 0) later in
          omega (arith, sum_by-cons f x xs, sum_by-cons g x xs, rest, first, found)
    ]
