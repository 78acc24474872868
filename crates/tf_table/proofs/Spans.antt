-- Rows side by side in a list: those from one place up to another.
use Rattle.std.proofs.Common.{◌≡◌, ℕ, zero, suc, ◌+◌, ◌-◌, ◌<◌, ◌≤◌, List, [], ◌∷◌, ◌++◌, length, take, drop, get_or, Option, Some, None, sym, ◌∙◌, ap, arith}
use Rattle.std.specs.List.{slice_get}
use Rattle.std.specs.Option.{MatchOption, option_map}
use Rattle.std.proofs.lemmas.List.{drop_more, take_all, take_more, length-drop, get_or-drop}
use Rattle.std.proofs.lemmas.Option.{get_or_from_slice_get, none-some}

-- the list from a place up to another
abbrev pub span : {X : Type 0} → ℕ → ℕ → List X → List X
span from to xs = take (to - from) (drop from xs)

pub span_all : {X : Type 0} (n : ℕ) (xs : List X) → n ≡ length xs → span 0 n xs ≡ xs
span_all n xs e = take_all (n - 0) xs (omega arith)

pub span_none : {X : Type 0} (from to : ℕ) (xs : List X) → from ≡ to → span from to xs ≡ []
span_none from to xs e = let n : to - from ≡ 0 = omega arith in ap (λ m. take m (drop from xs)) n

-- its first element, and the rest
pub span_first : {X : Type 0} (from to : ℕ) (xs : List X) (x : X) → from < to → to ≤ length xs → slice_get xs from ≡ Some x → span from to xs ≡ x ∷ span (from + 1) to xs
span_first from to xs x l h e =
    let n : to - from ≡ suc (to - (from + 1)) = omega arith in
    let there : get_or xs from x ≡ x = get_or_from_slice_get xs from x x e in
    ap (λ m. take m (drop from xs)) n ∙ ap (take (suc (to - (from + 1)))) (drop_more xs from x (omega arith)) ∙ ap (λ y. y ∷ span (from + 1) to xs) there

-- its last element, and what is before it
pub span_last : {X : Type 0} (from to last : ℕ) (xs : List X) (x : X) → from ≤ last → last + 1 ≡ to → to ≤ length xs → slice_get xs last ≡ Some x → span from to xs ≡ span from last xs ++ x ∷ []
span_last {X} from to last xs x l n h e =
    let m : to - from ≡ (last - from) + 1 = omega arith in
    let p : from + (last - from) ≡ last = omega arith in
    let there : get_or (drop from xs) (last - from) x ≡ x = get_or-drop from xs (last - from) x ∙ ap (λ i. get_or xs i x) p ∙ get_or_from_slice_get xs last x x e in
    ap (λ i. take i (drop from xs)) m ∙ take_more (drop from xs) (last - from) x (omega (arith, length-drop from xs)) ∙ ap (λ y. span from last xs ++ y ∷ []) there

none_inside : {X : Type 0} (xs : List X) (i : ℕ) → slice_get xs i ≡ None → i < length xs → ⊥
none_inside [] i e l = omega arith
none_inside (x ∷ xs) zero e l = none-some x (sym e)
none_inside (x ∷ xs) (suc i) e l = none_inside xs i e (omega arith)

-- what was read at a place of a span, as `next` and `next_back` say it
pub first_read : {R X : Type 0} (view : R → X) (r : Option R) (from to : ℕ) (xs s t : List X) → span from to xs ≡ s → span (from + 1) to xs ≡ t → option_map view r ≡ slice_get xs from → from < to → to ≤ length xs
    → MatchOption r ((s ≡ []) × (t ≡ [])) (λ x. s ≡ view x ∷ t)
first_read view None from to xs s t es et e l h = absurd (none_inside xs from (sym e) (omega arith))
first_read {X = X} view (Some r) from to xs s t es et e l h = sym es ∙ span_first from to xs (view r) l h (sym e) ∙ ap (λ (ys : List X). view r ∷ ys) et

pub last_read : {R X : Type 0} (view : R → X) (r : Option R) (from to last : ℕ) (xs s t : List X) → span from to xs ≡ s → span from last xs ≡ t → option_map view r ≡ slice_get xs last → from ≤ last → last + 1 ≡ to → to ≤ length xs
    → MatchOption r ((s ≡ []) × (t ≡ [])) (λ x. s ≡ t ++ view x ∷ [])
last_read view None from to last xs s t es et e l n h = absurd (none_inside xs last (sym e) (omega arith))
last_read {X = X} view (Some r) from to last xs s t es et e l n h = sym es ∙ span_last from to last xs (view r) l n h (sym e) ∙ ap (λ (ys : List X). ys ++ view r ∷ []) et
