-- Notes whose steps lie behind one another: one more, one less.
use Rattle.std.proofs.Common.{◌≡◌, ◌+◌, ◌-◌, ◌<◌, ◌≤◌, suc, List, [], ◌∷◌, ◌++◌, length, take, drop, refl, sym, ◌∙◌, ap, arith}
use Rattle.std.proofs.lemmas.List.{drop-append-le, drop_at, length-append, length-drop, length-take-le, take-append-drop, take-append-le, take_all, take_at}
use Rattle.std.specs.Prelude.{slice_index_or}
use Rattle.tf_rows.specs.declared.change.Step.{Step}
use Rattle.tf_forest.specs.declared.note.Note.{Note}
use Rattle.tf_forest.specs.Forest.{Noted}
use Rattle.tf_forest.specs.Notes.{noted, step_count}

no_steps : (steps : List Step) → length steps ≡ 0 → steps ≡ []
no_steps [] is = refl
no_steps (step ∷ steps) is = absurd (omega (arith, is))

-- a note behind others, with its steps behind theirs
pub noted-last : (notes : List Note) (last : Note) (steps new : List Step) → step_count notes ≡ length steps → length new ≡ last.steps → noted (notes ++ last ∷ []) (steps ++ new) ≡ noted notes steps ++ record { steps = new; formers = last.formers } ∷ []
noted-last [] last steps new count own =
    ap (λ (ss : List Step). noted (last ∷ []) (ss ++ new)) (no_steps steps (sym count))
    ∙ ap (λ (ss : List Step). record { steps = ss; formers = last.formers } ∷ []) (take_all last.steps new (omega (arith, own)))
noted-last (note ∷ notes) last steps new count own =
    let few : note.steps ≤ length steps = omega (arith, count) in
    let left = length-drop note.steps steps in
    ap (λ (ss : List Step). record { steps = ss; formers = note.formers } ∷ noted (notes ++ last ∷ []) (drop note.steps (steps ++ new))) (take-append-le note.steps steps new few)
    ∙ ap (λ (ss : List Step). record { steps = take note.steps steps; formers = note.formers } ∷ noted (notes ++ last ∷ []) ss) (drop-append-le note.steps steps new few)
    ∙ ap (λ (ns : List Noted). record { steps = take note.steps steps; formers = note.formers } ∷ ns) (noted-last notes last (drop note.steps steps) new (omega (arith, left, count)) own)

pub step_count-last : (notes : List Note) (last : Note) → step_count (notes ++ last ∷ []) ≡ step_count notes + last.steps
step_count-last [] last = omega arith
step_count-last (note ∷ notes) last = let rest = step_count-last notes last in omega (arith, rest)

pub noted_count : (notes : List Note) (steps : List Step) → length (noted notes steps) ≡ length notes
noted_count [] steps = refl
noted_count (note ∷ notes) steps = ap suc (noted_count notes (drop note.steps steps))

-- the last note apart
module _ (all rest : List Note) (last : Note) (steps : List Step) (is : all ≡ rest ++ last ∷ []) (count : step_count all ≡ length steps) where
  pub few_last : last.steps ≤ length steps
  few_last = let more = step_count-last rest last in let whole = ap step_count is in omega (arith, more, whole, count)

  pub rest_count : step_count rest ≡ length (take (length steps - last.steps) steps)
  rest_count =
      let more = step_count-last rest last in
      let whole = ap step_count is in
      let taken = length-take-le (length steps - last.steps) steps (omega arith) in
      omega (arith, more, whole, count, taken)

  pub noted_split : noted all steps ≡ noted rest (take (length steps - last.steps) steps) ++ record { steps = drop (length steps - last.steps) steps; formers = last.formers } ∷ []
  noted_split =
      let n = length steps - last.steps in
      let few = few_last in
      let left = length-drop n steps in
      ap (λ (ns : List Note). noted ns steps) is
      ∙ ap (noted (rest ++ last ∷ [])) (sym (take-append-drop n steps))
      ∙ noted-last rest last (take n steps) (drop n steps) rest_count (omega (arith, left, few))

-- the last of a list, and those before it
module _ {X : Type 0} (xs ys : List X) (x y : X) (is : xs ++ x ∷ [] ≡ ys ++ y ∷ []) where
  as_long : length ys ≡ length xs
  as_long =
      let first = length-append xs (x ∷ []) in
      let second = length-append ys (y ∷ []) in
      let same = ap (λ (l : List X). length l) is in
      omega (arith, first, second, same)

  pub same_rest : xs ≡ ys
  same_rest = sym (take_at xs (x ∷ []) (length xs) refl) ∙ ap (take (length xs)) is ∙ take_at ys (y ∷ []) (length xs) as_long

  pub same_last : x ≡ y
  same_last =
      ap (λ (l : List X). slice_index_or l 0 x)
      (sym (drop_at xs (x ∷ []) (length xs) refl) ∙ ap (drop (length xs)) is ∙ drop_at ys (y ∷ []) (length xs) as_long)

-- a list's last, and those before it
pub record EndsIn {X : Type 0} (all : List X) : Type 0 where
  pub rest : List X
  pub last : X
  pub is : all ≡ rest ++ last ∷ []

ending_from : {X : Type 0} (x : X) (xs : List X) → EndsIn (x ∷ xs)
ending_from x [] = record { rest = []; last = x; is = refl }
ending_from {X} x (y ∷ ys) =
    let more = ending_from y ys in
    record { rest = x ∷ more.rest; last = more.last; is = ap (λ (l : List X). x ∷ l) more.is }

pub ending : {X : Type 0} (all : List X) → 0 < length all → EndsIn all
ending [] some = absurd (omega (arith, some))
ending (x ∷ xs) some = ending_from x xs
