-- Walks that change each element of a list in turn.
use Rattle.std.proofs.Common.{◌≡◌, ℕ, ◌+◌, ◌<◌, List, [], ◌∷◌, ◌++◌, length, take, drop, set, get_or, refl, sym, ◌∙◌, ap, subst, arith}
use Rattle.std.specs.List.{AllZip}
use Rattle.std.proofs.lemmas.List.{take_more, take_more_set, get_or-drop, length-drop, drop-set-lt, drop-drop}
use Rattle.std.proofs.lemmas.List.Elements.{AllZip-push}

-- so many elements were changed as the relation says, and the others are as they were
pub record IsWalked {X : Type 0} (R : X → X → Type 0) (count : ℕ) (old now : List X) : Type 0 where
  pub done : AllZip R (take count old) (take count now)
  pub rest : drop count now ≡ drop count old

module _ {X : Type 0} (R : X → X → Type 0) where
  pub walked-none : (xs : List X) → IsWalked R 0 xs xs
  walked-none xs = record { done = tt; rest = refl }

  same-length : (count : ℕ) (old now : List X) → count < length now → drop count now ≡ drop count old → count < length old
  same-length count old now l e = omega (arith, length-drop count old, length-drop count now, ap length e)

  -- the next element is as it was
  pub walked-next : (count : ℕ) (old now : List X) (x : X) → IsWalked R count old now → count < length now → x ≡ get_or now count x → (count < length old) × (get_or old count x ≡ x)
  walked-next count old now x w l e =
      let n : count + 0 ≡ count = omega arith in (
        same-length count old now l w.rest,
        ap (λ i. get_or old i x) (sym n) ∙ sym (get_or-drop count old 0 x) ∙ ap (λ (ys : List X). get_or ys 0 x) (sym w.rest) ∙ get_or-drop count now 0 x ∙ ap (λ i. get_or now i x) n ∙ sym e,
      )

  pub walked-more : (count : ℕ) (old now : List X) (x y : X) → IsWalked R count old now → count < length now → x ≡ get_or now count x → R x y → IsWalked R (count + 1) old (set now count y)
  walked-more count old now x y w l e r =
      let next = walked-next count old now x w l e in
      let after : count < count + 1 = omega arith in
      record {
        done = subst (λ ys. AllZip R ys (take (count + 1) (set now count y))) (sym (take_more old count x next.0))
            (subst (AllZip R (take count old ++ get_or old count x ∷ [])) (sym (take_more_set now count y l))
            (AllZip-push R (take count old) (take count now) (get_or old count x) y w.done (subst (λ z. R z y) (sym next.1) r)));
        rest = drop-set-lt (count + 1) now count y after ∙ again now ∙ ap (drop 1) w.rest ∙ sym (again old);
      }
    where
      again : (xs : List X) → drop (count + 1) xs ≡ drop 1 (drop count xs)
      again xs = sym (drop-drop 1 count xs)
