-- Two neighbours in a list, taken out, and put back as one or as two others.
use Rattle.tf_btree.proofs.Words.{◌≡◌, ℕ, ◌+◌, ◌-◌, ◌<◌, List, ◌∷◌, ◌++◌, length, take, drop, get_or, refl, sym, ◌∙◌, ap, arith, append_assoc, take-append-drop, drop_more, length-take-le, get_or-remove_below, insert-append_right, remove-append_right, IsPairIn, joined}
use Rattle.std.specs.List.{insert, remove}
use Rattle.tf_btree.proofs.Parts.{joined-append}

pair_removed : {X : Type 0} (front : List X) (x y : X) (back : List X) (i : ℕ) → length front ≡ i → remove (remove (front ++ x ∷ y ∷ back) (i + 1)) i ≡ front ++ back
pair_removed front x y back i place =
    let one : i + 1 - i ≡ 1 = omega arith in
    let none : i - i ≡ 0 = omega arith in
    rw (remove-append_right front (x ∷ y ∷ back) i (i + 1) place (omega arith), one, remove-append_right front (x ∷ back) i i place (omega arith), none) refl

pub taken_pair : {X : Type 0} (xs : List X) (i : ℕ) (x y d e : X) → i + 1 < length xs → get_or xs (i + 1) e ≡ y → get_or (remove xs (i + 1)) i d ≡ x → IsPairIn xs i x y (remove (remove xs (i + 1)) i)
taken_pair {X} xs i x y d e lt second first =
    let front = take i xs in
    let back = drop (i + 1 + 1) xs in
    let place : length front ≡ i = length-take-le i xs (omega arith) in
    let here : get_or xs i d ≡ x = sym (get_or-remove_below xs (i + 1) d i (omega arith) lt) ∙ first in
    let behind : drop i xs ≡ x ∷ y ∷ back = drop_more xs i d (omega arith) ∙ rw (here, drop_more xs (i + 1) e lt, second) refl in
    let all : xs ≡ front ++ x ∷ y ∷ back = sym (take-append-drop i xs) ∙ ap (λ (ys : List X). front ++ ys) behind in
    record { front = front; back = back; place = place; all = all; others = ap (λ (ys : List X). remove (remove ys (i + 1)) i) all ∙ pair_removed front x y back i place }

put_at : {X : Type 0} (front back : List X) (i : ℕ) (z : X) → length front ≡ i → insert (front ++ back) i z ≡ front ++ z ∷ back
put_at front back i z place = let none : i - i ≡ 0 = omega arith in rw (insert-append_right front back i i z place (omega arith), none) refl

module _ {X : Type 0} (xs : List X) (i : ℕ) (x y : X) (rest : List X) (pair : IsPairIn xs i x y rest) where
  pub put_one : (z : X) → insert rest i z ≡ pair.front ++ z ∷ pair.back
  put_one z = rw pair.others (put_at pair.front pair.back i z pair.place)

  pub put_two : (z w : X) → insert (insert rest i w) i z ≡ pair.front ++ z ∷ w ∷ pair.back
  put_two z w = rw (put_one w) (put_at pair.front (w ∷ pair.back) i z pair.place)

joined_two : {X : Type 0} (front back : List (List X)) (p q r : List X) → r ≡ p ++ q → joined (front ++ p ∷ q ∷ back) ≡ joined (front ++ r ∷ back)
joined_two front back p q r same = joined-append front (p ∷ q ∷ back) ∙ rw same (ap (λ s. joined front ++ s) (sym (append_assoc p q (joined back)))) ∙ sym (joined-append front (r ∷ back))

-- the rows stay, where one entry has those of the two, or two others have them together
module _ {X : Type 0} (ps : List (List X)) (i : ℕ) (p q : List X) (rest : List (List X)) (pair : IsPairIn ps i p q rest) where
  pub joined-put_one : (r : List X) → r ≡ p ++ q → joined (insert rest i r) ≡ joined ps
  joined-put_one r same = rw (put_one ps i p q rest pair r, pair.all) (sym (joined_two pair.front pair.back p q r same))

  pub joined-put_two : (r s : List X) → r ++ s ≡ p ++ q → joined (insert (insert rest i s) i r) ≡ joined ps
  joined-put_two r s same =
      rw (put_two ps i p q rest pair r s, pair.all) (joined_two pair.front pair.back r s (p ++ q) (sym same) ∙ sym (joined_two pair.front pair.back p q (p ++ q) refl))
