-- A seek in a slice.
use Rattle.std.proofs.Common.{◌≡◌, ℕ, List, [], ◌∷◌, true, false, Some, None, sym, ◌∙◌, subst}
use Rattle.tf_scan.specs.declared.direction.Direction.{Direction}
use Rattle.tf_scan.specs.Order.{is_before, IsInOrder, those_from}
use Rattle.tf_scan.specs.Sequence.{Sequence}
use Rattle.std.specs.Prelude.{slice_get}
use Rattle.tf_scan.proofs.Seeks.{from-first}
use Rattle.tf_scan.proofs.Firsts.{behind-next}

-- timestamps were taken out of these that a seek takes out
pub record IsSought (t : ℕ) (was : Sequence) (d : Direction) (ts : List ℕ) : Type 0 where
  pub direction : d ≡ was.direction
  pub in_order : IsInOrder d ts
  pub same : those_from d t ts ≡ those_from was.direction t was.left

-- a seek is over where the first one stays
pub over : (d : Direction) (f t : ℕ) (ts us found : List ℕ) → IsInOrder d ts → ts ≡ f ∷ us → is_before d f t ≡ false → those_from d t ts ≡ found → ts ≡ found
over d f t ts us found h e n s = sym (subst (λ xs. those_from d t xs ≡ xs) (sym e) (from-first d f t us (subst (λ xs. IsInOrder d xs) e h).0 n)) ∙ s

-- one list is in order exactly where the other is
pub record AreInOrderAlike (d : Direction) (all left : List ℕ) : Type 0 where
  pub all_of_left : IsInOrder d left → IsInOrder d all
  pub left_of_all : IsInOrder d all → IsInOrder d left

-- what is left behind the first one, where that comes before the next one
pub behind-first : (d : Direction) (f n : ℕ) (all ts us : List ℕ) → AreInOrderAlike d all ts → ts ≡ f ∷ us → Some n ≡ slice_get us 0 → is_before d f n ≡ true → AreInOrderAlike d all us
behind-first d f n all ts [] h e g b = absurd (let i : Some n ≡ None = g in cc)
behind-first d f n all ts (u ∷ us) h e g b =
    let i : Some n ≡ Some u = g in let p : n ≡ u = cc in
    record {
      all_of_left = λ o. h.all_of_left (subst (λ xs. IsInOrder d xs) (sym e) (behind-next d f u us (subst (λ w. is_before d f w ≡ true) p b) o.0, o));
      left_of_all = λ o. (subst (λ xs. IsInOrder d xs) e (h.left_of_all o)).1;
    }
