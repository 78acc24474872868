-- What is read and written at a place.
use Rattle.std.proofs.Common.{◌≡◌, ℕ, zero, suc, ◌+◌, ◌<◌, ◌≤◌, List, [], ◌∷◌, ◌++◌, length, map, take, drop, get_or, Some, None, slice_get, slice_set, refl, sym, ◌∙◌, ap, arith}
use Rattle.std.specs.List.{remove}

module _ {X Y : Type 0} (f : X → Y) where
  pub read_at : (xs : List X) (i : ℕ) (x : X) → i < length xs → x ≡ get_or xs i x → slice_get (map f xs) i ≡ Some (f x)
  read_at [] i x h e = absurd (omega arith)
  read_at (y ∷ xs) zero x h e = ap (λ (z : X). Some (f z)) (sym e)
  read_at (y ∷ xs) (suc i) x h e = read_at xs i x (omega arith) e

  pub read_past : (xs : List X) (i : ℕ) → length xs ≤ i → slice_get (map f xs) i ≡ None
  read_past [] i h = refl
  read_past (y ∷ xs) zero h = absurd (omega arith)
  read_past (y ∷ xs) (suc i) h = read_past xs i (omega arith)

pub read_one : {X : Type 0} (xs : List X) (i : ℕ) (x : X) → i < length xs → x ≡ get_or xs i x → slice_get xs i ≡ Some x
read_one [] i x h e = absurd (omega arith)
read_one {X} (y ∷ xs) zero x h e = ap (λ (z : X). Some z) (sym e)
read_one (y ∷ xs) (suc i) x h e = read_one xs i x (omega arith) e

set_removed : {X : Type 0} (xs : List X) (i k : ℕ) (y : X) → i + 1 < length xs → k ≡ i + 2 → slice_set (remove xs i) i y ≡ take i xs ++ y ∷ drop k xs
set_removed [] i k y h e = absurd (omega arith)
set_removed (a ∷ []) i k y h e = absurd (omega arith)
set_removed (a ∷ b ∷ xs) zero k y h e = ap (λ n. y ∷ drop n (a ∷ b ∷ xs)) (sym e)
set_removed (a ∷ b ∷ xs) (suc i) zero y h e = absurd (omega arith)
set_removed (a ∷ b ∷ xs) (suc i) (suc k) y h e = ap (λ ys. a ∷ ys) (set_removed (b ∷ xs) i k y (omega arith) (omega arith))

-- one element in the place of two: the first is taken out, and the next one written over
pub replaced : {X : Type 0} (xs removed : List X) (i : ℕ) (y : X) → i + 1 < length xs → removed ≡ remove xs i → slice_set removed i y ≡ take i xs ++ y ∷ drop (i + 2) xs
replaced {X} xs removed i y h r = ap (λ (ys : List X). slice_set ys i y) r ∙ set_removed xs i (i + 2) y h refl
