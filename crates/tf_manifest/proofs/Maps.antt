-- What is written at a place.
use Rattle.std.proofs.Common.{◌≡◌, ℕ, zero, suc, List, [], ◌∷◌, ◌++◌, length, take, drop, Result, Ok, Err, OnErr, OnOk, slice_set, refl, ap, arith}
use Rattle.std.specs.Prelude.{slice_index_or}
use Rattle.std.specs.List.{refill}

take_whole : {X : Type 0} (ws rest : List X) (n : ℕ) → n ≡ length ws → take n (ws ++ rest) ≡ ws
take_whole [] rest zero e = refl
take_whole [] rest (suc n) e = absurd (omega arith)
take_whole (w ∷ ws) rest zero e = absurd (omega arith)
take_whole (w ∷ ws) rest (suc n) e = ap (λ ys. w ∷ ys) (take_whole ws rest n (omega arith))

pub refill_whole : {X : Type 0} (n : ℕ) (xs ws : List X) → n ≡ length ws → refill n xs ws ≡ ws
refill_whole n xs ws e = take_whole ws (drop (length ws) xs) n e

pub length-slice_set : {X : Type 0} (xs : List X) (i : ℕ) (y : X) → length (slice_set xs i y) ≡ length xs
length-slice_set [] i y = refl
length-slice_set (x ∷ xs) zero y = refl
length-slice_set (x ∷ xs) (suc i) y = ap suc (length-slice_set xs i y)

-- an element read at a place and written there again
pub set_back : {X : Type 0} (xs : List X) (i : ℕ) (x d : X) → x ≡ slice_index_or xs i d → slice_set xs i x ≡ xs
set_back [] i x d e = refl
set_back (y ∷ xs) zero x d e = ap (λ z. z ∷ xs) e
set_back (y ∷ xs) (suc i) x d e = ap (λ zs. y ∷ zs) (set_back xs i x d e)

pub on_ok : {X E : Type 0} (r : Result X E) (P Q : Type 0) → (P → Q) → OnOk r P → OnOk r Q
on_ok (Ok x) P Q f h = f h
on_ok (Err e) P Q f h = tt

pub on_err : {X E : Type 0} (r : Result X E) (P Q : Type 0) → (P → Q) → OnErr r P → OnErr r Q
on_err (Ok x) P Q f h = tt
on_err (Err e) P Q f h = f h
