-- Places in lists, and numbers that decimal digits spell.
use Rattle.std.proofs.Common.{◌≡◌, ℕ, ◌+◌, ◌-◌, ◌*◌, ◌<◌, ◌≤◌, suc, Bool, true, false, cond, leb, eqb, List, [], ◌∷◌, length, get_or, take, drop, map, fold, not, bit_or, ⊎_elim, Some, None, refl, sym, ap, ◌∙◌, arith}
use Rattle.std.specs.List.{position_from, position_or_len, before_first, after_first, slice_split, onto_first}
use Rattle.std.proofs.lemmas.List.{at_drop_more, at_drop_all}
use Rattle.std.proofs.lemmas.Bool.Decides.{nat_tests}
use Rattle.std.proofs.lemmas.Bool.{cases_lt}
use Rattle.std.proofs.lemmas.List.Splits.{slice_split_first}
use Rattle.std.proofs.lemmas.List.Sums.{prefix_len-le-length}
use Rattle.tf_script.specs.Values.{at_most, bit_of, bits_with}

pub position_from-map : {X Y : Type 0} (p : Y → Bool) (f : X → Y) (i : ℕ) (xs : List X) → position_from p i (map f xs) ≡ position_from (λ x. p (f x)) i xs
position_from-map p f i [] = refl
position_from-map p f i (x ∷ xs) = ap (λ r. cond (p (f x)) (Some i) r) (position_from-map p f (i + 1) xs)

pub position_from-found : {X : Type 0} (p : X → Bool) (xs : List X) (i : ℕ) (d : X) → i < length xs → p (get_or xs i d) ≡ true → position_from p i (drop i xs) ≡ Some i
position_from-found p xs i d h e = at_drop_more (position_from p i) xs i d h ∙ rw e refl

pub position_from-more : {X : Type 0} (p : X → Bool) (xs : List X) (i : ℕ) (d : X) → i < length xs → p (get_or xs i d) ≡ false → position_from p i (drop i xs) ≡ position_from p (i + 1) (drop (i + 1) xs)
position_from-more p xs i d h e = at_drop_more (position_from p i) xs i d h ∙ rw e refl

pub position_from-end : {X : Type 0} (p : X → Bool) (xs : List X) (i : ℕ) → length xs ≤ i → position_from p i (drop i xs) ≡ None
position_from-end p xs i h = at_drop_all (position_from p i) xs i h

-- one more digit
abbrev pub next_digit : ℕ → ℕ → ℕ
next_digit number digit = 10 * number + (digit - 48)

pub fold-next_digit-ge : (number : ℕ) (digits : List ℕ) → number ≤ fold next_digit number digits
fold-next_digit-ge number [] = omega arith
fold-next_digit-ge number (digit ∷ digits) = omega (arith, fold-next_digit-ge (next_digit number digit) digits)

pub at_most-above : (greatest number : ℕ) → greatest < number → at_most greatest number ≡ None
at_most-above greatest number h = let e : leb number greatest ≡ false = grind (arith, nat_tests) in rw e refl

pub at_most-within : (greatest number : ℕ) → number ≤ greatest → at_most greatest number ≡ Some number
at_most-within greatest number h = let e : leb number greatest ≡ true = grind (arith, nat_tests) in rw e refl

last-step : {X : Type 0} (p : X → Bool) (x : X) (xs : List X) (t : Bool) → p x ≡ t
    → (position_or_len p xs ≡ length xs → slice_split p xs ≡ before_first p xs ∷ [])
    → position_or_len p (x ∷ xs) ≡ length (x ∷ xs) → slice_split p (x ∷ xs) ≡ before_first p (x ∷ xs) ∷ []
last-step p x xs true e more h =
    let first : position_or_len p (x ∷ xs) ≡ 0 = rw e refl in
    absurd (omega (arith, first, h))
last-step p x xs false e more h =
    let next : position_or_len p (x ∷ xs) ≡ suc (position_or_len p xs) = rw e (omega arith) in
    let split : slice_split p (x ∷ xs) ≡ onto_first x (slice_split p xs) = rw e refl in
    split ∙ ap (onto_first x) (more (omega (arith, next, h))) ∙ sym (ap (λ n. take n (x ∷ xs) ∷ []) next)

-- where no element passes, the list is the one part
pub slice_split-last : {X : Type 0} (p : X → Bool) (xs : List X) → position_or_len p xs ≡ length xs → slice_split p xs ≡ before_first p xs ∷ []
slice_split-last p [] h = refl
slice_split-last p (x ∷ xs) h = last-step p x xs (p x) refl (slice_split-last p xs) h

-- the parts have a first
slice_split-front : {X : Type 0} (p : X → Bool) (xs : List X) (d : X) → (rest : List (List X)) × (slice_split p xs ≡ before_first p xs ∷ rest)
slice_split-front p xs d =
    ⊎_elim (λ h. (slice_split p (after_first p xs), slice_split_first p xs d h))
    (λ h. ([], slice_split-last p xs (omega (arith, h, prefix_len-le-length (λ x. not (p x)) xs))))
    (cases_lt (position_or_len p xs) (length xs))

abbrev pub is_bar : ℕ → Bool
is_bar byte = eqb byte 124

pub bits_with-unknown : (names : List (List ℕ)) (bits : ℕ) (text : List ℕ) → None ≡ bit_of names (before_first is_bar text) → bits_with names bits (slice_split is_bar text) ≡ None
bits_with-unknown names bits text h =
    let parts = slice_split-front is_bar text 0 in
    ap (bits_with names bits) parts.1 ∙ rw (← h) refl

pub bits_with-more : (names : List (List ℕ)) (bits bit : ℕ) (text : List ℕ) → Some bit ≡ bit_of names (before_first is_bar text) → position_or_len is_bar text < length text → bits_with names bits (slice_split is_bar text) ≡ bits_with names (bit_or bits bit) (slice_split is_bar (after_first is_bar text))
bits_with-more names bits bit text h more = ap (bits_with names bits) (slice_split_first is_bar text 0 more) ∙ rw (← h) refl

pub bits_with-last : (names : List (List ℕ)) (bits bit : ℕ) (text : List ℕ) → Some bit ≡ bit_of names (before_first is_bar text) → position_or_len is_bar text ≡ length text → bits_with names bits (slice_split is_bar text) ≡ Some (bit_or bits bit)
bits_with-last names bits bit text h last = ap (bits_with names bits) (slice_split-last is_bar text last) ∙ rw (← h) refl
