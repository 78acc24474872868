-- What a number's bytes are and where they stand in a longer list.
use Rattle.std.proofs.Common.{◌≡◌, ℕ, zero, suc, ◌+◌, ◌-◌, ◌*◌, ◌/◌, ◌%◌, ◌^◌, ◌<◌, ◌≤◌, List, [], ◌∷◌, ◌++◌, length, take, drop, slice_index, refl, sym, ap, ◌∙◌, append_assoc, arith}
use Rattle.std.proofs.Math.Nat.{div-div-eq-div-mul, pow-succ'}
use Rattle.std.proofs.Math.Seq.{take-add, take-append-add, take-append_seam, take-length}
use Rattle.std.proofs.lemmas.List.{get_or-drop, length-drop, length-take-le}
use Rattle.std.specs.Int.{byte_at, bytes_low_first}
use Rattle.byteorder.specs.Endian.{little_bytes, little_from, little_number}
use Rattle.byteorder.specs.Numbers.{length-bytes_low_first, little_from-cons}
use Rattle.tf_records.specs.LittleEndian.{little_endian, number_at, bytes_at}

-- a number of n bytes has n bytes
pub length-little_endian : (n x : ℕ) → length (little_endian n x) ≡ n
unfolding little_endian
length-little_endian n x = length-bytes_low_first 0 n x

-- a number without its lowest byte
div-byte : (k b y : ℕ) → b < 256 → (b + 256 * y) / 256 ^ suc k ≡ y / 256 ^ k
div-byte k b y h =
    let whole : (b + 256 * y) / 256 ≡ y = omega arith in
    ap (λ (p : ℕ). (b + 256 * y) / p) (pow-succ' 256 k) ∙ sym (div-div-eq-div-mul (b + 256 * y) 256 (256 ^ k)) ∙ ap (λ (q : ℕ). q / 256 ^ k) whole

-- a byte of a number, by its place
byte_at-div : (k x : ℕ) → byte_at k x ≡ x / 256 ^ k % 256
byte_at-div zero x = let e : x / 1 ≡ x = omega arith in ap (λ (q : ℕ). q % 256) (sym e)
byte_at-div (suc k) x = refl

-- the bytes above the lowest are those of the number without it
bytes-above : (j n b y : ℕ) → b < 256 → bytes_low_first (suc j) n (b + 256 * y) ≡ bytes_low_first j n y
bytes-above j zero b y h = refl
bytes-above j (suc n) b y h =
    let byte : byte_at (suc j) (b + 256 * y) ≡ byte_at j y = ap (λ (q : ℕ). q % 256) (div-byte j b y h) ∙ sym (byte_at-div j y) in
    let rest = bytes-above (suc j) n b y h in
    rw (byte, rest) refl

-- the bytes of the number that n bytes spell are these bytes
bytes-number : (n : ℕ) (xs : List ℕ) → n ≤ length xs → ((i : ℕ) → slice_index xs i < 256) → bytes_low_first 0 n (little_from 0 n xs) ≡ take n xs
bytes-number zero xs h small = refl
bytes-number (suc n) [] h small = absurd (omega arith)
bytes-number (suc n) (x ∷ xs) h small =
    let first : x < 256 = small 0 in
    let number : little_from 0 (suc n) (x ∷ xs) ≡ x + 256 * little_from 0 n xs = ap (λ (y : ℕ). x + 256 * y) (little_from-cons 0 n x xs) in
    let low : (x + 256 * little_from 0 n xs) % 256 ≡ x = omega arith in
    let above = bytes-above 0 n x (little_from 0 n xs) first in
    let rest = bytes-number n xs (omega arith) (λ i. small (suc i)) in
    ap (bytes_low_first 0 (suc n)) number ∙ rw (low, above, rest) refl

-- the front of a list, cut at a place
pub take-bytes_at : (place n : ℕ) (xs : List ℕ) → take (place + n) xs ≡ take place xs ++ bytes_at place n xs
unfolding bytes_at
take-bytes_at place n xs = take-add place n xs

-- the front of a list, cut before the bytes of a number
pub take-number_at : (place n : ℕ) (xs : List ℕ) → place + n ≤ length xs → ((i : ℕ) → slice_index xs i < 256) → take (place + n) xs ≡ take place xs ++ little_endian n (number_at place n xs)
unfolding little_endian number_at
take-number_at place n xs h small =
    let room : n ≤ length (drop place xs) = omega (arith, length-drop place xs) in
    let byte : (i : ℕ) → slice_index (drop place xs) i < 256 = λ i. rw (get_or-drop place xs i 0) (small (place + i)) in
    take-add place n xs ∙ ap (λ (ys : List ℕ). take place xs ++ ys) (sym (bytes-number n (drop place xs) room byte))

-- the front of a list in which n bytes were written
pub take-written : (place n : ℕ) (old bytes rest : List ℕ) → place ≤ length old → length bytes ≡ n → take (place + n) (take place old ++ (bytes ++ rest)) ≡ take place old ++ bytes
take-written place n old bytes rest h e =
    let front : length (take place old) ≡ place = length-take-le place old h in
    let cut : take (length (take place old) + n) (take place old ++ (bytes ++ rest)) ≡ take place old ++ take n (bytes ++ rest) = take-append-add (take place old) (bytes ++ rest) n in
    let whole : take (length bytes) (bytes ++ rest) ≡ bytes = take-append_seam bytes rest in
    ap (λ (k : ℕ). take (k + n) (take place old ++ (bytes ++ rest))) (sym front) ∙ cut
    ∙ ap (λ (k : ℕ). take place old ++ take k (bytes ++ rest)) (sym e) ∙ ap (λ (ys : List ℕ). take place old ++ ys) whole

-- the same, where the bytes are a number's
pub take-number_written : (place n x : ℕ) (old new more rest : List ℕ) → place ≤ length old → new ≡ little_bytes n x ++ more → take (place + n) (take place old ++ (new ++ rest)) ≡ take place old ++ little_endian n x
unfolding little_endian
take-number_written place n x old new more rest h e =
    ap (λ (ys : List ℕ). take (place + n) (take place old ++ (ys ++ rest))) e
    ∙ ap (λ (ys : List ℕ). take (place + n) (take place old ++ ys)) (append_assoc (little_bytes n x) more rest)
    ∙ take-written place n old (little_bytes n x) (more ++ rest) h (length-bytes_low_first 0 n x)

-- the number that is read of the rest of the bytes
pub number_at-rest : (place n x : ℕ) (xs : List ℕ) → x ≡ little_number n (take (length xs - place) (drop place xs)) → x ≡ number_at place n xs
unfolding number_at
number_at-rest place n x xs e =
    e ∙ ap (λ (k : ℕ). little_number n (take k (drop place xs))) (sym (length-drop place xs)) ∙ ap (little_number n) (take-length (drop place xs))

-- a part of a list, from one place to another
pub bytes_at-part : (place n : ℕ) (xs : List ℕ) → take n (drop place xs) ≡ bytes_at place n xs
unfolding bytes_at
bytes_at-part place n xs = refl
