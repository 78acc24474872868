-- The fields of a record, one behind the other: what is written of them is read back, and what is read spells the bytes.
use Rattle.std.proofs.Common.{◌≡◌, ℕ, zero, suc, ◌+◌, ◌^◌, ◌<◌, ◌≤◌, List, [], ◌∷◌, ◌++◌, length, take, drop, slice_index, refl, sym, ap, ◌∙◌, append_assoc, arith}
use Rattle.std.proofs.Math.Seq.{drop-append_seam, take-append_seam, take-length}
use Rattle.std.proofs.lemmas.List.{append-nil, length-append}
use Rattle.byteorder.specs.Endian.{little_from}
use Rattle.byteorder.specs.Numbers.{little_from-take, little_number-reads_back}
use Rattle.tf_records.specs.LittleEndian.{little_endian, number_at, bytes_at}
use Rattle.tf_records.proofs.Bytes.{length-little_endian, take-bytes_at, take-number_at}

-- a field: a number in so many bytes, or so many bytes as they are
pub data Field : Type 0 where
  number : ℕ → ℕ → Field
  raw : ℕ → List ℕ → Field

-- the number of the field at a place
abbrev pub value : ℕ → List Field → ℕ
value i [] = 0
value zero (number n x ∷ fs) = x
value zero (raw n xs ∷ fs) = 0
value (suc i) (f ∷ fs) = value i fs

-- the bytes of the field at a place
abbrev pub bytes_of : ℕ → List Field → List ℕ
bytes_of i [] = []
bytes_of zero (number n x ∷ fs) = []
bytes_of zero (raw n xs ∷ fs) = xs
bytes_of (suc i) (f ∷ fs) = bytes_of i fs

-- how many bytes it has
abbrev pub width : Field → ℕ
width (number n x) = n
width (raw n xs) = n

-- its bytes
abbrev pub spelled : Field → List ℕ
spelled (number n x) = little_endian n x
spelled (raw n xs) = xs

-- it has its width
abbrev pub Fits : Field → Type 0
Fits (number n x) = x < 256 ^ n
Fits (raw n xs) = length xs ≡ n

-- the field of the same kind and width in the bytes from a place on
abbrev pub read_at : ℕ → List ℕ → Field → Field
read_at place bytes (number n x) = number n (number_at place n bytes)
read_at place bytes (raw n xs) = raw n (bytes_at place n bytes)

-- the bytes of fields
abbrev pub all_spelled : List Field → List ℕ
all_spelled [] = []
all_spelled (f ∷ fs) = spelled f ++ all_spelled fs

-- how many they are
abbrev pub all_width : List Field → ℕ
all_width [] = 0
all_width (f ∷ fs) = width f + all_width fs

-- each field has its width
abbrev pub AllFit : List Field → Type 0
AllFit [] = Unit {0}
AllFit (f ∷ fs) = Fits f × AllFit fs

-- the fields of the same kinds and widths in the bytes from a place on
abbrev pub all_read : ℕ → List ℕ → List Field → List Field
all_read place bytes [] = []
all_read place bytes (f ∷ fs) = read_at place bytes f ∷ all_read (place + width f) bytes fs

-- a field's bytes are as many as its width
length-spelled : (f : Field) → Fits f → length (spelled f) ≡ width f
length-spelled (number n x) h = length-little_endian n x
length-spelled (raw n xs) h = h

-- between two others, bytes stand at the length of those before them
bytes_at-between : (front xs rest : List ℕ) → bytes_at (length front) (length xs) (front ++ (xs ++ rest)) ≡ xs
unfolding bytes_at
bytes_at-between front xs rest = ap (take (length xs)) (drop-append_seam front (xs ++ rest)) ∙ take-append_seam xs rest

-- where the bytes of a number stand, the number stands
number_at-bytes : (place n x : ℕ) (bytes : List ℕ) → bytes_at place n bytes ≡ little_endian n x → x < 256 ^ n → number_at place n bytes ≡ x
unfolding bytes_at little_endian number_at
number_at-bytes place n x bytes e h =
    sym (little_from-take 0 n n (drop place bytes) (omega arith))
    ∙ ap (little_from 0 n) (e ∙ sym (append-nil _))
    ∙ little_number-reads_back n x [] h

-- a field is read where it was written
read_at-between : (front rest : List ℕ) (f : Field) → Fits f → read_at (length front) (front ++ (spelled f ++ rest)) f ≡ f
read_at-between front rest (number n x) h =
    let there : bytes_at (length front) n (front ++ (little_endian n x ++ rest)) ≡ little_endian n x = ap (λ (k : ℕ). bytes_at (length front) k (front ++ (little_endian n x ++ rest))) (sym (length-little_endian n x)) ∙ bytes_at-between front (little_endian n x) rest in
    ap (number n) (number_at-bytes (length front) n x _ there h)
read_at-between front rest (raw n xs) h =
    ap (raw n) (ap (λ (k : ℕ). bytes_at (length front) k (front ++ (xs ++ rest))) (sym h) ∙ bytes_at-between front xs rest)

-- fields are read where they were written
all_read-behind : (front : List ℕ) (fs : List Field) → AllFit fs → all_read (length front) (front ++ all_spelled fs) fs ≡ fs
all_read-behind front [] h = refl
all_read-behind front (f ∷ fs) h =
    let first = read_at-between front (all_spelled fs) f h.0 in
    let next : length (front ++ spelled f) ≡ length front + width f = length-append front (spelled f) ∙ ap (λ (n : ℕ). length front + n) (length-spelled f h.0) in
    let same : (front ++ spelled f) ++ all_spelled fs ≡ front ++ (spelled f ++ all_spelled fs) = append_assoc front (spelled f) (all_spelled fs) in
    let others : all_read (length front + width f) (front ++ (spelled f ++ all_spelled fs)) fs ≡ fs =
    ap (λ (n : ℕ). all_read n (front ++ (spelled f ++ all_spelled fs)) fs) (sym next)
    ∙ ap (λ (bytes : List ℕ). all_read (length (front ++ spelled f)) bytes fs) (sym same)
    ∙ all_read-behind (front ++ spelled f) fs h.1 in
    rw (first, others) refl

-- the fields that are read of the bytes of fields are these fields
pub all_read-spelled : (fs : List Field) → AllFit fs → all_read 0 (all_spelled fs) fs ≡ fs
all_read-spelled fs h = all_read-behind [] fs h

-- the front of the bytes, up to the end of a field that was read
take-read_at : (place : ℕ) (bytes : List ℕ) (f : Field) → place + width f ≤ length bytes → ((i : ℕ) → slice_index bytes i < 256) → take (place + width f) bytes ≡ take place bytes ++ spelled (read_at place bytes f)
take-read_at place bytes (number n x) h small = take-number_at place n bytes h small
take-read_at place bytes (raw n xs) h small = take-bytes_at place n bytes

-- the front of the bytes, up to the end of fields that were read
take-all_read : (place : ℕ) (bytes : List ℕ) (fs : List Field) → place + all_width fs ≤ length bytes → ((i : ℕ) → slice_index bytes i < 256) → take (place + all_width fs) bytes ≡ take place bytes ++ all_spelled (all_read place bytes fs)
take-all_read place bytes [] h small = ap (λ (n : ℕ). take n bytes) (omega arith) ∙ sym (append-nil (take place bytes))
take-all_read place bytes (f ∷ fs) h small =
    let others = take-all_read (place + width f) bytes fs (omega arith) small in
    let first = take-read_at place bytes f (omega arith) small in
    ap (λ (n : ℕ). take n bytes) (omega arith) ∙ others
    ∙ ap (λ (ys : List ℕ). ys ++ all_spelled (all_read (place + width f) bytes fs)) first
    ∙ append_assoc (take place bytes) (spelled (read_at place bytes f)) (all_spelled (all_read (place + width f) bytes fs))

-- the bytes of the fields that are read of bytes are these bytes
pub all_spelled-read : (bytes : List ℕ) (fs : List Field) → length bytes ≡ all_width fs → ((i : ℕ) → slice_index bytes i < 256) → all_spelled (all_read 0 bytes fs) ≡ bytes
all_spelled-read bytes fs size small =
    let whole : 0 + all_width fs ≡ length bytes = omega (arith, size) in
    sym (take-all_read 0 bytes fs (omega (arith, size)) small) ∙ ap (λ (n : ℕ). take n bytes) whole ∙ take-length bytes
