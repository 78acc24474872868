-- What a word means as a number, or as a set of flags.
use Rattle.std.specs.Prelude.{ℕ, ◌+◌, ◌-◌, ◌*◌, ◌^◌, List, [], ◌∷◌, Bool, not, ◌&&◌, Option, Some, None, if◌then◌else◌, ◌==◌, nat_le, length, fold, bit_or, codes, option_map, option_and_then}
use Rattle.std.specs.List.{list_all, position_from, slice_split}
use Rattle.std.specs.Char.{is_ascii_digit}
use Rattle.std.specs.Str.{bytes_eq}

infixl 10 ◌>>=◌
abbrev pub ◌>>=◌ : {A B : Type 0} → Option A → (A → Option B) → Option B
o >>= f = option_and_then f o

-- one or more decimal digits
abbrev pub is_decimal : List ℕ → Bool
is_decimal text = not (length text == 0) && list_all is_ascii_digit text

-- the number that decimal digits spell
abbrev pub decimal : List ℕ → ℕ
decimal digits = fold (λ number digit. 10 * number + (digit - 48)) 0 digits

-- the number, unless it is above the greatest
abbrev pub at_most : ℕ → ℕ → Option ℕ
at_most greatest number = if nat_le number greatest then Some number else None

-- a number up to the greatest, in decimal digits or as `max` for the greatest itself
unfoldable pub number_of : ℕ → List ℕ → Option ℕ
number_of greatest text =
    if bytes_eq text (codes "max") then Some greatest
    else (if is_decimal text then at_most greatest (decimal text) else None)

-- the place of a text among names, the first of which is at 0
abbrev pub place_of : List (List ℕ) → List ℕ → Option ℕ
place_of names text = position_from (λ name. bytes_eq name text) 0 names

-- the bit that a name stands for: the first of the names stands for bit 0
abbrev pub bit_of : List (List ℕ) → List ℕ → Option ℕ
bit_of names text = option_map (λ place. 2 ^ place) (place_of names text)

-- bits, and those of all the names of a list, each of which must be known
abbrev pub bits_with : List (List ℕ) → ℕ → List (List ℕ) → Option ℕ
bits_with names bits [] = Some bits
bits_with names bits (text ∷ texts) = do
  bit ← bit_of names text
  bits_with names (bit_or bits bit) texts

-- names joined by `|`, byte 124
unfoldable pub flags_of : List (List ℕ) → List ℕ → Option ℕ
flags_of names text = bits_with names 0 (slice_split (λ byte. byte == 124) text)
