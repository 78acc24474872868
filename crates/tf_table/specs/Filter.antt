-- A filter: words of bits, of which each value that was put has some in one word.
use Rattle.std.specs.Prelude.{◌≡◌, ℕ, ◌+◌, ◌*◌, ◌/◌, ◌%◌, ◌^◌, ◌<◌, List, length, bit_or, slice_index_or}
use Rattle.std.specs.List.{All}
use Rattle.tf_table.specs.declared.key.Key.{Key}

-- the number that a value is spread by: its halves together, times an odd number, in 64 bits
unfoldable pub hash_of : ℕ → ℕ
hash_of value = (value % 2 ^ 64 + value / 2 ^ 64) % 2 ^ 64 * 11400714819323198485 % 2 ^ 64

-- the word of a hash, of so many
unfoldable pub place_of : ℕ → ℕ → ℕ
place_of words hash = hash * words % 2 ^ 128 / 2 ^ 64

-- the bit that the lowest six bits of a number name
abbrev pub bit_of : ℕ → ℕ
bit_of number = 2 ^ (number % 64)

-- the bits of a hash in its word
unfoldable pub bits_of : ℕ → ℕ
bits_of hash = bit_or (bit_or (bit_of (hash / 2 ^ 22)) (bit_of (hash / 2 ^ 28))) (bit_or (bit_of (hash / 2 ^ 34)) (bit_of (hash / 2 ^ 40)))

-- the word at the place has the bits, if there is one
abbrev pub HasBits : List ℕ → ℕ → ℕ → Type 0
HasBits words place bits = (d : ℕ) → place < length words → bit_or (slice_index_or words place d) bits ≡ slice_index_or words place d

-- the value's bits are set among so many words
abbrev pub Holds : List ℕ → ℕ → ℕ → Type 0
Holds words count value = place_of count (hash_of value) < count → HasBits words (place_of count (hash_of value)) (bits_of (hash_of value))

-- the bits of each key's value are set
abbrev pub HoldsEach : List ℕ → ℕ → List Key → Type 0
HoldsEach words count keys = All (λ key. Holds words count key.value) keys
