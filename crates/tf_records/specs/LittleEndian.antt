-- Numbers as bytes, the lowest first. A list of bytes is a list of numbers below 256.
use Rattle.std.specs.Prelude.{ℕ, List, drop, take}
use Rattle.byteorder.specs.Endian.{little_bytes, little_number}

-- the n bytes of the number x, the lowest first, as std's `to_le_bytes` gives them
unfoldable pub little_endian : ℕ → ℕ → List ℕ
little_endian n x = little_bytes n x

-- the number in the n bytes from a place on, the lowest first; a byte past the end counts as 0
unfoldable pub number_at : ℕ → ℕ → List ℕ → ℕ
number_at place n bytes = little_number n (drop place bytes)

-- the n bytes from a place on
unfoldable pub bytes_at : ℕ → ℕ → List ℕ → List ℕ
bytes_at place n bytes = take n (drop place bytes)
