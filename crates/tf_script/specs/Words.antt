-- The words of a line, each with its column.
use Rattle.std.specs.Prelude.{ℕ, ◌+◌, List, [], ◌∷◌, if◌then◌else◌, ◌==◌}

-- a word's bytes, and the column of the first of them; columns count from 1
pub record Word : Type 0 where
  pub column : ℕ
  pub bytes : List ℕ

-- a byte at a column, and the words after it: it belongs to the first of them if that begins in the next column
abbrev pub onto_word : ℕ → ℕ → List Word → List Word
onto_word column byte [] = record { column = column; bytes = byte ∷ [] } ∷ []
onto_word column byte (word ∷ words) =
    if word.column == column + 1
    then record { column = column; bytes = byte ∷ word.bytes } ∷ words
    else record { column = column; bytes = byte ∷ [] } ∷ word ∷ words

-- the words of what a line has from a column on: the longest runs of bytes that aren't spaces
abbrev pub words_from : ℕ → List ℕ → List Word
words_from column [] = []
words_from column (byte ∷ rest) =
    if byte == 32 then words_from (column + 1) rest else onto_word column byte (words_from (column + 1) rest)
