-- The code's words and what is left of a line, seen as the words of a line.
use Rattle.std.specs.Prelude.{ℕ, ◌+◌, ◌^◌, ◌<◌, List, length}
use Rattle.tf_script.specs.Words.{Word, words_from}
use Rattle.tf_script.specs.declared.word.Word.{Word as BorrowedWord}
use Rattle.tf_script.specs.declared.word.Rest.{Rest}

-- a word and its bytes
abbrev pub word_of : BorrowedWord → Word
word_of word = record { column = word.column; bytes = word.bytes.now }

-- the words of what is left
abbrev pub words_of : Rest → List Word
words_of rest = words_from rest.column rest.bytes.now

-- the column after the last byte
abbrev pub end_of : Rest → ℕ
end_of rest = rest.column + length rest.bytes.now

-- each column is a `u64`
abbrev pub HasColumns : Rest → Type 0
HasColumns rest = end_of rest < 2 ^ 64
