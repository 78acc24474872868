-- The rule of a history, and the right to add to it.
use Rattle.std.specs.Prelude.{ℕ, ◌≡◌, true, List, [], ◌∷◌, length}
use Rattle.logbook.specs.Pages.{Cell, Nib, nib, may_make_home}
use Rattle.tf_journal.specs.Lawful.{IsLawful}
use Rattle.tf_history.specs.declared.law.Chunk.{Chunk}
use Rattle.tf_history.specs.History.{entries_of}

-- the first word is the number of publications, whose journal is lawful. A book has two words, of which this one leaves the
-- second at 0
pub record IsKept (cells : List Cell) (log : List Chunk) : Type 0 where
  pub words : cells ≡ (length log, true) ∷ (0, true) ∷ []
  pub lawful : IsLawful (entries_of log)

-- the right to make a book's first word, which has this number. Nobody makes it: who has the right knows the number
abbrev pub counts : ℕ → Nib
counts publications = nib may_make_home 0 publications
