-- The book of a journal: how many of its entries were stored, and how many of its ids failed.
use Rattle.std.specs.Prelude.{ℕ, ◌+◌, List, [], ◌∷◌}
use Rattle.tf_journal.specs.declared.entry.Entry.{Entry}
use Rattle.tf_journal.specs.declared.entry.Entry.TheVariants as entry

-- an entry counts, unless it says that an id failed
abbrev pub counts : Entry → ℕ
counts (entry.Account account) = 1
counts (entry.Transfer transfer) = 1
counts (entry.Expiry timestamp pending) = 1
counts (entry.Failed timestamp id) = 0

-- how many entries of a journal are accounts, transfers and expiries
abbrev pub book_of : List Entry → ℕ
book_of [] = 0
book_of (e ∷ journal) = counts e + book_of journal

-- an id that failed
abbrev pub fails : Entry → ℕ
fails (entry.Account account) = 0
fails (entry.Transfer transfer) = 0
fails (entry.Expiry timestamp pending) = 0
fails (entry.Failed timestamp id) = 1

-- how many ids of a journal failed
abbrev pub failed_of : List Entry → ℕ
failed_of [] = 0
failed_of (e ∷ journal) = fails e + failed_of journal
