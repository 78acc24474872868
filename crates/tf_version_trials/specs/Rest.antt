-- Ledgers between batches.
use Rattle.std.specs.Prelude.{◌≡◌, ℕ, List, length}
use Rattle.tf_journal.specs.declared.entry.Entry.{Entry}
use Rattle.tf_journal.specs.Lawful.{IsLawfulAt}

-- a lawful journal, a clock that is no earlier than its entries, and all entries stand for good
abbrev pub IsAtRest : List Entry → ℕ → ℕ → Type 0
IsAtRest journal clock kept = IsLawfulAt clock journal × (kept ≡ length journal)
