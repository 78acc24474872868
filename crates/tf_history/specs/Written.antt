-- What contracts see of the right to add to a history.
use Rattle.std.specs.Prelude.{ℕ, List, []}
use Rattle.tf_journal.specs.declared.entry.Entry.{Entry}

-- the journal of the whole history, and in how many publications it came
pub record Written : Type 0 where
  pub journal : List Entry
  pub publications : ℕ

abbrev pub written : List Entry → ℕ → Written
written journal publications = record { journal = journal; publications = publications }

-- nothing was published
abbrev pub nothing_written : Written
nothing_written = written [] 0
