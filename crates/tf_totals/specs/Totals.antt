-- What a storm counts.
use Rattle.std.specs.Prelude.{◌≡◌, ℕ, List}
use Rattle.tf_journal.specs.declared.entry.Entry.{Entry}
use Rattle.tf_journal.specs.Laws.{IsWithinLimits}
use Rattle.tf_journal.specs.Lawful.{IsLawful}
use Rattle.tf_store.specs.Book.{book_of}
use Rattle.tf_workers.specs.declared.storms.Totals.{Totals}

-- a number that is the book of a lawful journal
pub record IsBook (number : ℕ) : Type 0 where
  pub journal : List Entry
  pub lawful : IsLawful journal
  pub limits : IsWithinLimits journal
  pub counted : number ≡ book_of journal

-- the totals of a storm of so many clients: what their shares count is what is stored, the book of a lawful journal
pub record AreTotals (clients : ℕ) (totals : Totals) : Type 0 where
  pub clients_are : totals.clients ≡ clients
  pub shares_are : totals.shares ≡ totals.stored
  pub book : IsBook totals.stored
