-- What contracts see of a store, and what always holds of it.
use Rattle.std.specs.Prelude.{◌≡◌, ℕ, List, length}
use Rattle.std.specs.List.{All}
use Rattle.tf_journal.specs.declared.entry.Entry.{Entry}
use Rattle.tf_journal.specs.Lawful.{IsLawfulAt}
use Rattle.tf_forest.specs.Forest as forest
use Rattle.tf_store.specs.Book.{book_of}
use Rattle.tf_store.specs.Public.{IsPublic, PublicView}
use Rattle.tf_store.specs.Receipt.{ReceiptView, Waiting, Waits}

-- the forest, the journal that readers can see, and the receipts that wait, the oldest first
pub record View : Type 0 where
  pub forest : forest.View
  pub readable : List Entry
  pub waiting : List ReceiptView

-- what always holds of a store: its journal is lawful, no entry of it is younger than the clock, and all of it is kept; so
-- many entries are counted as are no failed ids; what was published begins the journal, and so much of it as readers can see
-- is what the sealed tables show; and each batch whose receipt waits was run on a beginning of the journal
pub record IsStore (forest : forest.View) (book : ℕ) (shown : PublicView) (queue : List Waiting) : Type 0 where
  pub lawful : IsLawfulAt forest.clock forest.journal
  pub kept : forest.kept ≡ length forest.journal
  pub counted : book ≡ book_of forest.journal
  pub public : IsPublic forest shown
  pub waits : All (Waits forest.journal) queue
