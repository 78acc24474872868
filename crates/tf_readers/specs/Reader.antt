-- What contracts see of a reader.
use Rattle.std.specs.Prelude.{◌≡◌, List}
use Rattle.tf_journal.specs.declared.entry.Entry.{Entry}

-- the journal that the reader has seen, and that of the version which it holds
pub record ReaderView : Type 0 where
  pub seen : List Entry
  pub held : List Entry

-- the reader has seen a journal, and holds a version of it
pub record HasSeen (journal : List Entry) (reader : ReaderView) : Type 0 where
  pub seen : reader.seen ≡ journal
  pub held : reader.held ≡ journal
