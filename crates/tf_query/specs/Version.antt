-- The journal of a version.
use Rattle.std.specs.Prelude.{List, map}
use Rattle.tf_journal.specs.declared.entry.Entry.{Entry}
use Rattle.tf_journal.specs.Lawful.{IsLawful}
use Rattle.tf_table.specs.Content.{content_of}
use Rattle.tf_manifest.specs.declared.kind.Kind.{Kind}
use Rattle.tf_manifest.specs.declared.row.Row.{Row}
use Rattle.tf_manifest.specs.Kinds.{kind_of}
use Rattle.tf_registry.specs.Row.{lists_of}
use Rattle.tf_manifest.specs.Rows.{Pair}
use Rattle.tf_manifest.specs.Shows.{journal_of}
use Rattle.tf_manifest.specs.View.{View, ShowsJournal, tables_by, value_by}

-- the pairs of a row: the keys that the content of its tables has, in order, with their values
abbrev pub pairs_by : View → (k : Kind) → List Pair
pairs_by view k = map (λ pair. (pair.0, value_by k pair.1)) (content_of (lists_of (tables_by view k)))

abbrev pub pairs_shown : View → Row → List Pair
pairs_shown view row = pairs_by view (kind_of row)

-- the journal that the sealed tables of a manifest spell
abbrev pub journal_shown : View → List Entry
journal_shown view = journal_of (pairs_shown view)

-- the sealed tables of a manifest show the journal that they spell, which is lawful
pub record ShowsLawfulJournal (view : View) : Type 0 where
  pub lawful : IsLawful (journal_shown view)
  pub shows : ShowsJournal view (journal_shown view)
