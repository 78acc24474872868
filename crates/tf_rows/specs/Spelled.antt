-- The journal that rows spell.
use Rattle.std.specs.Prelude.{List, ◌∷◌}
use Rattle.tf_journal.specs.declared.entry.Entry.{Entry}
use Rattle.tf_journal.specs.Lawful.{IsSound}
use Rattle.tf_table.specs.Content.{content_of}
use Rattle.tf_manifest.specs.declared.row.Row.{Row}
use Rattle.tf_manifest.specs.Rows.{Pair}
use Rattle.tf_manifest.specs.Shows.{Shows, journal_of}
use Rattle.tf_rows.specs.Nest.{LogsHaveValues}
use Rattle.tf_rows.specs.Next.{content_in}
use Rattle.tf_rows.specs.Parts.{Parts}

-- the pairs of rows: their keys that have values, in order
abbrev pub pairs_in : Parts → Row → List Pair
pairs_in rows r = content_of ((rows r).fresh ∷ (rows r).below)

-- the journal that rows spell
abbrev pub journal_in : Parts → List Entry
journal_in rows = journal_of (pairs_in rows)

-- rows show the journal that they spell, which is sound; and no log has a tombstone
pub record ShowTheirJournal (rows : Parts) : Type 0 where
  pub sound : IsSound (journal_in rows)
  pub shows : Shows (content_in rows) (journal_in rows)
  pub values : LogsHaveValues rows
