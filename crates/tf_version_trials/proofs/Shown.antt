-- Manifests that show a lawful journal.
use Rattle.std.proofs.Common.{◌≡◌, List, subst, sym}
use Rattle.tf_journal.specs.declared.entry.Entry.{Entry}
use Rattle.tf_journal.specs.Lawful.{IsLawful}
use Rattle.tf_manifest.specs.View.{View, ShowsJournal}
use Rattle.tf_query.specs.Version.{ShowsLawfulJournal, journal_shown}

-- tables that show a lawful journal and spell it
pub shows_lawful : (view : View) (journal : List Entry) → IsLawful journal → ShowsJournal view journal → journal_shown view ≡ journal → ShowsLawfulJournal view
shows_lawful view journal lawful shows spelled = record {
  lawful = subst IsLawful (sym spelled) lawful;
  shows = subst (ShowsJournal view) (sym spelled) shows;
}
