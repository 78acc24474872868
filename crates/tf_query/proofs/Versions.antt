-- What the tables of a version say of the version's journal.
use Rattle.std.proofs.Common.{◌≡◌, List, subst, sym}
use Rattle.tf_journal.specs.declared.entry.Entry.{Entry}
use Rattle.tf_journal.specs.Lawful.{IsSound}
use Rattle.tf_manifest.specs.View.{View, ShowsJournal}
use Rattle.tf_query.specs.Version.{ShowsLawfulJournal, journal_shown}

-- what holds of each sound journal that the tables read show holds of the version's
pub of-version : (P : List Entry → Type 0) (read held : View) (journal : List Entry) → read ≡ held → journal_shown held ≡ journal → ShowsLawfulJournal held
    → ((shown : List Entry) → IsSound shown → ShowsJournal read shown → P shown) → P journal
of-version P read held journal same is lawful each =
    subst P is (each (journal_shown held) lawful.lawful.sound (subst (λ (view : View). ShowsJournal view (journal_shown held)) (sym same) lawful.shows))
