use Rattle.std.proofs.Common.{◌≡◌, List, sym, subst}
use Rattle.tf_journal.specs.declared.entry.Entry.{Entry}
use Rattle.tf_journal.specs.Lawful.{IsLawful}
use Rattle.tf_manifest.specs.View.{ShowsJournal, View}
use Rattle.tf_query.specs.Version.{ShowsLawfulJournal, journal_shown}
use Rattle.tf_query.proofs.published.version_of.Goals as goal

pub new-requires : goal.new-requires
new-requires g c =
    let shown : View = c.args.manifest.now in
    let lawful = c.len-length.ensures.lawful in
    let spelled : journal_shown shown ≡ c.args.front.now = c.manifests_spell_their_journal.ensures shown c.args.front.now lawful.sound c.requires in
    subst ShowsLawfulJournal (sym c.in-Ok.ensures.copy) (record {
      lawful = subst IsLawful (sym spelled) lawful;
      shows = subst (λ (journal : List Entry). ShowsJournal shown journal) (sym spelled) c.requires;
    })
