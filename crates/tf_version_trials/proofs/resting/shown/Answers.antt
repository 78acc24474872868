use Rattle.std.proofs.Common.{◌≡◌, subst, sym}
use Rattle.std.proofs.lemmas.Result.{IfOk-weaker}
use Rattle.tf_query.specs.Version.{ShowsLawfulJournal}
use Rattle.tf_version_trials.proofs.Shown.{shows_lawful}
use Rattle.tf_version_trials.proofs.resting.shown.Goals as goal

pub returns : goal.returns
returns g c =
    let forest = c.args.forest.now in
    let spelled = c.manifests_spell_their_journal.ensures forest.sealed.tables forest.journal c.requires.lawful.sound c.requires.shows in
    let shows : ShowsLawfulJournal c.manifest.result.now =
    rw (c.manifest.ensures, c.rows.ensures) (shows_lawful forest.sealed.tables forest.journal c.requires.lawful c.requires.shows spelled) in
    IfOk-weaker c.again.result (λ copy. copy ≡ c.manifest.result.now) ShowsLawfulJournal
    (λ copy is. subst ShowsLawfulJournal (sym is) shows) c.again.ensures.copy
