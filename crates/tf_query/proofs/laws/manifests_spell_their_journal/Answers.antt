use Rattle.tf_query.specs.Version.{pairs_shown}
use Rattle.tf_query.proofs.Spelling.{rows_listed}
use Rattle.tf_query.proofs.laws.manifests_spell_their_journal.Goals as goal

pub returns : goal.returns
returns c = λ view journal sound shows.
    c.manifest_shows_one_journal.ensures.spelled view (pairs_shown view) journal sound shows (rows_listed view)
