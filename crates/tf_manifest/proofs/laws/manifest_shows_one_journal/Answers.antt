use Rattle.tf_manifest.specs.View.{content_in}
use Rattle.tf_manifest.proofs.laws.manifest_shows_one_journal.Goals as goal

pub returns-clause-one : goal.returns-clause-one
returns-clause-one c = λ view first second one other shows shown. c.rows_show_one_journal.ensures.shown (content_in view) first second one other shows shown

pub returns-clause-spelled : goal.returns-clause-spelled
returns-clause-spelled c = λ view pairs journal sound shows lists. c.rows_spell_their_journal.ensures (content_in view) pairs journal sound shows lists
