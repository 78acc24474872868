use Rattle.tf_manifest.proofs.Spelled.{journal_spelled}
use Rattle.tf_manifest.proofs.laws.rows_spell_their_journal.Goals as goal

pub returns : goal.returns
returns c = journal_spelled c.ids_are_unique.ensures
