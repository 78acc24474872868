use Rattle.tf_journal.proofs.Unique.{sound_unique}
use Rattle.tf_journal.proofs.laws.ids_are_unique.Goals as goal

pub returns : goal.returns
returns c = sound_unique
