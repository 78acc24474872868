use Rattle.tf_journal.proofs.Balanced.{sound_balanced}
use Rattle.tf_journal.proofs.laws.journals_are_balanced.Goals as goal

pub returns : goal.returns
returns c = sound_balanced
