use Rattle.tf_journal.proofs.Limits.{sound_limited}
use Rattle.tf_journal.proofs.laws.journals_are_within_limits.Goals as goal

pub returns : goal.returns
returns c = sound_limited
