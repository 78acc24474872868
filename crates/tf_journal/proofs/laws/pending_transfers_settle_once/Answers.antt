use Rattle.tf_journal.proofs.Once.{sound_settles_once}
use Rattle.tf_journal.proofs.laws.pending_transfers_settle_once.Goals as goal

pub returns : goal.returns
returns c = sound_settles_once
