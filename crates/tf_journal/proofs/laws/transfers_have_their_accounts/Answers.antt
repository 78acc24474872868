use Rattle.tf_journal.proofs.Accounts.{sound_has_accounts}
use Rattle.tf_journal.proofs.laws.transfers_have_their_accounts.Goals as goal

pub returns : goal.returns
returns c = sound_has_accounts
