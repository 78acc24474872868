use Rattle.tf_query.proofs.Dated.{accounts_dated, transfers_dated}
use Rattle.tf_query.proofs.laws.records_are_dated.Goals as goal

pub returns-clause-accounts : goal.returns-clause-accounts
returns-clause-accounts c = accounts_dated

pub returns-clause-transfers : goal.returns-clause-transfers
returns-clause-transfers c = transfers_dated
