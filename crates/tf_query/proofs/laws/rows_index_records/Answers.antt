use Rattle.tf_query.proofs.Indexed.{accounts_indexed, transfers_indexed}
use Rattle.tf_query.proofs.laws.rows_index_records.Goals as goal

pub returns-clause-accounts : goal.returns-clause-accounts
returns-clause-accounts c = λ view journal sound shows. accounts_indexed view journal shows (c.records_are_dated.ensures.accounts journal sound)

pub returns-clause-transfers : goal.returns-clause-transfers
returns-clause-transfers c = λ view journal sound shows. transfers_indexed view journal shows (c.records_are_dated.ensures.transfers journal sound)
