use Rattle.tf_query.proofs.Searches.{account_transfers_tested, transfers_tested}
use Rattle.tf_query.proofs.laws.leads_answer_filters.Goals as goal

pub returns-clause-account_transfers : goal.returns-clause-account_transfers
returns-clause-account_transfers c = λ view journal sound shows.
    account_transfers_tested view journal (c.records_are_dated.ensures.transfers journal sound)
    (c.rows_index_records.ensures.transfers view journal sound shows) (c.rows_give_records.ensures.transfers view journal sound shows)

pub returns-clause-transfers : goal.returns-clause-transfers
returns-clause-transfers c = λ view journal sound shows.
    transfers_tested view journal (c.records_are_dated.ensures.transfers journal sound)
    (c.rows_index_records.ensures.transfers view journal sound shows) (c.rows_give_records.ensures.transfers view journal sound shows)
