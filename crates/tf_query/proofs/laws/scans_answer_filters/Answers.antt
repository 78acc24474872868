use Rattle.tf_query.proofs.Searches.{account_transfers_answered, accounts_answered, history_answered, transfers_answered}
use Rattle.tf_query.proofs.laws.scans_answer_filters.Goals as goal

pub returns-clause-account_transfers : goal.returns-clause-account_transfers
returns-clause-account_transfers c = λ view journal sound shows.
    account_transfers_answered view journal (c.records_are_dated.ensures.transfers journal sound)
    (c.rows_index_records.ensures.transfers view journal sound shows) (c.rows_give_records.ensures.transfers view journal sound shows)

pub returns-clause-history : goal.returns-clause-history
returns-clause-history c = λ view journal sound shows filter valid history.
    history_answered view journal (c.records_are_dated.ensures.transfers journal sound)
    (c.rows_index_records.ensures.transfers view journal sound shows) (c.rows_give_records.ensures.transfers view journal sound shows)
    filter valid history (c.rows_give_records.ensures.balances view journal sound shows filter.account_id history)

pub returns-clause-transfers : goal.returns-clause-transfers
returns-clause-transfers c = λ view journal sound shows.
    transfers_answered view journal (c.records_are_dated.ensures.transfers journal sound)
    (c.rows_index_records.ensures.transfers view journal sound shows) (c.rows_give_records.ensures.transfers view journal sound shows)

pub returns-clause-accounts : goal.returns-clause-accounts
returns-clause-accounts c = λ view journal sound shows.
    accounts_answered view journal (c.records_are_dated.ensures.accounts journal sound)
    (c.rows_index_records.ensures.accounts view journal sound shows) (c.rows_give_records.ensures.accounts view journal sound shows)
    (c.rows_give_records.ensures.shown view journal sound shows)
