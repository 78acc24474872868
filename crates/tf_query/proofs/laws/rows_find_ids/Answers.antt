use Rattle.tf_query.proofs.ById.{account_found, shown_found, transfer_found}
use Rattle.tf_query.proofs.laws.rows_find_ids.Goals as goal

pub returns-clause-accounts : goal.returns-clause-accounts
returns-clause-accounts c = λ view journal sound shows.
    account_found view journal shows (c.records_are_dated.ensures.accounts journal sound) (c.rows_give_records.ensures.accounts view journal sound shows)

pub returns-clause-shown : goal.returns-clause-shown
returns-clause-shown c = λ view journal sound shows.
    shown_found view journal shows (c.records_are_dated.ensures.accounts journal sound) (c.rows_give_records.ensures.shown view journal sound shows)

pub returns-clause-transfers : goal.returns-clause-transfers
returns-clause-transfers c = λ view journal sound shows.
    transfer_found view journal shows (c.records_are_dated.ensures.transfers journal sound) (c.rows_give_records.ensures.transfers view journal sound shows)
