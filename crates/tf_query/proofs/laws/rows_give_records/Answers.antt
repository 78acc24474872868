use Rattle.tf_query.proofs.Given.{account_given, balance_given, shown_given, state_given, transfer_given}
use Rattle.tf_query.proofs.laws.rows_give_records.Goals as goal

pub returns-clause-transfers : goal.returns-clause-transfers
returns-clause-transfers c = λ view journal sound shows. transfer_given view journal shows

pub returns-clause-accounts : goal.returns-clause-accounts
returns-clause-accounts c = λ view journal sound shows. account_given view journal shows

pub returns-clause-states : goal.returns-clause-states
returns-clause-states c = λ view journal sound shows. state_given view journal shows

pub returns-clause-shown : goal.returns-clause-shown
returns-clause-shown c = λ view journal sound shows. shown_given view journal shows

pub returns-clause-balances : goal.returns-clause-balances
returns-clause-balances c = λ view journal sound shows. balance_given view journal shows (c.rows_are_maps.ensures journal sound)
