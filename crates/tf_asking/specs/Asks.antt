-- How many rows a journal has of what a version is asked.
use Rattle.std.specs.Prelude.{ℕ, List, [], ◌∷◌, length}
use Rattle.tf_journal.specs.declared.entry.Entry.{Entry}
use Rattle.tf_journal.specs.Answer.{account_transfers_of, found_accounts_of, found_transfers_of, history_of, looked_up_accounts, looked_up_transfers}
use Rattle.tf_readers.specs.declared.asked.Asked.{Asked}
use Rattle.tf_readers.specs.declared.asked.Asked.TheVariants as asked

abbrev pub row_count_of : List Entry → Asked → ℕ
row_count_of journal (asked.AccountTransfers filter) = length (account_transfers_of journal filter)
row_count_of journal (asked.AccountBalances filter) = length (history_of journal filter)
row_count_of journal (asked.Accounts filter) = length (found_accounts_of journal filter)
row_count_of journal (asked.Transfers filter) = length (found_transfers_of journal filter)
row_count_of journal (asked.AccountWithId id) = length (looked_up_accounts journal (id ∷ []))
row_count_of journal (asked.TransferWithId id) = length (looked_up_transfers journal (id ∷ []))
