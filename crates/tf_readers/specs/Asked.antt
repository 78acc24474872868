-- What is asked of a version, and what it answers.
use Rattle.std.specs.Prelude.{◌≡◌, List, [], ◌∷◌}
use Rattle.tf_journal.specs.declared.entry.Entry.{Entry}
use Rattle.tf_journal.specs.Answer.{account_transfers_of, found_accounts_of, found_transfers_of, history_of, looked_up_accounts, looked_up_transfers}
use Rattle.tf_readers.specs.declared.asked.Asked.{Asked}
use Rattle.tf_readers.specs.declared.asked.Asked.TheVariants as asked
use Rattle.tf_readers.specs.declared.asked.Found.{Found}
use Rattle.tf_readers.specs.declared.asked.Found.TheVariants as found

module _ {A : Type 0} where
  -- rows of what is asked: those that a journal has
  abbrev pub IsFound : List Entry → Asked → Found A → Type 0
  IsFound journal (asked.AccountTransfers filter) (found.Transfers rows) = rows.items ≡ account_transfers_of journal filter
  IsFound journal (asked.AccountBalances filter) (found.Balances rows) = rows.items ≡ history_of journal filter
  IsFound journal (asked.Accounts filter) (found.Accounts rows) = rows.items ≡ found_accounts_of journal filter
  IsFound journal (asked.Transfers filter) (found.Transfers rows) = rows.items ≡ found_transfers_of journal filter
  IsFound journal (asked.AccountWithId id) (found.Accounts rows) = rows.items ≡ looked_up_accounts journal (id ∷ [])
  IsFound journal (asked.TransferWithId id) (found.Transfers rows) = rows.items ≡ looked_up_transfers journal (id ∷ [])
  IsFound journal _ _ = ⊥
