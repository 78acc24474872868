-- What a script asks for.
use Rattle.std.specs.Prelude.{ℕ, List}
use Rattle.tf_records.specs.declared.account.Account.{Account}
use Rattle.tf_records.specs.declared.transfer.Transfer.{Transfer}
use Rattle.tf_script.specs.declared.command.Query.{Query}

-- a command: a batch with its moment and its events, a pulse with its moment and the most that it expires,
-- a publish, a compaction, a query, or the ids of records that are looked up
pub data Command : Type 0 where
  accounts : (now : ℕ) (events : List Account) → Command
  transfers : (now : ℕ) (events : List Transfer) → Command
  pulse : (now max : ℕ) → Command
  publish : Command
  compact : Command
  query : (asked : Query) → Command
  lookup_accounts : (ids : List ℕ) → Command
  lookup_transfers : (ids : List ℕ) → Command
