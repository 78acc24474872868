-- What a journal has stored under an id.
use Rattle.std.specs.Prelude.{ℕ, ◌==◌, List, Option, Bool, false, bit_or, if◌then◌else◌}
use Rattle.std.specs.List.{find}
use Rattle.std.specs.Option.{option_map, option_map_or}
use Rattle.tf_records.specs.declared.account.Account.{Account}
use Rattle.tf_records.specs.declared.sums.Sums.{Sums}
use Rattle.tf_records.specs.declared.transfer.Transfer.{Transfer}
use Rattle.tf_journal.specs.declared.entry.Entry.{Entry}
use Rattle.tf_journal.specs.declared.id_use.IdUse.{IdUse}
use Rattle.tf_journal.specs.declared.id_use.IdUse.TheVariants.{Free, Failed, Stored}
use Rattle.tf_journal.specs.Journal.{accounts_of, transfers_of, is_failed}
use Rattle.tf_journal.specs.Balances.{balances_of}
use Rattle.tf_journal.specs.Closed.{is_closed}

-- the account with this id as it was stored: its sums are 0, its flags its own
abbrev pub account_with_id : List Entry → ℕ → Option Account
account_with_id journal id = find (λ account. account.id == id) (accounts_of journal)

-- the transfer with this id
abbrev pub transfer_with_id : List Entry → ℕ → Option Transfer
transfer_with_id journal id = find (λ transfer. transfer.id == id) (transfers_of journal)

-- an account with these balances, marked as closed where it is
abbrev pub with_state : Sums → Bool → Account → Account
with_state sums closed account = record account {
  debits_pending = sums.debits_pending;
  debits_posted = sums.debits_posted;
  credits_pending = sums.credits_pending;
  credits_posted = sums.credits_posted;
  flags = if closed then bit_or account.flags 32 else account.flags;
}

-- a stored account as answers show it: with its balances after the journal, and closed where it is
abbrev pub shown : List Entry → Account → Account
shown journal account = with_state (balances_of journal account.id) (is_closed journal account) account

-- the account with this id as answers show it
abbrev pub shown_with_id : List Entry → ℕ → Option Account
shown_with_id journal id = option_map (shown journal) (account_with_id journal id)

-- whether the account with this id is stored and closed
abbrev pub is_closed_at : List Entry → ℕ → Bool
is_closed_at journal id = option_map_or (is_closed journal) (account_with_id journal id) false

-- the use of a transfer id that no transfer is stored with
abbrev pub unstored_use : Bool → IdUse
unstored_use failed = if failed then Failed else Free

-- whether a transfer id is free, failed, or that of a stored transfer
abbrev pub id_use_of : List Entry → ℕ → IdUse
id_use_of journal id = option_map_or Stored (transfer_with_id journal id) (unstored_use (is_failed journal id))
