-- The record that an accepted event is stored as.
use Rattle.std.specs.Prelude.{ℕ, ◌==◌, List, if◌then◌else◌}
use Rattle.std.specs.Option.{option_map_or}
use Rattle.tf_records.specs.declared.account.Account.{Account}
use Rattle.tf_records.specs.declared.transfer.Transfer.{Transfer}
use Rattle.tf_journal.specs.declared.entry.Entry.{Entry}
use Rattle.tf_journal.specs.Flags.{is_post, is_settling}
use Rattle.tf_journal.specs.Lookup.{transfer_with_id}
use Rattle.tf_journal.specs.Balances.{greatest_amount}

-- a field of a post or void: its own, or its pending transfer's where it is 0
abbrev pub own_or : ℕ → ℕ → ℕ
own_or pending own = if own == 0 then pending else own

-- the amount that a post or void asks for: the whole pending amount where a post's is the greatest or a void's is 0
abbrev pub settled_amount : Transfer → Transfer → ℕ
settled_amount pending e =
    if is_post e then (if e.amount == greatest_amount then pending.amount else e.amount)
    else own_or pending.amount e.amount

-- a post or void with what it leaves out filled in from its pending transfer
abbrev pub filled_in : Transfer → Transfer → Transfer
filled_in pending e = record e {
  debit_account_id = own_or pending.debit_account_id e.debit_account_id;
  credit_account_id = own_or pending.credit_account_id e.credit_account_id;
  amount = settled_amount pending e;
  user_data_128 = own_or pending.user_data_128 e.user_data_128;
  user_data_64 = own_or pending.user_data_64 e.user_data_64;
  user_data_32 = own_or pending.user_data_32 e.user_data_32;
  ledger = own_or pending.ledger e.ledger;
  code = own_or pending.code e.code;
}

-- a post or void as it is stored: the accounts, ledger and code are its pending transfer's
abbrev pub settled : Transfer → ℕ → Transfer → Transfer
settled pending timestamp e = record (filled_in pending e) {
  debit_account_id = pending.debit_account_id;
  credit_account_id = pending.credit_account_id;
  ledger = pending.ledger;
  code = pending.code;
  timeout = 0;
  timestamp = timestamp;
}

-- an event with its timestamp
abbrev pub stamped : ℕ → Transfer → Transfer
stamped timestamp e = record e { timestamp = timestamp }

-- an account is stored as the event with its timestamp
abbrev pub stored_account : List Entry → ℕ → Account → Account
stored_account journal timestamp e = record e { timestamp = timestamp }

-- a post or void is stored filled in from the pending transfer that it names
abbrev pub stored_settling : List Entry → ℕ → Transfer → Transfer
stored_settling journal timestamp e =
    option_map_or (λ pending. settled pending timestamp e) (transfer_with_id journal e.pending_id) (stamped timestamp e)

-- any other transfer is stored as the event, with its timestamp
abbrev pub stored_transfer : List Entry → ℕ → Transfer → Transfer
stored_transfer journal timestamp e =
    if is_settling e then stored_settling journal timestamp e else stamped timestamp e
