-- The 21 rows of a journal with an entry of each kind, written out. Each follows by computation.
use Rattle.std.proofs.Common.{◌≡◌, ℕ, List, [], ◌∷◌, true, false, refl}
use Rattle.tf_records.specs.declared.account.Account.{Account}
use Rattle.tf_records.specs.declared.sums.Sums.{Sums}
use Rattle.tf_records.specs.declared.transfer.Transfer.{Transfer}
use Rattle.tf_journal.specs.declared.entry.Entry.{Entry}
use Rattle.tf_journal.specs.declared.entry.Entry.TheVariants as entry
use Rattle.tf_journal.specs.declared.status.Status.TheVariants as status
use Rattle.tf_manifest.specs.declared.row.Row.TheVariants as row
use Rattle.tf_manifest.specs.declared.value.State.{State}
use Rattle.tf_manifest.specs.declared.value.Value.TheVariants as value
use Rattle.tf_manifest.specs.Rows.{Pair, key_of, rows_of}
use Rattle.tf_manifest.specs.Shows.{journal_of}

-- account 1 keeps history and has user data
abbrev first_account : Account
first_account = record {
  id = 1;
  debits_pending = 0;
  debits_posted = 0;
  credits_pending = 0;
  credits_posted = 0;
  user_data_128 = 11;
  user_data_64 = 12;
  user_data_32 = 13;
  reserved = 0;
  ledger = 700;
  code = 10;
  flags = 8;
  timestamp = 1001;
}

-- account 2 keeps none, and its user data is 0
abbrev second_account : Account
second_account = record {
  id = 2;
  debits_pending = 0;
  debits_posted = 0;
  credits_pending = 0;
  credits_posted = 0;
  user_data_128 = 0;
  user_data_64 = 0;
  user_data_32 = 0;
  reserved = 0;
  ledger = 700;
  code = 20;
  flags = 0;
  timestamp = 1002;
}

-- a transfer from account 1 to account 2
abbrev transfer : (id amount pending_id timeout flags timestamp : ℕ) → Transfer
transfer id amount pending_id timeout flags timestamp = record {
  id = id;
  debit_account_id = 1;
  credit_account_id = 2;
  amount = amount;
  pending_id = pending_id;
  user_data_128 = 0;
  user_data_64 = 0;
  user_data_32 = 0;
  timeout = timeout;
  ledger = 700;
  code = 5;
  flags = flags;
  timestamp = timestamp;
}

-- back from account 2 to account 1, with user data
abbrev back : Transfer
back = record {
  id = 31;
  debit_account_id = 2;
  credit_account_id = 1;
  amount = 30;
  pending_id = 0;
  user_data_128 = 21;
  user_data_64 = 22;
  user_data_32 = 23;
  timeout = 0;
  ledger = 700;
  code = 6;
  flags = 0;
  timestamp = 1003;
}

-- pending, and posted in part
abbrev posted : Transfer
posted = transfer 32 100 0 1 2 1004

abbrev post : Transfer
post = transfer 33 40 32 0 4 1005

-- pending, and expired a second later
abbrev expired : Transfer
expired = transfer 34 7 0 1 2 1006

-- pending with no timeout, and open
abbrev waiting : Transfer
waiting = transfer 35 1 0 0 2 1000001009

-- pending with a timeout of three seconds, open, and closing account 1
abbrev closing : Transfer
closing = transfer 36 5 0 3 66 1000001010

abbrev journal : List Entry
journal =
    entry.Account first_account
    ∷ entry.Account second_account
    ∷ entry.Transfer back
    ∷ entry.Transfer posted
    ∷ entry.Transfer post
    ∷ entry.Transfer expired
    ∷ entry.Expiry 1000001007 1006
    ∷ entry.Failed 1000001008 40
    ∷ entry.Transfer waiting
    ∷ entry.Transfer closing
    ∷ []

abbrev sums : (debits_pending debits_posted credits_pending credits_posted : ℕ) → Sums
sums debits_pending debits_posted credits_pending credits_posted = record {
  debits_pending = debits_pending;
  debits_posted = debits_posted;
  credits_pending = credits_pending;
  credits_posted = credits_posted;
}

-- account 1 and account 2 now: 6 are pending of the last two, 40 were posted, and 30 came back
abbrev first_state : State
first_state = record { sums = sums 6 40 0 30; closed = true }

abbrev second_state : State
second_state = record { sums = sums 0 30 6 40; closed = false }

-- a key alone
abbrev at : ℕ → ℕ → Pair
at field timestamp = (key_of field timestamp, value.Unit)

account_objects : rows_of journal row.AccountObjects ≡ (key_of 0 1001, value.Account first_account) ∷ (key_of 0 1002, value.Account second_account) ∷ []
account_objects = refl

account_ids : rows_of journal row.AccountIds ≡ (key_of 1 0, value.Stamp 1001) ∷ (key_of 2 0, value.Stamp 1002) ∷ []
account_ids = refl

account_user_data_128 : rows_of journal row.AccountUserData128 ≡ at 11 1001 ∷ at 0 1002 ∷ []
account_user_data_128 = refl

account_user_data_64 : rows_of journal row.AccountUserData64 ≡ at 12 1001 ∷ at 0 1002 ∷ []
account_user_data_64 = refl

account_user_data_32 : rows_of journal row.AccountUserData32 ≡ at 13 1001 ∷ at 0 1002 ∷ []
account_user_data_32 = refl

account_ledger : rows_of journal row.AccountLedger ≡ at 700 1001 ∷ at 700 1002 ∷ []
account_ledger = refl

account_code : rows_of journal row.AccountCode ≡ at 10 1001 ∷ at 20 1002 ∷ []
account_code = refl

account_sums : rows_of journal row.AccountSums ≡ (key_of 0 1001, value.State first_state) ∷ (key_of 0 1002, value.State second_state) ∷ []
account_sums = refl

transfer_objects : rows_of journal row.TransferObjects
    ≡ (key_of 0 1003, value.Transfer back)
    ∷ (key_of 0 1004, value.Transfer posted)
    ∷ (key_of 0 1005, value.Transfer post)
    ∷ (key_of 0 1006, value.Transfer expired)
    ∷ (key_of 0 1000001009, value.Transfer waiting)
    ∷ (key_of 0 1000001010, value.Transfer closing)
    ∷ []
transfer_objects = refl

transfer_ids : rows_of journal row.TransferIds
    ≡ (key_of 31 0, value.Stamp 1003)
    ∷ (key_of 32 0, value.Stamp 1004)
    ∷ (key_of 33 0, value.Stamp 1005)
    ∷ (key_of 34 0, value.Stamp 1006)
    ∷ (key_of 35 0, value.Stamp 1000001009)
    ∷ (key_of 36 0, value.Stamp 1000001010)
    ∷ (key_of 40 0, value.FailedAt 1000001008)
    ∷ []
transfer_ids = refl

transfer_debit : rows_of journal row.TransferDebit ≡ at 2 1003 ∷ at 1 1004 ∷ at 1 1005 ∷ at 1 1006 ∷ at 1 1000001009 ∷ at 1 1000001010 ∷ []
transfer_debit = refl

transfer_credit : rows_of journal row.TransferCredit ≡ at 1 1003 ∷ at 2 1004 ∷ at 2 1005 ∷ at 2 1006 ∷ at 2 1000001009 ∷ at 2 1000001010 ∷ []
transfer_credit = refl

transfer_user_data_128 : rows_of journal row.TransferUserData128 ≡ at 21 1003 ∷ at 0 1004 ∷ at 0 1005 ∷ at 0 1006 ∷ at 0 1000001009 ∷ at 0 1000001010 ∷ []
transfer_user_data_128 = refl

transfer_user_data_64 : rows_of journal row.TransferUserData64 ≡ at 22 1003 ∷ at 0 1004 ∷ at 0 1005 ∷ at 0 1006 ∷ at 0 1000001009 ∷ at 0 1000001010 ∷ []
transfer_user_data_64 = refl

transfer_user_data_32 : rows_of journal row.TransferUserData32 ≡ at 23 1003 ∷ at 0 1004 ∷ at 0 1005 ∷ at 0 1006 ∷ at 0 1000001009 ∷ at 0 1000001010 ∷ []
transfer_user_data_32 = refl

transfer_ledger : rows_of journal row.TransferLedger ≡ at 700 1003 ∷ at 700 1004 ∷ at 700 1005 ∷ at 700 1006 ∷ at 700 1000001009 ∷ at 700 1000001010 ∷ []
transfer_ledger = refl

transfer_code : rows_of journal row.TransferCode ≡ at 6 1003 ∷ at 5 1004 ∷ at 5 1005 ∷ at 5 1006 ∷ at 5 1000001009 ∷ at 5 1000001010 ∷ []
transfer_code = refl

pending_status : rows_of journal row.PendingStatus
    ≡ (key_of 0 1004, value.Status status.Posted)
    ∷ (key_of 0 1006, value.Status status.Expired)
    ∷ (key_of 0 1000001009, value.Status status.Open)
    ∷ (key_of 0 1000001010, value.Status status.Open)
    ∷ []
pending_status = refl

expiry : rows_of journal row.Expiry ≡ at 4000001010 1000001010 ∷ []
expiry = refl

expiry_entries : rows_of journal row.ExpiryEntries ≡ (key_of 0 1000001007, value.Stamp 1006) ∷ []
expiry_entries = refl

history : rows_of journal row.History
    ≡ (key_of 1 1003, value.Sums (sums 0 0 0 30))
    ∷ (key_of 1 1004, value.Sums (sums 100 0 0 30))
    ∷ (key_of 1 1005, value.Sums (sums 0 40 0 30))
    ∷ (key_of 1 1006, value.Sums (sums 7 40 0 30))
    ∷ (key_of 1 1000001009, value.Sums (sums 1 40 0 30))
    ∷ (key_of 1 1000001010, value.Sums (sums 6 40 0 30))
    ∷ []
history = refl

-- the rows spell the journal
spelled : journal_of (rows_of journal) ≡ journal
spelled = refl
