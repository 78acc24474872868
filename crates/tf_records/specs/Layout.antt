-- The bytes of the records: every field in the order of TigerBeetle's reference, little endian, with
-- nothing between. Each `_of` reads the fields at the places at which `_bytes` has them.
use Rattle.std.specs.Prelude.{ℕ, List, ◌++◌}
use Rattle.tf_records.specs.declared.account.Account.{Account}
use Rattle.tf_records.specs.declared.account_balance.AccountBalance.{AccountBalance}
use Rattle.tf_records.specs.declared.account_filter.AccountFilter.{AccountFilter}
use Rattle.tf_records.specs.declared.query_filter.QueryFilter.{QueryFilter}
use Rattle.tf_records.specs.declared.transfer.Transfer.{Transfer}
use Rattle.tf_records.specs.LittleEndian.{little_endian, number_at, bytes_at}

-- the 128 bytes of an account, by the reference page Account
abbrev pub account_bytes : Account → List ℕ
account_bytes a =
    little_endian 16 a.id
    ++ little_endian 16 a.debits_pending
    ++ little_endian 16 a.debits_posted
    ++ little_endian 16 a.credits_pending
    ++ little_endian 16 a.credits_posted
    ++ little_endian 16 a.user_data_128
    ++ little_endian 8 a.user_data_64
    ++ little_endian 4 a.user_data_32
    ++ little_endian 4 a.reserved
    ++ little_endian 4 a.ledger
    ++ little_endian 2 a.code
    ++ little_endian 2 a.flags
    ++ little_endian 8 a.timestamp

-- the account in 128 bytes
abbrev pub account_of_bytes : List ℕ → Account
account_of_bytes bytes = record {
  id = number_at 0 16 bytes;
  debits_pending = number_at 16 16 bytes;
  debits_posted = number_at 32 16 bytes;
  credits_pending = number_at 48 16 bytes;
  credits_posted = number_at 64 16 bytes;
  user_data_128 = number_at 80 16 bytes;
  user_data_64 = number_at 96 8 bytes;
  user_data_32 = number_at 104 4 bytes;
  reserved = number_at 108 4 bytes;
  ledger = number_at 112 4 bytes;
  code = number_at 116 2 bytes;
  flags = number_at 118 2 bytes;
  timestamp = number_at 120 8 bytes;
}

-- the 128 bytes of a transfer, by the reference page Transfer
abbrev pub transfer_bytes : Transfer → List ℕ
transfer_bytes t =
    little_endian 16 t.id
    ++ little_endian 16 t.debit_account_id
    ++ little_endian 16 t.credit_account_id
    ++ little_endian 16 t.amount
    ++ little_endian 16 t.pending_id
    ++ little_endian 16 t.user_data_128
    ++ little_endian 8 t.user_data_64
    ++ little_endian 4 t.user_data_32
    ++ little_endian 4 t.timeout
    ++ little_endian 4 t.ledger
    ++ little_endian 2 t.code
    ++ little_endian 2 t.flags
    ++ little_endian 8 t.timestamp

-- the transfer in 128 bytes
abbrev pub transfer_of_bytes : List ℕ → Transfer
transfer_of_bytes bytes = record {
  id = number_at 0 16 bytes;
  debit_account_id = number_at 16 16 bytes;
  credit_account_id = number_at 32 16 bytes;
  amount = number_at 48 16 bytes;
  pending_id = number_at 64 16 bytes;
  user_data_128 = number_at 80 16 bytes;
  user_data_64 = number_at 96 8 bytes;
  user_data_32 = number_at 104 4 bytes;
  timeout = number_at 108 4 bytes;
  ledger = number_at 112 4 bytes;
  code = number_at 116 2 bytes;
  flags = number_at 118 2 bytes;
  timestamp = number_at 120 8 bytes;
}

-- the 128 bytes of a filter on one account, by the reference page AccountFilter
abbrev pub account_filter_bytes : AccountFilter → List ℕ
account_filter_bytes f =
    little_endian 16 f.account_id
    ++ little_endian 16 f.user_data_128
    ++ little_endian 8 f.user_data_64
    ++ little_endian 4 f.user_data_32
    ++ little_endian 2 f.code
    ++ f.reserved
    ++ little_endian 8 f.timestamp_min
    ++ little_endian 8 f.timestamp_max
    ++ little_endian 4 f.limit
    ++ little_endian 4 f.flags

-- the filter on one account in 128 bytes
abbrev pub account_filter_of_bytes : List ℕ → AccountFilter
account_filter_of_bytes bytes = record {
  account_id = number_at 0 16 bytes;
  user_data_128 = number_at 16 16 bytes;
  user_data_64 = number_at 32 8 bytes;
  user_data_32 = number_at 40 4 bytes;
  code = number_at 44 2 bytes;
  reserved = bytes_at 46 58 bytes;
  timestamp_min = number_at 104 8 bytes;
  timestamp_max = number_at 112 8 bytes;
  limit = number_at 120 4 bytes;
  flags = number_at 124 4 bytes;
}

-- the 64 bytes of a filter on all records, by the reference page QueryFilter
abbrev pub query_filter_bytes : QueryFilter → List ℕ
query_filter_bytes f =
    little_endian 16 f.user_data_128
    ++ little_endian 8 f.user_data_64
    ++ little_endian 4 f.user_data_32
    ++ little_endian 4 f.ledger
    ++ little_endian 2 f.code
    ++ f.reserved
    ++ little_endian 8 f.timestamp_min
    ++ little_endian 8 f.timestamp_max
    ++ little_endian 4 f.limit
    ++ little_endian 4 f.flags

-- the filter on all records in 64 bytes
abbrev pub query_filter_of_bytes : List ℕ → QueryFilter
query_filter_of_bytes bytes = record {
  user_data_128 = number_at 0 16 bytes;
  user_data_64 = number_at 16 8 bytes;
  user_data_32 = number_at 24 4 bytes;
  ledger = number_at 28 4 bytes;
  code = number_at 32 2 bytes;
  reserved = bytes_at 34 6 bytes;
  timestamp_min = number_at 40 8 bytes;
  timestamp_max = number_at 48 8 bytes;
  limit = number_at 56 4 bytes;
  flags = number_at 60 4 bytes;
}

-- the 128 bytes of a row of a balance history, by the reference page AccountBalance
abbrev pub account_balance_bytes : AccountBalance → List ℕ
account_balance_bytes b =
    little_endian 16 b.debits_pending
    ++ little_endian 16 b.debits_posted
    ++ little_endian 16 b.credits_pending
    ++ little_endian 16 b.credits_posted
    ++ little_endian 8 b.timestamp
    ++ b.reserved

-- the row of a balance history in 128 bytes
abbrev pub account_balance_of_bytes : List ℕ → AccountBalance
account_balance_of_bytes bytes = record {
  debits_pending = number_at 0 16 bytes;
  debits_posted = number_at 16 16 bytes;
  credits_pending = number_at 32 16 bytes;
  credits_posted = number_at 48 16 bytes;
  timestamp = number_at 64 8 bytes;
  reserved = bytes_at 72 56 bytes;
}
