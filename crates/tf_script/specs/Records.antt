-- What a script writes of each record: its fields in their order and the record of their values, or its bytes.
use Rattle.std.specs.Prelude.{ℕ, ◌-◌, ◌^◌, List, [], ◌∷◌, Option, replicate, codes}
use Rattle.tf_records.specs.Layout.{account_of_bytes, transfer_of_bytes, account_filter_of_bytes, query_filter_of_bytes}
use Rattle.tf_records.specs.declared.account.Account.{Account}
use Rattle.tf_records.specs.declared.transfer.Transfer.{Transfer}
use Rattle.tf_records.specs.declared.account_filter.AccountFilter.{AccountFilter}
use Rattle.tf_records.specs.declared.query_filter.QueryFilter.{QueryFilter}
use Rattle.tf_script.specs.Fields.{Field, number_at}

-- how a record is written: its fields, the record of their values, the length of its bytes, and the record in them
pub record Format (R : Type 0) : Type 0 where
  pub fields : List Field
  pub from_values : List (Option ℕ) → R
  pub size : ℕ
  pub from_bytes : List ℕ → R

-- a field that is a number of so many bits
abbrev pub number : List ℕ → ℕ → Field
number name bits = record { name = name; greatest = 2 ^ bits - 1; flags = [] }

-- the field `flags`, of so many bits, with the names of the first of them
abbrev pub flags : ℕ → List (List ℕ) → Field
flags bits names = record { name = codes "flags"; greatest = 2 ^ bits - 1; flags = names }

-- the names of an account's flags, from bit 0 on
abbrev pub account_flags : List (List ℕ)
account_flags =
    codes "linked" ∷ codes "debits_must_not_exceed_credits" ∷ codes "credits_must_not_exceed_debits"
    ∷ codes "history" ∷ codes "imported" ∷ codes "closed" ∷ []

-- the fields of an account
abbrev pub account_fields : List Field
account_fields =
    number (codes "id") 128 ∷ number (codes "debits_pending") 128 ∷ number (codes "debits_posted") 128
    ∷ number (codes "credits_pending") 128 ∷ number (codes "credits_posted") 128
    ∷ number (codes "user_data_128") 128 ∷ number (codes "user_data_64") 64 ∷ number (codes "user_data_32") 32
    ∷ number (codes "reserved") 32 ∷ number (codes "ledger") 32 ∷ number (codes "code") 16
    ∷ flags 16 account_flags ∷ number (codes "timestamp") 64 ∷ []

-- the account with these values, in the order of the fields
abbrev pub account_from_values : List (Option ℕ) → Account
account_from_values values = record {
  id = number_at values 0;
  debits_pending = number_at values 1;
  debits_posted = number_at values 2;
  credits_pending = number_at values 3;
  credits_posted = number_at values 4;
  user_data_128 = number_at values 5;
  user_data_64 = number_at values 6;
  user_data_32 = number_at values 7;
  reserved = number_at values 8;
  ledger = number_at values 9;
  code = number_at values 10;
  flags = number_at values 11;
  timestamp = number_at values 12;
}

-- how an account is written
abbrev pub account_format : Format Account
account_format = record { fields = account_fields; from_values = account_from_values; size = 128; from_bytes = account_of_bytes }

-- the names of a transfer's flags, from bit 0 on
abbrev pub transfer_flags : List (List ℕ)
transfer_flags =
    codes "linked" ∷ codes "pending" ∷ codes "post_pending_transfer" ∷ codes "void_pending_transfer"
    ∷ codes "balancing_debit" ∷ codes "balancing_credit" ∷ codes "closing_debit" ∷ codes "closing_credit"
    ∷ codes "imported" ∷ []

-- the fields of a transfer
abbrev pub transfer_fields : List Field
transfer_fields =
    number (codes "id") 128 ∷ number (codes "debit_account_id") 128 ∷ number (codes "credit_account_id") 128
    ∷ number (codes "amount") 128 ∷ number (codes "pending_id") 128
    ∷ number (codes "user_data_128") 128 ∷ number (codes "user_data_64") 64 ∷ number (codes "user_data_32") 32
    ∷ number (codes "timeout") 32 ∷ number (codes "ledger") 32 ∷ number (codes "code") 16
    ∷ flags 16 transfer_flags ∷ number (codes "timestamp") 64 ∷ []

-- the transfer with these values, in the order of the fields
abbrev pub transfer_from_values : List (Option ℕ) → Transfer
transfer_from_values values = record {
  id = number_at values 0;
  debit_account_id = number_at values 1;
  credit_account_id = number_at values 2;
  amount = number_at values 3;
  pending_id = number_at values 4;
  user_data_128 = number_at values 5;
  user_data_64 = number_at values 6;
  user_data_32 = number_at values 7;
  timeout = number_at values 8;
  ledger = number_at values 9;
  code = number_at values 10;
  flags = number_at values 11;
  timestamp = number_at values 12;
}

-- how a transfer is written
abbrev pub transfer_format : Format Transfer
transfer_format = record { fields = transfer_fields; from_values = transfer_from_values; size = 128; from_bytes = transfer_of_bytes }

-- the names of the flags of a filter on one account, from bit 0 on
abbrev pub account_filter_flags : List (List ℕ)
account_filter_flags = codes "debits" ∷ codes "credits" ∷ codes "reversed" ∷ []

-- the fields of a filter on one account, without its reserved bytes
abbrev pub account_filter_fields : List Field
account_filter_fields =
    number (codes "account_id") 128 ∷ number (codes "user_data_128") 128 ∷ number (codes "user_data_64") 64
    ∷ number (codes "user_data_32") 32 ∷ number (codes "code") 16
    ∷ number (codes "timestamp_min") 64 ∷ number (codes "timestamp_max") 64
    ∷ number (codes "limit") 32 ∷ flags 32 account_filter_flags ∷ []

-- the filter with these values, in the order of the fields; its reserved bytes are 0
abbrev pub account_filter_from_values : List (Option ℕ) → AccountFilter
account_filter_from_values values = record {
  account_id = number_at values 0;
  user_data_128 = number_at values 1;
  user_data_64 = number_at values 2;
  user_data_32 = number_at values 3;
  code = number_at values 4;
  reserved = replicate 58 0;
  timestamp_min = number_at values 5;
  timestamp_max = number_at values 6;
  limit = number_at values 7;
  flags = number_at values 8;
}

-- how a filter on one account is written
abbrev pub account_filter_format : Format AccountFilter
account_filter_format = record { fields = account_filter_fields; from_values = account_filter_from_values; size = 128; from_bytes = account_filter_of_bytes }

-- the fields of a filter on all records, without its reserved bytes
abbrev pub query_filter_fields : List Field
query_filter_fields =
    number (codes "user_data_128") 128 ∷ number (codes "user_data_64") 64 ∷ number (codes "user_data_32") 32
    ∷ number (codes "ledger") 32 ∷ number (codes "code") 16
    ∷ number (codes "timestamp_min") 64 ∷ number (codes "timestamp_max") 64
    ∷ number (codes "limit") 32 ∷ flags 32 (codes "reversed" ∷ []) ∷ []

-- the filter with these values, in the order of the fields; its reserved bytes are 0
abbrev pub query_filter_from_values : List (Option ℕ) → QueryFilter
query_filter_from_values values = record {
  user_data_128 = number_at values 0;
  user_data_64 = number_at values 1;
  user_data_32 = number_at values 2;
  ledger = number_at values 3;
  code = number_at values 4;
  reserved = replicate 6 0;
  timestamp_min = number_at values 5;
  timestamp_max = number_at values 6;
  limit = number_at values 7;
  flags = number_at values 8;
}

-- how a filter on all records is written
abbrev pub query_filter_format : Format QueryFilter
query_filter_format = record { fields = query_filter_fields; from_values = query_filter_from_values; size = 64; from_bytes = query_filter_of_bytes }
