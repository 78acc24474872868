-- The bytes of an Account and the Account in bytes undo each other.
use Rattle.std.proofs.Common.{◌≡◌, ℕ, ◌<◌, List, [], ◌∷◌, length, slice_index, ap, ◌∙◌, append_assoc}
use Rattle.std.proofs.lemmas.List.{append-nil}
use Rattle.tf_records.specs.declared.account.Account.{Account}
use Rattle.tf_records.specs.Layout.{account_bytes, account_of_bytes}
use Rattle.tf_records.proofs.Fields.{Field, number, value, AllFit, all_spelled, all_read-spelled, all_spelled-read}

-- its fields, in their order
abbrev pub account_fields : Account → List Field
account_fields a =
    number 16 a.id ∷ number 16 a.debits_pending ∷ number 16 a.debits_posted ∷ number 16 a.credits_pending
    ∷ number 16 a.credits_posted ∷ number 16 a.user_data_128 ∷ number 8 a.user_data_64 ∷ number 4 a.user_data_32
    ∷ number 4 a.reserved ∷ number 4 a.ledger ∷ number 2 a.code ∷ number 2 a.flags
    ∷ number 8 a.timestamp ∷ []

-- the account with these fields
abbrev pub account_with : List Field → Account
account_with fs = record {
  id = value 0 fs;
  debits_pending = value 1 fs;
  debits_posted = value 2 fs;
  credits_pending = value 3 fs;
  credits_posted = value 4 fs;
  user_data_128 = value 5 fs;
  user_data_64 = value 6 fs;
  user_data_32 = value 7 fs;
  reserved = value 8 fs;
  ledger = value 9 fs;
  code = value 10 fs;
  flags = value 11 fs;
  timestamp = value 12 fs;
}

-- its bytes are those of its fields
account-spelled : (a : Account) → account_bytes a ≡ all_spelled (account_fields a)
account-spelled a = simp (append_assoc, append-nil)

-- the bytes of what was read are the bytes
pub account_bytes-account_of : (bytes : List ℕ) → length bytes ≡ 128 → ((i : ℕ) → slice_index bytes i < 256) → account_bytes (account_of_bytes bytes) ≡ bytes
account_bytes-account_of bytes size small =
    account-spelled (account_of_bytes bytes) ∙ all_spelled-read bytes (account_fields (account_of_bytes bytes)) size small

-- what is read of the bytes is what was written
pub account_of-account_bytes : (a : Account) → AllFit (account_fields a) → account_of_bytes (account_bytes a) ≡ a
account_of-account_bytes a fits =
    ap account_of_bytes (account-spelled a) ∙ ap account_with (all_read-spelled (account_fields a) fits)
