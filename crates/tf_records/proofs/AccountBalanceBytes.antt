-- The bytes of an AccountBalance and the AccountBalance in bytes undo each other.
use Rattle.std.proofs.Common.{◌≡◌, ℕ, ◌<◌, List, [], ◌∷◌, length, slice_index, ap, ◌∙◌, append_assoc}
use Rattle.std.proofs.lemmas.List.{append-nil}
use Rattle.tf_records.specs.declared.account_balance.AccountBalance.{AccountBalance}
use Rattle.tf_records.specs.Layout.{account_balance_bytes, account_balance_of_bytes}
use Rattle.tf_records.proofs.Fields.{Field, number, raw, value, bytes_of, AllFit, all_spelled, all_read-spelled, all_spelled-read}

-- its fields, in their order
abbrev pub account_balance_fields : AccountBalance → List Field
account_balance_fields b =
    number 16 b.debits_pending ∷ number 16 b.debits_posted ∷ number 16 b.credits_pending ∷ number 16 b.credits_posted
    ∷ number 8 b.timestamp ∷ raw 56 b.reserved ∷ []

-- the balance with these fields
abbrev pub account_balance_with : List Field → AccountBalance
account_balance_with fs = record {
  debits_pending = value 0 fs;
  debits_posted = value 1 fs;
  credits_pending = value 2 fs;
  credits_posted = value 3 fs;
  timestamp = value 4 fs;
  reserved = bytes_of 5 fs;
}

-- its bytes are those of its fields
account_balance-spelled : (b : AccountBalance) → account_balance_bytes b ≡ all_spelled (account_balance_fields b)
account_balance-spelled b = simp (append_assoc, append-nil)

-- the bytes of what was read are the bytes
pub account_balance_bytes-account_balance_of : (bytes : List ℕ) → length bytes ≡ 128 → ((i : ℕ) → slice_index bytes i < 256) → account_balance_bytes (account_balance_of_bytes bytes) ≡ bytes
account_balance_bytes-account_balance_of bytes size small =
    account_balance-spelled (account_balance_of_bytes bytes) ∙ all_spelled-read bytes (account_balance_fields (account_balance_of_bytes bytes)) size small

-- what is read of the bytes is what was written
pub account_balance_of-account_balance_bytes : (b : AccountBalance) → AllFit (account_balance_fields b) → account_balance_of_bytes (account_balance_bytes b) ≡ b
account_balance_of-account_balance_bytes b fits =
    ap account_balance_of_bytes (account_balance-spelled b) ∙ ap account_balance_with (all_read-spelled (account_balance_fields b) fits)
