-- The bytes of a Transfer and the Transfer in bytes undo each other.
use Rattle.std.proofs.Common.{◌≡◌, ℕ, ◌<◌, List, [], ◌∷◌, length, slice_index, ap, ◌∙◌, append_assoc}
use Rattle.std.proofs.lemmas.List.{append-nil}
use Rattle.tf_records.specs.declared.transfer.Transfer.{Transfer}
use Rattle.tf_records.specs.Layout.{transfer_bytes, transfer_of_bytes}
use Rattle.tf_records.proofs.Fields.{Field, number, value, AllFit, all_spelled, all_read-spelled, all_spelled-read}

-- its fields, in their order
abbrev pub transfer_fields : Transfer → List Field
transfer_fields t =
    number 16 t.id ∷ number 16 t.debit_account_id ∷ number 16 t.credit_account_id ∷ number 16 t.amount
    ∷ number 16 t.pending_id ∷ number 16 t.user_data_128 ∷ number 8 t.user_data_64 ∷ number 4 t.user_data_32
    ∷ number 4 t.timeout ∷ number 4 t.ledger ∷ number 2 t.code ∷ number 2 t.flags
    ∷ number 8 t.timestamp ∷ []

-- the transfer with these fields
abbrev pub transfer_with : List Field → Transfer
transfer_with fs = record {
  id = value 0 fs;
  debit_account_id = value 1 fs;
  credit_account_id = value 2 fs;
  amount = value 3 fs;
  pending_id = value 4 fs;
  user_data_128 = value 5 fs;
  user_data_64 = value 6 fs;
  user_data_32 = value 7 fs;
  timeout = value 8 fs;
  ledger = value 9 fs;
  code = value 10 fs;
  flags = value 11 fs;
  timestamp = value 12 fs;
}

-- its bytes are those of its fields
transfer-spelled : (t : Transfer) → transfer_bytes t ≡ all_spelled (transfer_fields t)
transfer-spelled t = simp (append_assoc, append-nil)

-- the bytes of what was read are the bytes
pub transfer_bytes-transfer_of : (bytes : List ℕ) → length bytes ≡ 128 → ((i : ℕ) → slice_index bytes i < 256) → transfer_bytes (transfer_of_bytes bytes) ≡ bytes
transfer_bytes-transfer_of bytes size small =
    transfer-spelled (transfer_of_bytes bytes) ∙ all_spelled-read bytes (transfer_fields (transfer_of_bytes bytes)) size small

-- what is read of the bytes is what was written
pub transfer_of-transfer_bytes : (t : Transfer) → AllFit (transfer_fields t) → transfer_of_bytes (transfer_bytes t) ≡ t
transfer_of-transfer_bytes t fits =
    ap transfer_of_bytes (transfer-spelled t) ∙ ap transfer_with (all_read-spelled (transfer_fields t) fits)
