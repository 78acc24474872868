-- The bytes of an AccountFilter and the AccountFilter in bytes undo each other.
use Rattle.std.proofs.Common.{◌≡◌, ℕ, ◌<◌, List, [], ◌∷◌, length, slice_index, ap, ◌∙◌, append_assoc}
use Rattle.std.proofs.lemmas.List.{append-nil}
use Rattle.tf_records.specs.declared.account_filter.AccountFilter.{AccountFilter}
use Rattle.tf_records.specs.Layout.{account_filter_bytes, account_filter_of_bytes}
use Rattle.tf_records.proofs.Fields.{Field, number, raw, value, bytes_of, AllFit, all_spelled, all_read-spelled, all_spelled-read}

-- its fields, in their order
abbrev pub account_filter_fields : AccountFilter → List Field
account_filter_fields f =
    number 16 f.account_id ∷ number 16 f.user_data_128 ∷ number 8 f.user_data_64 ∷ number 4 f.user_data_32
    ∷ number 2 f.code ∷ raw 58 f.reserved ∷ number 8 f.timestamp_min ∷ number 8 f.timestamp_max
    ∷ number 4 f.limit ∷ number 4 f.flags ∷ []

-- the filter with these fields
abbrev pub account_filter_with : List Field → AccountFilter
account_filter_with fs = record {
  account_id = value 0 fs;
  user_data_128 = value 1 fs;
  user_data_64 = value 2 fs;
  user_data_32 = value 3 fs;
  code = value 4 fs;
  reserved = bytes_of 5 fs;
  timestamp_min = value 6 fs;
  timestamp_max = value 7 fs;
  limit = value 8 fs;
  flags = value 9 fs;
}

-- its bytes are those of its fields
account_filter-spelled : (f : AccountFilter) → account_filter_bytes f ≡ all_spelled (account_filter_fields f)
account_filter-spelled f = simp (append_assoc, append-nil)

-- the bytes of what was read are the bytes
pub account_filter_bytes-account_filter_of : (bytes : List ℕ) → length bytes ≡ 128 → ((i : ℕ) → slice_index bytes i < 256) → account_filter_bytes (account_filter_of_bytes bytes) ≡ bytes
account_filter_bytes-account_filter_of bytes size small =
    account_filter-spelled (account_filter_of_bytes bytes) ∙ all_spelled-read bytes (account_filter_fields (account_filter_of_bytes bytes)) size small

-- what is read of the bytes is what was written
pub account_filter_of-account_filter_bytes : (f : AccountFilter) → AllFit (account_filter_fields f) → account_filter_of_bytes (account_filter_bytes f) ≡ f
account_filter_of-account_filter_bytes f fits =
    ap account_filter_of_bytes (account_filter-spelled f) ∙ ap account_filter_with (all_read-spelled (account_filter_fields f) fits)
