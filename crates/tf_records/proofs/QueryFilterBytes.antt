-- The bytes of a QueryFilter and the QueryFilter in bytes undo each other.
use Rattle.std.proofs.Common.{◌≡◌, ℕ, ◌<◌, List, [], ◌∷◌, length, slice_index, ap, ◌∙◌, append_assoc}
use Rattle.std.proofs.lemmas.List.{append-nil}
use Rattle.tf_records.specs.declared.query_filter.QueryFilter.{QueryFilter}
use Rattle.tf_records.specs.Layout.{query_filter_bytes, query_filter_of_bytes}
use Rattle.tf_records.proofs.Fields.{Field, number, raw, value, bytes_of, AllFit, all_spelled, all_read-spelled, all_spelled-read}

-- its fields, in their order
abbrev pub query_filter_fields : QueryFilter → List Field
query_filter_fields f =
    number 16 f.user_data_128 ∷ number 8 f.user_data_64 ∷ number 4 f.user_data_32 ∷ number 4 f.ledger
    ∷ number 2 f.code ∷ raw 6 f.reserved ∷ number 8 f.timestamp_min ∷ number 8 f.timestamp_max
    ∷ number 4 f.limit ∷ number 4 f.flags ∷ []

-- the filter with these fields
abbrev pub query_filter_with : List Field → QueryFilter
query_filter_with fs = record {
  user_data_128 = value 0 fs;
  user_data_64 = value 1 fs;
  user_data_32 = value 2 fs;
  ledger = value 3 fs;
  code = value 4 fs;
  reserved = bytes_of 5 fs;
  timestamp_min = value 6 fs;
  timestamp_max = value 7 fs;
  limit = value 8 fs;
  flags = value 9 fs;
}

-- its bytes are those of its fields
query_filter-spelled : (f : QueryFilter) → query_filter_bytes f ≡ all_spelled (query_filter_fields f)
query_filter-spelled f = simp (append_assoc, append-nil)

-- the bytes of what was read are the bytes
pub query_filter_bytes-query_filter_of : (bytes : List ℕ) → length bytes ≡ 64 → ((i : ℕ) → slice_index bytes i < 256) → query_filter_bytes (query_filter_of_bytes bytes) ≡ bytes
query_filter_bytes-query_filter_of bytes size small =
    query_filter-spelled (query_filter_of_bytes bytes) ∙ all_spelled-read bytes (query_filter_fields (query_filter_of_bytes bytes)) size small

-- what is read of the bytes is what was written
pub query_filter_of-query_filter_bytes : (f : QueryFilter) → AllFit (query_filter_fields f) → query_filter_of_bytes (query_filter_bytes f) ≡ f
query_filter_of-query_filter_bytes f fits =
    ap query_filter_of_bytes (query_filter-spelled f) ∙ ap query_filter_with (all_read-spelled (query_filter_fields f) fits)
