-- The transfers that are due, read off the row of expiries.
use Rattle.std.specs.Prelude.{ℕ, nat_le, List, map, Option, Bool}
use Rattle.std.specs.List.{filter as keep}
use Rattle.tf_sorted.specs.Rows.{first_key, rows_from}
use Rattle.tf_records.specs.declared.transfer.Transfer.{Transfer}
use Rattle.tf_table.specs.declared.key.Key.{Key}
use Rattle.tf_table.specs.Key.{key_cmp}
use Rattle.tf_manifest.specs.Rows.{Pair}
use Rattle.tf_manifest.specs.Shows.{Content}
use Rattle.tf_rows.specs.LookUps.{transfer_at}

-- whether the key of an expiry is due at a moment: its value, when the transfer expires, isn't later
abbrev pub is_due_key : ℕ → Key → Bool
is_due_key moment key = nat_le key.value moment

-- the pairs of expiry that are due at a moment
abbrev pub due_pairs : ℕ → List Pair → List Pair
due_pairs moment pairs = keep (λ (pair : Pair). is_due_key moment pair.0) pairs

-- the first key of expiry that is due at a moment, from a key on
abbrev pub first_due_from : ℕ → Key → List Pair → Option Key
first_due_from moment from pairs = first_key (rows_from key_cmp from (due_pairs moment pairs))

-- the transfer of each pair of expiry, by the timestamp of its key
abbrev pub transfers_read : Content → List Pair → List (Option Transfer)
transfers_read content pairs = map (λ (pair : Pair). transfer_at content pair.0.timestamp) pairs
