-- What it is that rows show a journal, and the journal that they show.
use Rattle.std.specs.Prelude.{◌≡◌, ◌==◌, nat_lt, List, [], ◌∷◌, ◌++◌, fold, Option, Some, None, if◌then◌else◌}
use Rattle.std.specs.List.{filter_map}
use Rattle.tf_sorted.specs.Rows.{IsRising, value_at}
use Rattle.tf_journal.specs.declared.entry.Entry.{Entry}
use Rattle.tf_journal.specs.declared.entry.Entry.TheVariants as entry
use Rattle.tf_journal.specs.Journal.{timestamp_of}
use Rattle.tf_table.specs.declared.key.Key.{Key}
use Rattle.tf_table.specs.Key.{key_cmp}
use Rattle.tf_manifest.specs.declared.row.Row.{Row}
use Rattle.tf_manifest.specs.declared.row.Row.TheVariants as row
use Rattle.tf_manifest.specs.declared.value.Value.{Value}
use Rattle.tf_manifest.specs.declared.value.Value.TheVariants as value
use Rattle.tf_manifest.specs.Rows.{Pair, rows_of}

-- what each row has at each key, if it has the key
abbrev pub Content : Type 0
Content = Row → Key → Option Value

-- what a journal's row has at a key
abbrev pub value_of : List Entry → Content
value_of journal row key = value_at key_cmp key (rows_of journal row)

-- each of the 21 rows has what the journal's row has: nothing is missing, and nothing stands besides
abbrev pub Shows : Content → List Entry → Type 0
Shows content journal = (row : Row) (key : Key) → content row key ≡ value_of journal row key

-- a row has the same at each key
abbrev pub SameRowOf : Content → Content → Row → Type 0
SameRowOf content other row = (key : Key) → content row key ≡ other row key

-- the four rows by which a journal is spelled have the same at each key
pub record SpellAlike (content other : Content) : Type 0 where
  pub accounts : SameRowOf content other row.AccountObjects
  pub transfers : SameRowOf content other row.TransferObjects
  pub ids : SameRowOf content other row.TransferIds
  pub expiries : SameRowOf content other row.ExpiryEntries

-- the entry that a pair of account_objects spells
abbrev pub account_spelled : Pair → Option Entry
account_spelled (key, value.Account account) = Some (entry.Account account)
account_spelled _ = None

-- of transfer_objects
abbrev pub transfer_spelled : Pair → Option Entry
transfer_spelled (key, value.Transfer transfer) = Some (entry.Transfer transfer)
transfer_spelled _ = None

-- of transfer_ids: an id that failed
abbrev pub failure_spelled : Pair → Option Entry
failure_spelled (key, value.FailedAt timestamp) = Some (entry.Failed timestamp key.value)
failure_spelled _ = None

-- of expiry_entries
abbrev pub expiry_spelled : Pair → Option Entry
expiry_spelled (key, value.Stamp pending) = Some (entry.Expiry key.timestamp pending)
expiry_spelled _ = None

-- the entries that the pairs of the four rows spell
abbrev pub entries_spelled : (Row → List Pair) → List Entry
entries_spelled pairs =
    filter_map account_spelled (pairs row.AccountObjects)
    ++ filter_map transfer_spelled (pairs row.TransferObjects)
    ++ filter_map failure_spelled (pairs row.TransferIds)
    ++ filter_map expiry_spelled (pairs row.ExpiryEntries)

-- an entry in its place among others by its timestamp, unless one with that timestamp is there
abbrev pub with_entry : List Entry → Entry → List Entry
with_entry [] e = e ∷ []
with_entry (first ∷ rest) e =
    if nat_lt (timestamp_of e) (timestamp_of first) then e ∷ first ∷ rest
    else if timestamp_of e == timestamp_of first then first ∷ rest
    else first ∷ with_entry rest e

-- the journal that rows show: the entries that they spell, by rising timestamp
abbrev pub journal_of : (Row → List Pair) → List Entry
journal_of pairs = fold with_entry [] (entries_spelled pairs)

-- the pairs of a row stand in the order of their keys, and are those of the content
pub record ListsRow (pairs : Row → List Pair) (content : Content) (row : Row) : Type 0 where
  pub rising : IsRising key_cmp (pairs row)
  pub values : (key : Key) → value_at key_cmp key (pairs row) ≡ content row key

-- the pairs of the four rows that spell a journal are those of the content
pub record Lists (pairs : Row → List Pair) (content : Content) : Type 0 where
  pub accounts : ListsRow pairs content row.AccountObjects
  pub transfers : ListsRow pairs content row.TransferObjects
  pub ids : ListsRow pairs content row.TransferIds
  pub expiries : ListsRow pairs content row.ExpiryEntries
