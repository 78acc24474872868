-- Keys of expiry that are held beside the rows: all that have a value, and some that had one.
use Rattle.std.specs.Prelude.{◌≡◌, ◌≤◌, ◌==◌, not, ◌&&◌, ℕ, List, take, Option, Some, None, if◌then◌else◌}
use Rattle.tf_journal.specs.declared.entry.Entry.{Entry}
use Rattle.tf_journal.specs.declared.entry.Entry.TheVariants as entry
use Rattle.tf_journal.specs.Flags.{is_pending}
use Rattle.tf_table.specs.declared.key.Key.{Key}
use Rattle.tf_table.specs.Content.{entry_at}
use Rattle.tf_manifest.specs.declared.row.Row.TheVariants as row
use Rattle.tf_manifest.specs.Shows.{value_of}
use Rattle.tf_rows.specs.Edits.{expiry_key}

-- keys, each without anything beside it
abbrev pub Keys : Type 0
Keys = List (Key × Option (Unit {0}))

-- no other key of expiry has a value
abbrev pub AreHeld : Keys → List Entry → Type 0
AreHeld held journal = (key : Key) → entry_at key held ≡ None → value_of journal row.Expiry key ≡ None

-- the same of each journal that an undo can leave, where so many entries stand for good
abbrev pub StayHeld : Keys → List Entry → ℕ → Type 0
StayHeld held journal kept = (n : ℕ) → kept ≤ n → AreHeld held (take n journal)

-- the key of expiry that an entry gives a value, if it gives one
abbrev pub given_key : Entry → Option Key
given_key (entry.Transfer transfer) = if is_pending transfer && not (transfer.timeout == 0) then Some (expiry_key transfer) else None
given_key _ = None
