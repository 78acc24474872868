-- Keys of expiry below which there is none, of a growing journal.
use Rattle.std.specs.Prelude.{◌≡◌, ◌-◌, ◌^◌, ◌≤◌, ◌==◌, not, ◌&&◌, ℕ, List, take, Option, Some, None, if◌then◌else◌}
use Rattle.std.specs.Option.{unwrap_or}
use Rattle.std.specs.Ordering.{ord_min}
use Rattle.std.specs.declared.cmp.Ordering.TheVariants.{Less}
use Rattle.tf_records.specs.declared.transfer.Transfer.{Transfer}
use Rattle.tf_journal.specs.declared.entry.Entry.{Entry}
use Rattle.tf_journal.specs.declared.entry.Entry.TheVariants as entry
use Rattle.tf_journal.specs.Flags.{is_pending}
use Rattle.tf_table.specs.declared.key.Key.{Key}
use Rattle.tf_table.specs.Key.{key_cmp}
use Rattle.tf_manifest.specs.declared.row.Row.TheVariants as row
use Rattle.tf_manifest.specs.Shows.{value_of}
use Rattle.tf_rows.specs.declared.floors.Floors.{Floors}
use Rattle.tf_rows.specs.Edits.{expiry_key}

-- no pending transfer that can expire stands below this key
abbrev pub IsFloor : Key → List Entry → Type 0
IsFloor floor journal = (key : Key) → key_cmp key floor ≡ Less → value_of journal row.Expiry key ≡ None

-- floors of a journal of which so many entries stand for good: one of itself, and one of each journal that an undo can
-- leave of it
pub record HaveFloors (floors : Floors) (journal : List Entry) (kept : ℕ) : Type 0 where
  pub present : IsFloor floors.present journal
  pub undone : (n : ℕ) → kept ≤ n → IsFloor floors.undone (take n journal)

-- floors that aren't above a key
abbrev pub lowered : Key → Floors → Floors
lowered key floors = record { present = ord_min key_cmp floors.present key; undone = ord_min key_cmp floors.undone key }

-- floors where the first of all expired, if it is there
abbrev pub raised : Option Transfer → Floors → Floors
raised None floors = floors
raised (Some expired) floors = record floors { present = expiry_key expired }

-- floors after one more entry, which settles this pending transfer, if one
abbrev pub floors_after : Floors → Entry → Option Transfer → Floors
floors_after floors (entry.Transfer transfer) settled =
    if is_pending transfer && not (transfer.timeout == 0) then lowered (expiry_key transfer) floors else floors
floors_after floors (entry.Expiry timestamp pending) settled = raised settled floors
floors_after floors _ settled = floors

-- no key of a row is above this one
abbrev pub greatest_key : Key
greatest_key = record { value = 2 ^ 128 - 1; timestamp = 2 ^ 64 - 1 }

-- the first key of expiry as both floors. Where there is none, any key is one
abbrev pub floors_at : Option Key → Floors
floors_at first = record { present = unwrap_or first greatest_key; undone = unwrap_or first greatest_key }
