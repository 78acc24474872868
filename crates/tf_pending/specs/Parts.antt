-- What the parts of a judgement and of a pulse answer and leave.
use Rattle.std.specs.Prelude.{◌≡◌, ℕ, ◌+◌, ◌≤◌, List, ◌++◌, length, take, drop, Option, Some, None, if◌then◌else◌}
use Rattle.std.specs.Option.{option_map_or}
use Rattle.tf_records.specs.declared.outcome.Outcome.{Outcome}
use Rattle.tf_records.specs.declared.outcome.Outcome.TheVariants as outcome
use Rattle.tf_records.specs.declared.transfer.Transfer.{Transfer}
use Rattle.tf_journal.specs.declared.entry.Entry.{Entry}
use Rattle.tf_journal.specs.Due.{due, expiries_of}
use Rattle.tf_journal.specs.Journal.{is_failed}
use Rattle.tf_journal.specs.Lawful.{IsLawfulAt}
use Rattle.tf_journal.specs.Lookup.{transfer_with_id}
use Rattle.tf_journal.specs.Verdict.{repeated, transfer_differences}

-- the result of a transfer event whose id is in use, where the event stands as it is compared
abbrev pub fault_of_id : List Entry → Transfer → Option Outcome
fault_of_id journal e =
    option_map_or (λ stored. Some (repeated (transfer_differences e stored))) (transfer_with_id journal e.id)
    (if is_failed journal e.id then Some outcome.IdAlreadyFailed else None)

-- so many of the transfers that are due at this moment after the first journal expired in the second one
pub record IsExpiring (moment : ℕ) (start journal : List Entry) (count : ℕ) : Type 0 where
  pub stored : journal ≡ start ++ expiries_of (moment + 1) (take count (due start moment))
  pub within : count ≤ length (due start moment)
  pub left : due journal moment ≡ drop count (due start moment)
  pub lawful : IsLawfulAt (moment + count) journal
