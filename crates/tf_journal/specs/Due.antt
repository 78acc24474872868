-- Pending transfers whose time is over, and what a pulse does with them.
use Rattle.std.specs.Prelude.{ℕ, ◌+◌, ◌==◌, nat_lt, min, max, ◌&&◌, ◌||◌, Bool, List, [], ◌∷◌, ◌++◌, length, fold, take, Option, Some, None, if◌then◌else◌}
use Rattle.std.specs.List.{filter as keep}
use Rattle.tf_records.specs.declared.transfer.Transfer.{Transfer}
use Rattle.tf_records.specs.declared.refusal.Refusal.{Refusal}
use Rattle.tf_records.specs.declared.refusal.Refusal.TheVariants.{ClockExhausted}
use Rattle.tf_journal.specs.declared.entry.Entry.{Entry}
use Rattle.tf_journal.specs.declared.entry.Entry.TheVariants as entry
use Rattle.tf_journal.specs.Flags.{is_pending}
use Rattle.tf_journal.specs.Journal.{transfers_of, last_timestamp}
use Rattle.tf_journal.specs.Status.{is_open}
use Rattle.tf_journal.specs.Verdict.{expires_at, is_overdue}

-- whether a transfer is pending and open after the journal, and its time over at this moment
abbrev pub is_due : List Entry → ℕ → Transfer → Bool
is_due journal moment transfer = is_pending transfer && is_overdue moment transfer && is_open journal transfer

-- whether a transfer expires before another: at an earlier moment, or at the same and stored before it
abbrev pub expires_before : Transfer → Transfer → Bool
expires_before first second =
    nat_lt (expires_at first) (expires_at second)
    || (expires_at first == expires_at second && nat_lt first.timestamp second.timestamp)

-- a transfer in its place among others that stand in the order of their expiry
abbrev pub with_expiring : List Transfer → Transfer → List Transfer
with_expiring [] transfer = transfer ∷ []
with_expiring (first ∷ rest) transfer =
    if expires_before transfer first then transfer ∷ first ∷ rest else first ∷ with_expiring rest transfer

-- transfers in the order of their expiry
abbrev pub by_expiry : List Transfer → List Transfer
by_expiry transfers = fold with_expiring [] transfers

-- the open pending transfers whose time is over at this moment, in the order of their expiry
abbrev pub due : List Entry → ℕ → List Transfer
due journal moment = by_expiry (keep (is_due journal moment) (transfers_of journal))

abbrev pub first_of : {X : Type 0} → List X → Option X
first_of [] = None
first_of (x ∷ xs) = Some x

-- the next transfer to expire
abbrev pub next_due_of : List Entry → ℕ → Option Transfer
next_due_of journal moment = first_of (due journal moment)

-- entries that say that these transfers expired, the first at this timestamp
abbrev pub expiries_of : ℕ → List Transfer → List Entry
expiries_of timestamp [] = []
expiries_of timestamp (transfer ∷ transfers) =
    entry.Expiry timestamp transfer.timestamp ∷ expiries_of (timestamp + 1) transfers

-- what a pulse leaves and answers: the journal, the clock, and how many transfers it expired
pub record Pulse : Type 0 where
  pub journal : List Entry
  pub clock : ℕ
  pub count : ℕ

-- how many transfers a pulse expires: the due ones, but no more than asked and no more than 8,190
abbrev pub pulse_count : List Entry → ℕ → ℕ → ℕ
pulse_count journal moment most = min most (min 8190 (length (due journal moment)))

-- a pulse's step from a journal and a clock: at the later of the clock and now, the first of the due transfers
-- expire, each at a timestamp of its own
abbrev pub pulse_step : List Entry → ℕ → ℕ → ℕ → Pulse
pulse_step journal clock now most =
    let moment = max now clock in
    let count = pulse_count journal moment most in
    record {
      journal = journal ++ expiries_of (moment + 1) (take count (due journal moment));
      clock = moment + count;
      count = count;
    }

-- why a pulse is refused: the clock has no timestamps left for it
abbrev pub pulse_refusal : List Entry → ℕ → ℕ → ℕ → Option Refusal
pulse_refusal journal clock now most =
    if nat_lt last_timestamp (pulse_step journal clock now most).clock then Some ClockExhausted else None
