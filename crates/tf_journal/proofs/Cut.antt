-- Journals cut at a timestamp.
use Rattle.std.proofs.Common.{ℕ, ◌<◌, ◌≤◌, zero, suc, List, [], ◌∷◌, get_or, length, nat_le, arith, add-one}
use Rattle.std.specs.List.Sorted.{IsPartitionedBy}
use Rattle.std.proofs.lemmas.List.Sorted.{IsPartitionedBy-leb, IsNonDecreasingBy-from_all_adjacent}
use Rattle.std.proofs.Math.Logic.{∥∥₁_elim}
use mathlib.Core.Bool.{Bool-set}
use Rattle.tf_journal.specs.declared.entry.Entry.{Entry}
use Rattle.tf_journal.specs.Journal.{IsRisingFrom, timestamp_of}
use Rattle.tf_journal.specs.Lawful.{IsSound}

-- no entry is younger than the next one
rising_next : (low : ℕ) (journal : List Entry) → IsRisingFrom low journal → (k : ℕ) (d : Entry) → suc k < length journal
    → timestamp_of (get_or journal k d) ≤ timestamp_of (get_or journal (suc k) d)
rising_next low [] rising k d within = absurd (omega arith)
rising_next low (e ∷ []) rising k d within = absurd (omega arith)
rising_next low (e ∷ (f ∷ journal)) rising zero d within = omega (arith, rising.1.0)
rising_next low (e ∷ (f ∷ journal)) rising (suc k) d within = rising_next (timestamp_of e) (f ∷ journal) rising.1 k d (omega arith)

-- in a sound journal the entries up to a timestamp stand before all others
pub sound_parted : (journal : List Entry) (timestamp : ℕ) → ∥ IsSound journal ∥₁ → IsPartitionedBy (λ e. nat_le (timestamp_of e) timestamp) journal
sound_parted journal timestamp sound = λ i j d order within up_to. ∥∥₁_elim sound (Bool-set _ _) (λ is.
    IsPartitionedBy-leb timestamp_of journal timestamp
    (IsNonDecreasingBy-from_all_adjacent timestamp_of journal (λ k e next. rw add-one (rising_next 0 journal is.is_journal.rising k e (omega arith))))
    i j d order within up_to)
