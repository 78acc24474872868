-- What accounts and transfers keep as events.
use Rattle.std.proofs.Common.{◌≡◌, ℕ, ◌≤◌, List, [], ◌∷◌, length, Option, Some, None, Bool, true, false, refl, ap, arith}
use Rattle.std.specs.Prelude.{if◌then◌else◌}
use Rattle.std.specs.Option.{option_map_or}
use Rattle.std.specs.List.{All}
use Rattle.std.proofs.lemmas.List.Elements.{All-cons, All-nil}
use Rattle.tf_records.specs.declared.transfer.Transfer.{Transfer}
use Rattle.tf_journal.specs.declared.entry.Entry.{Entry}
use Rattle.tf_journal.specs.declared.entry.Entry.TheVariants as entry
use Rattle.tf_journal.specs.Flags.{is_linked, is_settling}
use Rattle.tf_journal.specs.Journal.{timestamp_of}
use Rattle.tf_journal.specs.Lawful.{is_linked_entry}
use Rattle.tf_journal.specs.Lookup.{transfer_with_id}
use Rattle.tf_journal.specs.Stored.{stamped, settled, stored_transfer}
use Rattle.tf_journal.specs.Verdict.{is_transient}
use Rattle.tf_events.specs.Chain.{accounts, transfers}
use Rattle.tf_events.specs.Walk.{KeepsEvents}

pub accounts_keep : KeepsEvents accounts
accounts_keep = record {
  timestamp = λ journal timestamp e. refl;
  linked = λ journal timestamp e. refl;
  one_kind = λ first second s t e f. refl;
  one_left = λ timestamp e o. omega arith;
  left = λ timestamp e o. All-nil (λ x. timestamp_of x ≡ timestamp);
  unlinked = λ timestamp e o. All-nil (λ x. is_linked_entry x ≡ false);
}

-- a stored transfer has its timestamp and the event's flags
pub stored_timestamp : (journal : List Entry) (timestamp : ℕ) (e : Transfer) → (stored_transfer journal timestamp e).timestamp ≡ timestamp
stored_timestamp journal timestamp e = go (is_settling e) (transfer_with_id journal e.pending_id) where
  go : (settling : Bool) (pending : Option Transfer)
      → (if settling then option_map_or (λ p. settled p timestamp e) pending (stamped timestamp e) else stamped timestamp e).timestamp ≡ timestamp
  go true (Some p) = refl
  go true None = refl
  go false pending = refl

stored_flags : (journal : List Entry) (timestamp : ℕ) (e : Transfer) → (stored_transfer journal timestamp e).flags ≡ e.flags
stored_flags journal timestamp e = go (is_settling e) (transfer_with_id journal e.pending_id) where
  go : (settling : Bool) (pending : Option Transfer)
      → (if settling then option_map_or (λ p. settled p timestamp e) pending (stamped timestamp e) else stamped timestamp e).flags ≡ e.flags
  go true (Some p) = refl
  go true None = refl
  go false pending = refl

-- a failure leaves at most the failure of its id, at its timestamp
one_left : (timestamp : ℕ) (e : Transfer) (transient : Bool) → length (if transient then entry.Failed timestamp e.id ∷ [] else []) ≤ 1
one_left timestamp e true = omega arith
one_left timestamp e false = omega arith

left_at : (timestamp : ℕ) (e : Transfer) (transient : Bool) → All (λ x. timestamp_of x ≡ timestamp) (if transient then entry.Failed timestamp e.id ∷ [] else [])
left_at timestamp e true =
    All-cons (λ x. timestamp_of x ≡ timestamp) (entry.Failed timestamp e.id) [] refl (All-nil (λ x. timestamp_of x ≡ timestamp))
left_at timestamp e false = All-nil (λ x. timestamp_of x ≡ timestamp)

left_unlinked : (timestamp : ℕ) (e : Transfer) (transient : Bool) → All (λ x. is_linked_entry x ≡ false) (if transient then entry.Failed timestamp e.id ∷ [] else [])
left_unlinked timestamp e true =
    All-cons (λ x. is_linked_entry x ≡ false) (entry.Failed timestamp e.id) [] refl (All-nil (λ x. is_linked_entry x ≡ false))
left_unlinked timestamp e false = All-nil (λ x. is_linked_entry x ≡ false)

pub transfers_keep : KeepsEvents transfers
transfers_keep = record {
  timestamp = stored_timestamp;
  linked = λ journal timestamp e. ap is_linked (stored_flags journal timestamp e);
  one_kind = λ first second s t e f. refl;
  one_left = λ timestamp e o. one_left timestamp e (is_transient o);
  left = λ timestamp e o. left_at timestamp e (is_transient o);
  unlinked = λ timestamp e o. left_unlinked timestamp e (is_transient o);
}
