-- Look-ups in rows that show a journal are those of the journal.
use Rattle.std.proofs.Common.{◌≡◌, ℕ, List, [], ◌∷◌, Option, Some, None, Bool, true, false, refl, ap, sym, ◌∙◌, subst, inl, inr}
use Rattle.std.specs.Prelude.{◌==◌, ◌&&◌, ◌||◌, if◌then◌else◌}
use Rattle.std.specs.List.{filter_map}
use Rattle.std.specs.Option.{option_and_then, option_map, option_map_or}
use Rattle.std.proofs.lemmas.Bool.{and_from, and_parts, cases_Bool, eq-eqb, eqb-true}
use Rattle.tf_records.specs.declared.account.Account.{Account}
use Rattle.tf_records.specs.declared.transfer.Transfer.{Transfer}
use Rattle.tf_journal.specs.declared.entry.Entry.{Entry}
use Rattle.tf_journal.specs.declared.entry.Entry.TheVariants as entry
use Rattle.tf_journal.specs.declared.id_use.IdUse.TheVariants.{Free, Failed, Stored}
use Rattle.tf_journal.specs.Flags.{is_pending, is_settling}
use Rattle.tf_journal.specs.Journal.{accounts_of, is_failed, transfers_of}
use Rattle.tf_journal.specs.Lawful.{IsSound}
use Rattle.tf_journal.specs.Lookup.{account_with_id, id_use_of, shown, shown_with_id, transfer_with_id, unstored_use}
use Rattle.tf_journal.specs.Status.{pending_at, status_at, status_of}
use Rattle.tf_journal.proofs.Lists.{find_passes}
use Rattle.tf_table.specs.declared.key.Key.{Key}
use Rattle.tf_manifest.specs.declared.row.Row.{Row}
use Rattle.tf_manifest.specs.declared.row.Row.TheVariants as row
use Rattle.tf_manifest.specs.declared.value.Value.{Value}
use Rattle.tf_manifest.specs.declared.value.Value.TheVariants as value
use Rattle.tf_manifest.specs.Rows.{Pair, failed_pair, for_transfers, key_of, rows_of, state_of}
use Rattle.tf_manifest.specs.Shows.{Content, Shows}
use Rattle.tf_manifest.proofs.Members.{Has, has_chosen, has_left, has_made, has_map, has_right, none_has}
use Rattle.tf_manifest.proofs.OneValue.{contained, has_at}
use Rattle.tf_rows.specs.declared.found.Found.{Found}
use Rattle.tf_rows.specs.declared.found.Party.{Party}
use Rattle.tf_rows.specs.Edits.{found_by_expiry, found_by_transfer, found_for, party_of, present_party}
use Rattle.tf_rows.specs.LookUps.{account_at, account_read, as_account, as_stamp, as_state, as_status, as_transfer, found_read, if_pending, party_read, party_with, pending_read, shown_party, shown_read, state_read, status_read, stored_in, transfer_at, transfer_read, use_by, use_read, with_state_read}
use Rattle.tf_rows.proofs.GoingBack.{account_id_new, transfer_id_new}
use Rattle.tf_rows.proofs.Changes.{RowsAreMaps, no_value}
use Rattle.tf_rows.proofs.Grown.{id_pair}
use Rattle.tf_rows.proofs.Settled.{found_has}
use Rattle.tf_rows.proofs.Statuses.{statuses_are}
use Rattle.tf_rows.proofs.StateRow.{account_has, account_id, states_are}

-- where an id failed there is an entry that says so
failed_has : (id : ℕ) (journal : List Entry) → is_failed journal id ≡ true → (timestamp : ℕ) × Has journal (entry.Failed timestamp id)
failed_has id [] is = cc
failed_has id (entry.Account a ∷ journal) is = let rest = failed_has id journal is in (rest.0, inr rest.1)
failed_has id (entry.Transfer t ∷ journal) is = let rest = failed_has id journal is in (rest.0, inr rest.1)
failed_has id (entry.Expiry timestamp pending ∷ journal) is = let rest = failed_has id journal is in (rest.0, inr rest.1)
failed_has id (entry.Failed timestamp failed ∷ journal) is = by_test (failed == id) refl is (failed_has id journal) where
  by_test : (b : Bool) → (failed == id) ≡ b → (b || is_failed journal id) ≡ true → (is_failed journal id ≡ true → (moment : ℕ) × Has journal (entry.Failed moment id))
      → (moment : ℕ) × Has (entry.Failed timestamp failed ∷ journal) (entry.Failed moment id)
  by_test true same all rest = (timestamp, inl (ap (λ (n : ℕ). entry.Failed timestamp n) (eqb-true failed id same)))
  by_test false other all rest = let found = rest all in (found.0, inr found.1)

abbrev with_found : Option Party → Option Party → Option Transfer → Found
with_found debit credit settled = record { debit = debit; credit = credit; settled = settled }

module _ (maps : RowsAreMaps) (content : Content) (journal : List Entry) (sound : IsSound journal) (shows : Shows content journal) where
  -- what the rows have is that of a pair
  read_there : (r : Row) (k : Key) (v : Value) → Has (rows_of journal r) (k, v) → content r k ≡ Some v
  read_there r k v h = shows r k ∙ (maps journal sound r k v).0 (contained (rows_of journal r) (k, v) h)

  read_back : (r : Row) (k : Key) (v : Value) → content r k ≡ Some v → Has (rows_of journal r) (k, v)
  read_back r k v e = let at = (maps journal sound r k v).1 (sym (shows r k) ∙ e) in has_at (rows_of journal r) at.0 (k, v) at.1 at.2

  read_none : (r : Row) (k : Key) → ((v : Value) → Has (rows_of journal r) (k, v) → ⊥) → content r k ≡ None
  read_none r k none = no_value (content r k) (λ v e. none v (read_back r k v e))

  account_object : (a : Account) → Has (accounts_of journal) a → content row.AccountObjects (key_of 0 a.timestamp) ≡ Some (value.Account a)
  account_object a h = read_there row.AccountObjects (key_of 0 a.timestamp) (value.Account a) (has_map (λ (b : Account). (key_of 0 b.timestamp, value.Account b)) (accounts_of journal) a h)

  account_is_read : (id : ℕ) → account_read content id ≡ account_with_id journal id
  account_is_read id = by_account (account_with_id journal id) refl where
    by_account : (o : Option Account) → account_with_id journal id ≡ o → option_and_then (account_at content) (option_and_then as_stamp (content row.AccountIds (key_of id 0))) ≡ account_with_id journal id
    by_account None none =
        ap (λ (o : Option Value). option_and_then (account_at content) (option_and_then as_stamp o))
        (read_none row.AccountIds (key_of id 0) (λ v h. account_id_new journal id None none (key_of id 0) None (inl refl) v h))
        ∙ sym none
    by_account (Some a) stored =
        let has = account_has journal id a stored in
        let stamp = read_there row.AccountIds (key_of a.id 0) (value.Stamp a.timestamp) (has_map (λ (b : Account). (key_of b.id 0, value.Stamp b.timestamp)) (accounts_of journal) a has) in
        let at : content row.AccountIds (key_of id 0) ≡ Some (value.Stamp a.timestamp) = subst (λ (n : ℕ). content row.AccountIds (key_of n 0) ≡ Some (value.Stamp a.timestamp)) (account_id journal id a stored) stamp in
        ap (λ (o : Option Value). option_and_then (account_at content) (option_and_then as_stamp o)) at
        ∙ ap (option_and_then as_account) (account_object a has) ∙ sym stored

  state_is_read : (a : Account) → Has (accounts_of journal) a → state_read content a ≡ Some (state_of journal a)
  state_is_read a h = ap (option_and_then as_state) (read_there row.AccountSums (key_of 0 a.timestamp) (value.State (state_of journal a)) ((states_are journal).into a h))

  pub party_is_read : (id : ℕ) → party_read content id ≡ party_of journal id
  party_is_read id = ap (option_and_then (with_state_read content)) (account_is_read id) ∙ by_account (account_with_id journal id) refl where
    by_account : (o : Option Account) → account_with_id journal id ≡ o → option_and_then (with_state_read content) o ≡ option_map (present_party journal) o
    by_account None none = refl
    by_account (Some a) stored = ap (option_map (party_with a)) (state_is_read a (account_has journal id a stored))

  transfer_object : (t : Transfer) → Has (transfers_of journal) t → content row.TransferObjects (key_of 0 t.timestamp) ≡ Some (value.Transfer t)
  transfer_object t h = read_there row.TransferObjects (key_of 0 t.timestamp) (value.Transfer t) (has_map (λ (u : Transfer). (key_of 0 u.timestamp, value.Transfer u)) (transfers_of journal) t h)

  pub transfer_is_at : (t : Transfer) → Has (transfers_of journal) t → transfer_at content t.timestamp ≡ Some t
  transfer_is_at t h = ap (option_and_then as_transfer) (transfer_object t h)

  -- the use of an id, by whether a transfer has it and whether it failed
  stored_use : (id : ℕ) (t : Transfer) → transfer_with_id journal id ≡ Some t → use_read content id ≡ Stored t
  stored_use id t stored =
      let has = found_has (λ (u : Transfer). u.id == id) (transfers_of journal) t stored in
      let own = eqb-true t.id id (find_passes (λ (u : Transfer). u.id == id) (transfers_of journal) t stored) in
      let stamp = read_there row.TransferIds (key_of t.id 0) (value.Stamp t.timestamp) (has_left (for_transfers journal id_pair) (filter_map failed_pair journal) (key_of t.id 0, value.Stamp t.timestamp) (has_map id_pair (transfers_of journal) t has)) in
      let at : content row.TransferIds (key_of id 0) ≡ Some (value.Stamp t.timestamp) = subst (λ (n : ℕ). content row.TransferIds (key_of n 0) ≡ Some (value.Stamp t.timestamp)) own stamp in
      ap (use_by content) at ∙ ap (λ (o : Option Transfer). option_map_or Stored o Free) (transfer_is_at t has)

  failed_use : (id : ℕ) → is_failed journal id ≡ true → use_read content id ≡ Failed
  failed_use id failed =
      let found = failed_has id journal failed in
      let pair = has_chosen failed_pair journal (entry.Failed found.0 id) (key_of id 0, value.FailedAt found.0) found.1 refl in
      ap (use_by content) (read_there row.TransferIds (key_of id 0) (value.FailedAt found.0) (has_right (for_transfers journal id_pair) (filter_map failed_pair journal) (key_of id 0, value.FailedAt found.0) pair))

  free_use : (id : ℕ) → transfer_with_id journal id ≡ None → is_failed journal id ≡ false → use_read content id ≡ Free
  free_use id none not_failed =
      ap (use_by content) (read_none row.TransferIds (key_of id 0) (λ v h. transfer_id_new journal id None none not_failed (key_of id 0) None (inl refl) v h))

  pub use_is_read : (id : ℕ) → use_read content id ≡ id_use_of journal id
  use_is_read id = by_transfer (transfer_with_id journal id) refl (is_failed journal id) refl where
    by_transfer : (o : Option Transfer) → transfer_with_id journal id ≡ o → (b : Bool) → is_failed journal id ≡ b → use_read content id ≡ option_map_or Stored (transfer_with_id journal id) (unstored_use (is_failed journal id))
    by_transfer (Some t) stored b failed =
        stored_use id t stored ∙ sym (ap (λ (o : Option Transfer). option_map_or Stored o (unstored_use (is_failed journal id))) stored)
    by_transfer None none true failed =
        failed_use id failed
        ∙ sym (ap (λ (o : Option Transfer). option_map_or Stored o (unstored_use (is_failed journal id))) none ∙ ap unstored_use failed)
    by_transfer None none false not_failed =
        free_use id none not_failed
        ∙ sym (ap (λ (o : Option Transfer). option_map_or Stored o (unstored_use (is_failed journal id))) none ∙ ap unstored_use not_failed)

  pub transfer_is_read : (id : ℕ) → transfer_read content id ≡ transfer_with_id journal id
  transfer_is_read id = ap stored_in (use_is_read id) ∙ by_transfer (transfer_with_id journal id) (is_failed journal id) where
    by_transfer : (o : Option Transfer) (b : Bool) → stored_in (option_map_or Stored o (unstored_use b)) ≡ o
    by_transfer (Some t) b = refl
    by_transfer None true = refl
    by_transfer None false = refl

  abbrev pending_here : ℕ → Transfer → Bool
  pending_here timestamp t = is_pending t && t.timestamp == timestamp

  none_pending : (timestamp : ℕ) → pending_at journal timestamp ≡ None → (o : Option Value) → content row.TransferObjects (key_of 0 timestamp) ≡ o → option_and_then if_pending (option_and_then as_transfer o) ≡ None
  none_pending timestamp none None e = refl
  none_pending timestamp none (Some v) e =
      let made = has_made (λ (u : Transfer). (key_of 0 u.timestamp, value.Transfer u)) (transfers_of journal) (key_of 0 timestamp, v) (read_back row.TransferObjects (key_of 0 timestamp) v e) in
      let t = made.from in
      let at : t.timestamp ≡ timestamp = ap (λ (p : Pair). p.0.timestamp) made.is in
      let is : v ≡ value.Transfer t = sym (ap (λ (p : Pair). p.1) made.is) in
      ap (λ (w : Value). option_and_then if_pending (as_transfer w)) is
      ∙ elim (cases_Bool (is_pending t)) [
        | inl pending ↦ absurd (none_has (λ (u : Transfer). is_pending u && u.timestamp == timestamp) (transfers_of journal) t none made.has (and_from (is_pending t) (t.timestamp == timestamp) pending (eq-eqb t.timestamp timestamp at)))
        | inr other ↦ ap (λ (b : Bool). if b then Some t else None) other
      ]

  pub pending_is_read : (timestamp : ℕ) → pending_read content timestamp ≡ pending_at journal timestamp
  pending_is_read timestamp = by_pending (pending_at journal timestamp) refl where
    by_pending : (o : Option Transfer) → pending_at journal timestamp ≡ o → option_and_then if_pending (transfer_at content timestamp) ≡ pending_at journal timestamp
    by_pending None none = none_pending timestamp none (content row.TransferObjects (key_of 0 timestamp)) refl ∙ sym none
    by_pending (Some p) found =
        let has = found_has (λ (u : Transfer). is_pending u && u.timestamp == timestamp) (transfers_of journal) p found in
        let parts = and_parts (is_pending p) (p.timestamp == timestamp) (find_passes (λ (u : Transfer). is_pending u && u.timestamp == timestamp) (transfers_of journal) p found) in
        let at = eqb-true p.timestamp timestamp parts.1 in
        let read = subst (λ (n : ℕ). transfer_at content n ≡ Some p) at (transfer_is_at p has) in
        ap (option_and_then if_pending) read ∙ ap (λ (b : Bool). if b then Some p else None) parts.0 ∙ sym found

  pub shown_is_read : (id : ℕ) → shown_read content id ≡ shown_with_id journal id
  shown_is_read id = ap (option_map shown_party) (party_is_read id) ∙ by_account (account_with_id journal id) where
    by_account : (o : Option Account) → option_map shown_party (option_map (present_party journal) o) ≡ option_map (shown journal) o
    by_account None = refl
    by_account (Some a) = refl

  pub status_is_read : (timestamp : ℕ) → status_read content timestamp ≡ status_at journal timestamp
  status_is_read timestamp = by_pending (pending_at journal timestamp) refl where
    by_pending : (o : Option Transfer) → pending_at journal timestamp ≡ o → option_and_then as_status (content row.PendingStatus (key_of 0 timestamp)) ≡ option_map (status_of journal) (pending_at journal timestamp)
    by_pending None none =
        ap (option_and_then as_status) (read_none row.PendingStatus (key_of 0 timestamp) (λ v h.
        let element = (statuses_are journal).from (key_of 0 timestamp, v) h in
        let t = element.from in
        let at : t.timestamp ≡ timestamp = ap (λ (p : Pair). p.0.timestamp) element.is in
        none_has (λ (u : Transfer). is_pending u && u.timestamp == timestamp) (transfers_of journal) t none element.has.0 (and_from (is_pending t) (t.timestamp == timestamp) element.has.1 (eq-eqb t.timestamp timestamp at))))
        ∙ sym (ap (option_map (status_of journal)) none)
    by_pending (Some p) found =
        let has = found_has (λ (u : Transfer). is_pending u && u.timestamp == timestamp) (transfers_of journal) p found in
        let parts = and_parts (is_pending p) (p.timestamp == timestamp) (find_passes (λ (u : Transfer). is_pending u && u.timestamp == timestamp) (transfers_of journal) p found) in
        let at = eqb-true p.timestamp timestamp parts.1 in
        let there = read_there row.PendingStatus (key_of 0 p.timestamp) (value.Status (status_of journal p)) ((statuses_are journal).into p (has, parts.0)) in
        let read = subst (λ (n : ℕ). content row.PendingStatus (key_of 0 n) ≡ Some (value.Status (status_of journal p))) at there in
        ap (option_and_then as_status) read ∙ sym (ap (option_map (status_of journal)) found)

  found_by_transfer_is : (t : Transfer) → found_by_transfer (party_read content) (transfer_read content) t ≡ found_by_transfer (party_of journal) (transfer_with_id journal) t
  found_by_transfer_is t =
      ap (λ (o : Option Party). with_found o (party_read content t.credit_account_id) (if is_settling t then transfer_read content t.pending_id else None)) (party_is_read t.debit_account_id)
      ∙ ap (λ (o : Option Party). with_found (party_of journal t.debit_account_id) o (if is_settling t then transfer_read content t.pending_id else None)) (party_is_read t.credit_account_id)
      ∙ ap (λ (o : Option Transfer). with_found (party_of journal t.debit_account_id) (party_of journal t.credit_account_id) (if is_settling t then o else None)) (transfer_is_read t.pending_id)

  found_by_expiry_is : (o : Option Transfer) → found_by_expiry (party_read content) o ≡ found_by_expiry (party_of journal) o
  found_by_expiry_is None = refl
  found_by_expiry_is (Some p) =
      ap (λ (o : Option Party). with_found o (party_read content p.credit_account_id) (Some p)) (party_is_read p.debit_account_id)
      ∙ ap (λ (o : Option Party). with_found (party_of journal p.debit_account_id) o (Some p)) (party_is_read p.credit_account_id)

  pub found_is_read : (e : Entry) → found_read content e ≡ found_for journal e
  found_is_read (entry.Account a) = refl
  found_is_read (entry.Transfer t) = found_by_transfer_is t
  found_is_read (entry.Expiry timestamp pending) =
      ap (found_by_expiry (party_read content)) (pending_is_read pending) ∙ found_by_expiry_is (pending_at journal pending)
  found_is_read (entry.Failed timestamp id) = refl
