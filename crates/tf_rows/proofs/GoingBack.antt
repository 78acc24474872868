-- The edits that take an entry back are right.
use Rattle.std.proofs.Common.{◌≡◌, ℕ, ◌<◌, List, [], ◌∷◌, ◌++◌, map, Option, Some, None, Bool, true, false, not, refl, ap, sym, ◌∙◌, subst, inl, inr}
use Rattle.std.specs.Prelude.{◌==◌, if◌then◌else◌}
use Rattle.std.specs.List.{All, filter_map}
use Rattle.std.specs.Option.{option_map, option_map_or}
use Rattle.std.proofs.lemmas.Bool.{and_from, both_ways, eq-eqb, not_from_false}
use Rattle.std.proofs.lemmas.Option.{none-some, same_Some}
use Rattle.tf_records.specs.declared.account.Account.{Account}
use Rattle.tf_records.specs.declared.transfer.Transfer.{Transfer}
use Rattle.tf_journal.specs.declared.entry.Entry.{Entry}
use Rattle.tf_journal.specs.declared.entry.Entry.TheVariants as entry
use Rattle.tf_journal.specs.declared.side.Side.{Side}
use Rattle.tf_journal.specs.declared.side.Side.TheVariants.{Debit, Credit}
use Rattle.tf_journal.specs.declared.status.Status.{Status}
use Rattle.tf_journal.specs.declared.status.Status.TheVariants as status
use Rattle.tf_journal.specs.Flags.{is_pending, keeps_history}
use Rattle.tf_journal.specs.Journal.{accounts_of, fails, is_failed, timestamp_of, transfers_of}
use Rattle.tf_journal.specs.Lawful.{IsSound}
use Rattle.tf_journal.specs.Ledger.{CanGrow}
use Rattle.tf_journal.specs.Lookup.{account_with_id, transfer_with_id}
use Rattle.tf_journal.specs.Status.{is_open, pending_at, status_of}
use Rattle.tf_journal.proofs.Accepted.{account_is_new, transfer_is_new, transfer_new}
use Rattle.tf_journal.proofs.Settling.{expiry_names, expiry_new}
use Rattle.tf_journal.proofs.Sound.{all_earlier}
use Rattle.tf_table.specs.declared.key.Key.{Key}
use Rattle.tf_manifest.specs.declared.row.Row.{Row}
use Rattle.tf_manifest.specs.declared.row.Row.TheVariants as row
use Rattle.tf_manifest.specs.declared.value.State.{State}
use Rattle.tf_manifest.specs.declared.value.Value.{Value}
use Rattle.tf_manifest.specs.declared.value.Value.TheVariants as value
use Rattle.tf_manifest.specs.Rows.{Pair, failed_pair, for_transfers, key_of, rows_of, state_of}
use Rattle.tf_manifest.proofs.Members.{Has, any_has, chosen_from, has_either, has_left, has_made, has_right, none_has}
use Rattle.tf_manifest.proofs.OneValue.{is_failure}
use Rattle.tf_rows.specs.Back.{edits_back, expired_edits_back, expiry_back, states_back, taken_away, transfer_edits_back}
use Rattle.tf_rows.specs.declared.found.Found.{Found}
use Rattle.tf_rows.specs.declared.found.Party.{Party}
use Rattle.tf_rows.specs.Edits.{Edit, account_edits, expired_edits, expiry_edit, expiry_edits, expiry_key, failed_edits, found_for_expiry, found_for_transfer, gone, history_edit, party_of, present_party, put, state_after, state_edit, state_edits, state_settled, status_edit, status_edits, transfer_edits}
use Rattle.tf_rows.proofs.Changes.{IsChange, IsUntouched}
use Rattle.tf_rows.proofs.Early.{AreAt, AreNew, both_at, early_accounts, early_expired, early_expiries, early_history, early_new, early_statuses, early_transfers, no_new, none_at, one_at, reversed, takes_away}
use Rattle.tf_rows.proofs.Entries.{account_changes, expired_changes, failed_changes, transfer_changes}
use Rattle.tf_rows.proofs.Grown.{id_pair}
use Rattle.tf_rows.proofs.Settled.{Settles, expiring_one, settling_one}
use Rattle.tf_rows.proofs.StateRow.{account_has, states_are}
use Rattle.tf_rows.proofs.Statuses.{expiries_are, is_open_one, one_not_gone, one_there, statuses_are}

-- a row after an entry, back to what it was
abbrev GoesBack : List Entry → Entry → List Edit → Row → Type 0
GoesBack journal e back r = IsChange (rows_of (journal ++ e ∷ []) r) (rows_of journal r) back

-- a new id of an account
pub account_id_new : (journal : List Entry) (id : ℕ) (o : Option Value) → account_with_id journal id ≡ None → AreNew (rows_of journal row.AccountIds) ((key_of id 0, o) ∷ [])
account_id_new journal id o none k p (inr empty) v g = empty
account_id_new journal id o none k p (inl same) v g =
    let made = has_made (λ (b : Account). (key_of b.id 0, value.Stamp b.timestamp)) (accounts_of journal) (k, v) g in
    let own : made.from.id ≡ id = ap (λ (q : Pair). q.0.value) made.is ∙ sym (ap (λ (c : Edit). c.0.value) same) in
    none_has (λ (b : Account). b.id == id) (accounts_of journal) made.from none made.has (eq-eqb made.from.id id own)

-- a new id of a transfer
pub transfer_id_new : (journal : List Entry) (id : ℕ) (o : Option Value) → transfer_with_id journal id ≡ None → is_failed journal id ≡ false
    → AreNew (rows_of journal row.TransferIds) ((key_of id 0, o) ∷ [])
transfer_id_new journal id o not_stored not_failed k p (inr empty) v g = empty
transfer_id_new journal id o not_stored not_failed k p (inl same) v g =
    let at : id ≡ k.value = ap (λ (c : Edit). c.0.value) same in
    elim (has_either (for_transfers journal id_pair) (filter_map failed_pair journal) (k, v) g) [
      | inl stored ↦
          let made = has_made id_pair (transfers_of journal) (k, v) stored in
          let own : made.from.id ≡ id = ap (λ (q : Pair). q.0.value) made.is ∙ sym at in
          none_has (λ (t : Transfer). t.id == id) (transfers_of journal) made.from not_stored made.has (eq-eqb made.from.id id own)
      | inr failed ↦
          let from = chosen_from failed_pair journal (k, v) failed in
          let e = is_failure from.from (k, v) from.is in
          let own : e.id ≡ id = ap (λ (q : Pair). q.0.value) e.pair ∙ sym at in
          both_ways (is_failed journal id) not_failed
          (any_has (fails id) journal from.from from.has (ap (fails id) e.is ∙ eq-eqb e.id id own))
    ]

-- the status of what was settled goes back to open
status_back : (journal : List Entry) (e : Entry) (p : Transfer) (s : Status) → Settles journal e p
    → IsChange (rows_of journal row.PendingStatus) (rows_of (journal ++ e ∷ []) row.PendingStatus) (status_edit s p)
    → GoesBack journal e (status_edit status.Open p) row.PendingStatus
status_back journal e p s settled is =
    let was : Has (rows_of journal row.PendingStatus) (key_of 0 p.timestamp, value.Status status.Open)
    = subst (λ (x : Status). Has (rows_of journal row.PendingStatus) (key_of 0 p.timestamp, value.Status x)) (is_open_one (status_of journal p) settled.before)
    ((statuses_are journal).into p (settled.has, settled.pending)) in
    reversed (rows_of journal row.PendingStatus) (rows_of (journal ++ e ∷ []) row.PendingStatus) (status_edit s p) (status_edit status.Open p) is
    (λ k u o h. elim h [
      | inl same ↦ u (Some (value.Status status.Open)) (inl (ap (λ (c : Edit). put c.0 (value.Status status.Open)) same))
      | inr none ↦ none
    ])
    (one_there (rows_of journal row.PendingStatus) (key_of 0 p.timestamp) (value.Status status.Open) was)
    (λ k v h g. one_not_gone (key_of 0 p.timestamp) (value.Status status.Open) k h)

-- and it stands in expiry again
expiry_returns : (journal : List Entry) (e : Entry) (p : Transfer) → Settles journal e p
    → IsChange (rows_of journal row.Expiry) (rows_of (journal ++ e ∷ []) row.Expiry) (expiry_edit gone p) → GoesBack journal e (expiry_back p) row.Expiry
expiry_returns journal e p settled is = by_timeout (p.timeout == 0) refl is where
  by_timeout : (b : Bool) → (p.timeout == 0) ≡ b → IsChange (rows_of journal row.Expiry) (rows_of (journal ++ e ∷ []) row.Expiry) (if b then [] else gone (expiry_key p) ∷ [])
      → IsChange (rows_of (journal ++ e ∷ []) row.Expiry) (rows_of journal row.Expiry) (if b then [] else put (expiry_key p) value.Unit ∷ [])
  by_timeout true none is =
      reversed (rows_of journal row.Expiry) (rows_of (journal ++ e ∷ []) row.Expiry) [] [] is (λ k u o h. h) (λ k v h. absurd h) (λ k v h g. h)
  by_timeout false some is =
      let was = (expiries_are journal).into p ((settled.has, settled.pending), and_from (not (p.timeout == 0)) (is_open journal p) (not_from_false (p.timeout == 0) some) settled.before) in
      reversed (rows_of journal row.Expiry) (rows_of (journal ++ e ∷ []) row.Expiry) (gone (expiry_key p) ∷ []) (put (expiry_key p) value.Unit ∷ []) is
      (λ k u o h. elim h [
        | inl same ↦ u (Some value.Unit) (inl (ap (λ (c : Edit). put c.0 value.Unit) same))
        | inr none ↦ none
      ])
      (one_there (rows_of journal row.Expiry) (expiry_key p) value.Unit was)
      (λ k v h g. one_not_gone (expiry_key p) value.Unit k h)

-- parties that are found are stored, with their states
abbrev IsRight : List Entry → Option Party → Type 0
IsRight journal o = (party : Party) → o ≡ Some party → Has (accounts_of journal) party.account × (party.state ≡ state_of journal party.account)

party_right : (journal : List Entry) (id : ℕ) → IsRight journal (party_of journal id)
party_right journal id = by_account (account_with_id journal id) refl where
  by_account : (o : Option Account) → account_with_id journal id ≡ o → IsRight journal (option_map (present_party journal) o)
  by_account None none party is = absurd (none-some party is)
  by_account (Some account) stored party is =
      let same : present_party journal account ≡ party = same_Some (present_party journal account) party is in
      subst (λ (p : Party). Has (accounts_of journal) p.account × (p.state ≡ state_of journal p.account)) same (account_has journal id account stored, refl)

one_party : (o : Option Party) (change other : State → State) (k : Key) → IsUntouched (option_map_or (state_edit change) o []) k → IsUntouched (option_map_or (state_edit other) o []) k
one_party None change other k u p h = h
one_party (Some party) change other k u p (inr none) = none
one_party (Some party) change other k u p (inl same) = u (Some (value.State (change party.state))) (inl (ap (λ (c : Edit). put c.0 (value.State (change party.state))) same))

-- edits of states have the keys of the accounts, whatever the states
states_cover : (found : Found) (change other : Side → State → State) (k : Key) → IsUntouched (state_edits found change) k → IsUntouched (state_edits found other) k
states_cover found change other k u p h =
    let debits = option_map_or (state_edit (change Debit)) found.debit [] in
    let credits = option_map_or (state_edit (change Credit)) found.credit [] in
    elim (has_either (option_map_or (state_edit (other Debit)) found.debit []) (option_map_or (state_edit (other Credit)) found.credit []) (k, p) h) [
      | inl debit ↦ one_party found.debit (change Debit) (other Debit) k (λ q g. u q (has_left debits credits (k, q) g)) p debit
      | inr credit ↦ one_party found.credit (change Credit) (other Credit) k (λ q g. u q (has_right debits credits (k, q) g)) p credit
    ]

one_state : (journal : List Entry) (o : Option Party) → IsRight journal o → (k : Key) (v : Value) → Has (option_map_or (state_edit (λ state. state)) o []) (k, Some v) → Has (rows_of journal row.AccountSums) (k, v)
one_state journal None right k v h = absurd h
one_state journal (Some party) right k v h =
    let is = right party refl in
    let was : Has (rows_of journal row.AccountSums) (key_of 0 party.account.timestamp, value.State party.state)
    = subst (λ (s : State). Has (rows_of journal row.AccountSums) (key_of 0 party.account.timestamp, value.State s)) (sym is.1) ((states_are journal).into party.account is.0) in
    one_there (rows_of journal row.AccountSums) (key_of 0 party.account.timestamp) (value.State party.state) was k v h

one_kept : (o : Option Party) (k : Key) → Has (option_map_or (state_edit (λ state. state)) o []) (k, None) → ⊥
one_kept None k h = h
one_kept (Some party) k h = one_not_gone (key_of 0 party.account.timestamp) (value.State party.state) k h

-- the states of the accounts go back
states_return : (journal : List Entry) (e : Entry) (found : Found) (change : Side → State → State) → IsRight journal found.debit → IsRight journal found.credit
    → IsChange (rows_of journal row.AccountSums) (rows_of (journal ++ e ∷ []) row.AccountSums) (state_edits found change) → GoesBack journal e (states_back found) row.AccountSums
states_return journal e found change debit credit is =
    let debits = option_map_or (state_edit (λ state. state)) found.debit [] in
    let credits = option_map_or (state_edit (λ state. state)) found.credit [] in
    reversed (rows_of journal row.AccountSums) (rows_of (journal ++ e ∷ []) row.AccountSums) (state_edits found change) (states_back found) is
    (states_cover found (λ side state. state) change)
    (λ k v h. elim (has_either debits credits (k, Some v) h) [
      | inl d ↦ one_state journal found.debit debit k v d
      | inr c ↦ one_state journal found.credit credit k v c
    ])
    (λ k v h g. elim (has_either debits credits (k, None) h) [
      | inl d ↦ one_kept found.debit k d
      | inr c ↦ one_kept found.credit k c
    ])

-- an account
module _ (journal : List Entry) (a : Account) (sound : IsSound journal) (grows : CanGrow journal (entry.Account a)) where
  account_earlier : All (λ x. timestamp_of x < a.timestamp) journal
  account_earlier = all_earlier journal (entry.Account a) grows.is_journal

  account_unstored : account_with_id journal a.id ≡ None
  account_unstored =
      let same : grows.admitted.event.id ≡ a.id = ap (λ (b : Account). b.id) grows.admitted.stored in
      subst (λ (id : ℕ). account_with_id journal id ≡ None) same (account_is_new journal a.timestamp grows.admitted.event grows.admitted.accepted)

  account_new : (r : Row) → AreNew (rows_of journal r) (account_edits a r)
  account_new row.AccountObjects = early_new a.timestamp (rows_of journal row.AccountObjects) (account_edits a row.AccountObjects) (early_accounts journal a.timestamp account_earlier _ (λ b. refl)) (one_at a.timestamp _ refl)
  account_new row.AccountIds = account_id_new journal a.id (Some (value.Stamp a.timestamp)) account_unstored
  account_new row.AccountUserData128 = early_new a.timestamp (rows_of journal row.AccountUserData128) (account_edits a row.AccountUserData128) (early_accounts journal a.timestamp account_earlier _ (λ b. refl)) (one_at a.timestamp _ refl)
  account_new row.AccountUserData64 = early_new a.timestamp (rows_of journal row.AccountUserData64) (account_edits a row.AccountUserData64) (early_accounts journal a.timestamp account_earlier _ (λ b. refl)) (one_at a.timestamp _ refl)
  account_new row.AccountUserData32 = early_new a.timestamp (rows_of journal row.AccountUserData32) (account_edits a row.AccountUserData32) (early_accounts journal a.timestamp account_earlier _ (λ b. refl)) (one_at a.timestamp _ refl)
  account_new row.AccountLedger = early_new a.timestamp (rows_of journal row.AccountLedger) (account_edits a row.AccountLedger) (early_accounts journal a.timestamp account_earlier _ (λ b. refl)) (one_at a.timestamp _ refl)
  account_new row.AccountCode = early_new a.timestamp (rows_of journal row.AccountCode) (account_edits a row.AccountCode) (early_accounts journal a.timestamp account_earlier _ (λ b. refl)) (one_at a.timestamp _ refl)
  account_new row.AccountSums = early_new a.timestamp (rows_of journal row.AccountSums) (account_edits a row.AccountSums) (early_accounts journal a.timestamp account_earlier _ (λ b. refl)) (one_at a.timestamp _ refl)
  account_new row.TransferObjects = no_new (rows_of journal row.TransferObjects)
  account_new row.TransferIds = no_new (rows_of journal row.TransferIds)
  account_new row.TransferDebit = no_new (rows_of journal row.TransferDebit)
  account_new row.TransferCredit = no_new (rows_of journal row.TransferCredit)
  account_new row.TransferUserData128 = no_new (rows_of journal row.TransferUserData128)
  account_new row.TransferUserData64 = no_new (rows_of journal row.TransferUserData64)
  account_new row.TransferUserData32 = no_new (rows_of journal row.TransferUserData32)
  account_new row.TransferLedger = no_new (rows_of journal row.TransferLedger)
  account_new row.TransferCode = no_new (rows_of journal row.TransferCode)
  account_new row.PendingStatus = no_new (rows_of journal row.PendingStatus)
  account_new row.Expiry = no_new (rows_of journal row.Expiry)
  account_new row.ExpiryEntries = no_new (rows_of journal row.ExpiryEntries)
  account_new row.History = no_new (rows_of journal row.History)

  pub account_back : (r : Row) → GoesBack journal (entry.Account a) (map taken_away (account_edits a r)) r
  account_back r = takes_away (rows_of journal r) (rows_of (journal ++ entry.Account a ∷ []) r) (account_edits a r) (account_changes journal a sound grows r) (account_new r)

-- a failed id
module _ (journal : List Entry) (timestamp id : ℕ) (sound : IsSound journal) (grows : CanGrow journal (entry.Failed timestamp id)) where
  failure_new : (r : Row) → AreNew (rows_of journal r) (failed_edits timestamp id r)
  failure_new row.AccountObjects = no_new (rows_of journal row.AccountObjects)
  failure_new row.AccountIds = no_new (rows_of journal row.AccountIds)
  failure_new row.AccountUserData128 = no_new (rows_of journal row.AccountUserData128)
  failure_new row.AccountUserData64 = no_new (rows_of journal row.AccountUserData64)
  failure_new row.AccountUserData32 = no_new (rows_of journal row.AccountUserData32)
  failure_new row.AccountLedger = no_new (rows_of journal row.AccountLedger)
  failure_new row.AccountCode = no_new (rows_of journal row.AccountCode)
  failure_new row.AccountSums = no_new (rows_of journal row.AccountSums)
  failure_new row.TransferObjects = no_new (rows_of journal row.TransferObjects)
  failure_new row.TransferIds = transfer_id_new journal id (Some (value.FailedAt timestamp)) grows.admitted.not_stored grows.admitted.not_failed
  failure_new row.TransferDebit = no_new (rows_of journal row.TransferDebit)
  failure_new row.TransferCredit = no_new (rows_of journal row.TransferCredit)
  failure_new row.TransferUserData128 = no_new (rows_of journal row.TransferUserData128)
  failure_new row.TransferUserData64 = no_new (rows_of journal row.TransferUserData64)
  failure_new row.TransferUserData32 = no_new (rows_of journal row.TransferUserData32)
  failure_new row.TransferLedger = no_new (rows_of journal row.TransferLedger)
  failure_new row.TransferCode = no_new (rows_of journal row.TransferCode)
  failure_new row.PendingStatus = no_new (rows_of journal row.PendingStatus)
  failure_new row.Expiry = no_new (rows_of journal row.Expiry)
  failure_new row.ExpiryEntries = no_new (rows_of journal row.ExpiryEntries)
  failure_new row.History = no_new (rows_of journal row.History)

  pub failed_back : (r : Row) → GoesBack journal (entry.Failed timestamp id) (map taken_away (failed_edits timestamp id r)) r
  failed_back r = takes_away (rows_of journal r) (rows_of (journal ++ entry.Failed timestamp id ∷ []) r) (failed_edits timestamp id r) (failed_changes journal timestamp id sound grows r) (failure_new r)

-- an expiry
module _ (journal : List Entry) (timestamp pending : ℕ) (sound : IsSound journal) (grows : CanGrow journal (entry.Expiry timestamp pending)) where
  abbrev expired : Entry
  expired = entry.Expiry timestamp pending

  abbrev expiring : Found
  expiring = found_for_expiry journal (pending_at journal pending)

  -- a row that depends on the pending transfer
  expired_row : (r : Row) → ((p : Transfer) → Settles journal (entry.Expiry timestamp pending) p
      → IsChange (rows_of journal r) (rows_of (journal ++ entry.Expiry timestamp pending ∷ []) r) (expired_edits (found_for_expiry journal (Some p)) timestamp pending r)
      → GoesBack journal (entry.Expiry timestamp pending) (expired_edits_back (found_for_expiry journal (Some p)) timestamp pending r) r)
      → GoesBack journal (entry.Expiry timestamp pending) (expired_edits_back expiring timestamp pending r) r
  expired_row r back =
      let new = expiry_new journal timestamp pending grows.admitted in
      let names = expiry_names journal timestamp pending sound new in
      subst (λ (o : Option Transfer). GoesBack journal (entry.Expiry timestamp pending) (expired_edits_back (found_for_expiry journal o) timestamp pending r) r) (sym names)
      (back new.transfer (expiring_one journal timestamp pending sound new)
      (subst (λ (o : Option Transfer). IsChange (rows_of journal r) (rows_of (journal ++ entry.Expiry timestamp pending ∷ []) r) (expired_edits (found_for_expiry journal o) timestamp pending r)) names (expired_changes journal timestamp pending sound grows r)))

  expired_taken : (r : Row) → AreNew (rows_of journal r) (expired_edits expiring timestamp pending r) → GoesBack journal (entry.Expiry timestamp pending) (map taken_away (expired_edits expiring timestamp pending r)) r
  expired_taken r new = takes_away (rows_of journal r) (rows_of (journal ++ entry.Expiry timestamp pending ∷ []) r) (expired_edits expiring timestamp pending r) (expired_changes journal timestamp pending sound grows r) new

  pub expired_back : (r : Row) → GoesBack journal (entry.Expiry timestamp pending) (expired_edits_back expiring timestamp pending r) r
  expired_back row.AccountObjects = expired_taken row.AccountObjects (no_new (rows_of journal row.AccountObjects))
  expired_back row.AccountIds = expired_taken row.AccountIds (no_new (rows_of journal row.AccountIds))
  expired_back row.AccountUserData128 = expired_taken row.AccountUserData128 (no_new (rows_of journal row.AccountUserData128))
  expired_back row.AccountUserData64 = expired_taken row.AccountUserData64 (no_new (rows_of journal row.AccountUserData64))
  expired_back row.AccountUserData32 = expired_taken row.AccountUserData32 (no_new (rows_of journal row.AccountUserData32))
  expired_back row.AccountLedger = expired_taken row.AccountLedger (no_new (rows_of journal row.AccountLedger))
  expired_back row.AccountCode = expired_taken row.AccountCode (no_new (rows_of journal row.AccountCode))
  expired_back row.AccountSums = expired_row row.AccountSums (λ p settled is.
      states_return journal expired (found_for_expiry journal (Some p)) (λ side. state_settled side p 0) (party_right journal p.debit_account_id) (party_right journal p.credit_account_id) is)
  expired_back row.TransferObjects = expired_taken row.TransferObjects (no_new (rows_of journal row.TransferObjects))
  expired_back row.TransferIds = expired_taken row.TransferIds (no_new (rows_of journal row.TransferIds))
  expired_back row.TransferDebit = expired_taken row.TransferDebit (no_new (rows_of journal row.TransferDebit))
  expired_back row.TransferCredit = expired_taken row.TransferCredit (no_new (rows_of journal row.TransferCredit))
  expired_back row.TransferUserData128 = expired_taken row.TransferUserData128 (no_new (rows_of journal row.TransferUserData128))
  expired_back row.TransferUserData64 = expired_taken row.TransferUserData64 (no_new (rows_of journal row.TransferUserData64))
  expired_back row.TransferUserData32 = expired_taken row.TransferUserData32 (no_new (rows_of journal row.TransferUserData32))
  expired_back row.TransferLedger = expired_taken row.TransferLedger (no_new (rows_of journal row.TransferLedger))
  expired_back row.TransferCode = expired_taken row.TransferCode (no_new (rows_of journal row.TransferCode))
  expired_back row.PendingStatus = expired_row row.PendingStatus (λ p settled is. status_back journal expired p status.Expired settled is)
  expired_back row.Expiry = expired_row row.Expiry (λ p settled is. expiry_returns journal expired p settled is)
  expired_back row.ExpiryEntries =
      expired_taken row.ExpiryEntries
      (early_new timestamp (rows_of journal row.ExpiryEntries) (expired_edits expiring timestamp pending row.ExpiryEntries) (early_expired journal timestamp (all_earlier journal expired grows.is_journal)) (one_at timestamp _ refl))
  expired_back row.History = expired_taken row.History (no_new (rows_of journal row.History))

-- the edits of history are at the transfer's timestamp
history_at : (t : Transfer) (change : State → State) (o : Option Party) → AreAt t.timestamp (option_map_or (history_edit t change) o [])
history_at t change None = none_at t.timestamp
history_at t change (Some party) = by_flag (keeps_history party.account) where
  by_flag : (b : Bool) → AreAt t.timestamp (if b then put (key_of party.account.id t.timestamp) (value.Sums (change party.state).sums) ∷ [] else [])
  by_flag true = one_at t.timestamp _ refl
  by_flag false = none_at t.timestamp

status_at : (t : Transfer) → AreAt t.timestamp (status_edits t None)
status_at t = by_flag (is_pending t) where
  by_flag : (b : Bool) → AreAt t.timestamp (if b then status_edit status.Open t else [])
  by_flag true = one_at t.timestamp _ refl
  by_flag false = none_at t.timestamp

expiry_at : (t : Transfer) → AreAt t.timestamp (expiry_edits t None)
expiry_at t = by_flag (is_pending t) (t.timeout == 0) where
  by_flag : (b c : Bool) → AreAt t.timestamp (if b then (if c then [] else put (expiry_key t) value.Unit ∷ []) else [])
  by_flag true true = none_at t.timestamp
  by_flag true false = one_at t.timestamp _ refl
  by_flag false c = none_at t.timestamp

-- a transfer
module _ (journal : List Entry) (t : Transfer) (sound : IsSound journal) (grows : CanGrow journal (entry.Transfer t)) where
  abbrev looked_up : Found
  looked_up = found_for_transfer journal t

  transfer_earlier : All (λ x. timestamp_of x < t.timestamp) journal
  transfer_earlier = all_earlier journal (entry.Transfer t) grows.is_journal

  transfer_taken : (r : Row) → AreNew (rows_of journal r) (transfer_edits looked_up t r) → GoesBack journal (entry.Transfer t) (map taken_away (transfer_edits looked_up t r)) r
  transfer_taken r new = takes_away (rows_of journal r) (rows_of (journal ++ entry.Transfer t ∷ []) r) (transfer_edits looked_up t r) (transfer_changes journal t sound grows r) new

  statuses_return : (settled : Option Transfer) → ((p : Transfer) → settled ≡ Some p → Settles journal (entry.Transfer t) p)
      → IsChange (rows_of journal row.PendingStatus) (rows_of (journal ++ entry.Transfer t ∷ []) row.PendingStatus) (status_edits t settled)
      → GoesBack journal (entry.Transfer t) (option_map_or (status_edit status.Open) settled (map taken_away (status_edits t settled))) row.PendingStatus
  statuses_return None settles is =
      takes_away (rows_of journal row.PendingStatus) (rows_of (journal ++ entry.Transfer t ∷ []) row.PendingStatus) (status_edits t None) is
      (early_new t.timestamp (rows_of journal row.PendingStatus) (status_edits t None) (early_statuses journal t.timestamp transfer_earlier) (status_at t))
  statuses_return (Some p) settles is = status_back journal (entry.Transfer t) p _ (settles p refl) is

  expiries_return : (settled : Option Transfer) → ((p : Transfer) → settled ≡ Some p → Settles journal (entry.Transfer t) p)
      → IsChange (rows_of journal row.Expiry) (rows_of (journal ++ entry.Transfer t ∷ []) row.Expiry) (expiry_edits t settled)
      → GoesBack journal (entry.Transfer t) (option_map_or expiry_back settled (map taken_away (expiry_edits t settled))) row.Expiry
  expiries_return None settles is =
      takes_away (rows_of journal row.Expiry) (rows_of (journal ++ entry.Transfer t ∷ []) row.Expiry) (expiry_edits t None) is
      (early_new t.timestamp (rows_of journal row.Expiry) (expiry_edits t None) (early_expiries journal t.timestamp transfer_earlier) (expiry_at t))
  expiries_return (Some p) settles is = expiry_returns journal (entry.Transfer t) p (settles p refl) is

  -- what is found to be settled is
  settles_found : (p : Transfer) → (found_for_transfer journal t).settled ≡ Some p → Settles journal (entry.Transfer t) p
  settles_found p is = elim (transfer_new journal t grows.admitted) [
    | inl new ↦
        let named = ap (λ (b : Bool). if b then transfer_with_id journal t.pending_id else None) new.settling ∙ new.named in
        subst (Settles journal (entry.Transfer t)) (same_Some new.pending p (sym named ∙ is)) (settling_one journal t sound new)
    | inr new ↦
        let none = ap (λ (b : Bool). if b then transfer_with_id journal t.pending_id else None) new.moving in
        absurd (none-some p (sym none ∙ is))
  ]

  pub transfer_back : (r : Row) → GoesBack journal (entry.Transfer t) (transfer_edits_back looked_up t r) r
  transfer_back row.AccountObjects = transfer_taken row.AccountObjects (no_new (rows_of journal row.AccountObjects))
  transfer_back row.AccountIds = transfer_taken row.AccountIds (no_new (rows_of journal row.AccountIds))
  transfer_back row.AccountUserData128 = transfer_taken row.AccountUserData128 (no_new (rows_of journal row.AccountUserData128))
  transfer_back row.AccountUserData64 = transfer_taken row.AccountUserData64 (no_new (rows_of journal row.AccountUserData64))
  transfer_back row.AccountUserData32 = transfer_taken row.AccountUserData32 (no_new (rows_of journal row.AccountUserData32))
  transfer_back row.AccountLedger = transfer_taken row.AccountLedger (no_new (rows_of journal row.AccountLedger))
  transfer_back row.AccountCode = transfer_taken row.AccountCode (no_new (rows_of journal row.AccountCode))
  transfer_back row.AccountSums =
      states_return journal (entry.Transfer t) looked_up (λ side. state_after side t (found_for_transfer journal t).settled) (party_right journal t.debit_account_id) (party_right journal t.credit_account_id) (transfer_changes journal t sound grows row.AccountSums)
  transfer_back row.TransferObjects = transfer_taken row.TransferObjects (early_new t.timestamp (rows_of journal row.TransferObjects) (transfer_edits looked_up t row.TransferObjects) (early_transfers journal t.timestamp transfer_earlier _ (λ u. refl)) (one_at t.timestamp _ refl))
  transfer_back row.TransferIds =
      let new = transfer_is_new journal t grows.admitted in
      transfer_taken row.TransferIds (transfer_id_new journal t.id (Some (value.Stamp t.timestamp)) new.not_stored new.not_failed)
  transfer_back row.TransferDebit = transfer_taken row.TransferDebit (early_new t.timestamp (rows_of journal row.TransferDebit) (transfer_edits looked_up t row.TransferDebit) (early_transfers journal t.timestamp transfer_earlier _ (λ u. refl)) (one_at t.timestamp _ refl))
  transfer_back row.TransferCredit = transfer_taken row.TransferCredit (early_new t.timestamp (rows_of journal row.TransferCredit) (transfer_edits looked_up t row.TransferCredit) (early_transfers journal t.timestamp transfer_earlier _ (λ u. refl)) (one_at t.timestamp _ refl))
  transfer_back row.TransferUserData128 = transfer_taken row.TransferUserData128 (early_new t.timestamp (rows_of journal row.TransferUserData128) (transfer_edits looked_up t row.TransferUserData128) (early_transfers journal t.timestamp transfer_earlier _ (λ u. refl)) (one_at t.timestamp _ refl))
  transfer_back row.TransferUserData64 = transfer_taken row.TransferUserData64 (early_new t.timestamp (rows_of journal row.TransferUserData64) (transfer_edits looked_up t row.TransferUserData64) (early_transfers journal t.timestamp transfer_earlier _ (λ u. refl)) (one_at t.timestamp _ refl))
  transfer_back row.TransferUserData32 = transfer_taken row.TransferUserData32 (early_new t.timestamp (rows_of journal row.TransferUserData32) (transfer_edits looked_up t row.TransferUserData32) (early_transfers journal t.timestamp transfer_earlier _ (λ u. refl)) (one_at t.timestamp _ refl))
  transfer_back row.TransferLedger = transfer_taken row.TransferLedger (early_new t.timestamp (rows_of journal row.TransferLedger) (transfer_edits looked_up t row.TransferLedger) (early_transfers journal t.timestamp transfer_earlier _ (λ u. refl)) (one_at t.timestamp _ refl))
  transfer_back row.TransferCode = transfer_taken row.TransferCode (early_new t.timestamp (rows_of journal row.TransferCode) (transfer_edits looked_up t row.TransferCode) (early_transfers journal t.timestamp transfer_earlier _ (λ u. refl)) (one_at t.timestamp _ refl))
  transfer_back row.PendingStatus = statuses_return (found_for_transfer journal t).settled settles_found (transfer_changes journal t sound grows row.PendingStatus)
  transfer_back row.Expiry = expiries_return (found_for_transfer journal t).settled settles_found (transfer_changes journal t sound grows row.Expiry)
  transfer_back row.ExpiryEntries = transfer_taken row.ExpiryEntries (no_new (rows_of journal row.ExpiryEntries))
  transfer_back row.History =
      transfer_taken row.History
      (early_new t.timestamp (rows_of journal row.History) (transfer_edits looked_up t row.History) (early_history journal t.timestamp transfer_earlier)
      (both_at t.timestamp (option_map_or (history_edit t (state_after Debit t (found_for_transfer journal t).settled)) looked_up.debit [])
      (option_map_or (history_edit t (state_after Credit t (found_for_transfer journal t).settled)) looked_up.credit [])
      (history_at t (state_after Debit t (found_for_transfer journal t).settled) looked_up.debit)
      (history_at t (state_after Credit t (found_for_transfer journal t).settled) looked_up.credit)))

-- each row goes back after any entry
pub entry_back : (journal : List Entry) (e : Entry) → IsSound journal → CanGrow journal e → (r : Row) → IsChange (rows_of (journal ++ e ∷ []) r) (rows_of journal r) (edits_back journal e r)
entry_back journal (entry.Account a) sound grows = account_back journal a sound grows
entry_back journal (entry.Transfer t) sound grows = transfer_back journal t sound grows
entry_back journal (entry.Expiry timestamp pending) sound grows = expired_back journal timestamp pending sound grows
entry_back journal (entry.Failed timestamp id) sound grows = failed_back journal timestamp id sound grows
