-- What each kind of entry changes in each row.
use Rattle.std.proofs.Common.{◌≡◌, ◌≢◌, ℕ, List, [], ◌∷◌, ◌++◌, map, Option, Some, None, Bool, true, false, refl, ap, sym, ◌∙◌, subst, inl, inr}
use Rattle.std.specs.Prelude.{◌==◌, if◌then◌else◌, ◌&&◌, ◌||◌}
use Rattle.std.specs.List.{find}
use Rattle.std.specs.Option.{option_map, option_map_or}
use Rattle.std.proofs.lemmas.Bool.{cases_Bool, eq-eqb, eqb-true, or_parts}
use Rattle.std.proofs.lemmas.List.{map-append}
use Rattle.std.proofs.lemmas.Option.{same_Some}
use Rattle.tf_records.specs.declared.account.Account.{Account}
use Rattle.tf_records.specs.declared.transfer.Transfer.{Transfer}
use Rattle.tf_journal.specs.declared.entry.Entry.{Entry}
use Rattle.tf_journal.specs.declared.entry.Entry.TheVariants as entry
use Rattle.tf_journal.specs.declared.side.Side.{Side}
use Rattle.tf_journal.specs.declared.side.Side.TheVariants.{Debit, Credit}
use Rattle.tf_journal.specs.declared.status.Status.TheVariants as status
use Rattle.tf_journal.specs.Balances.{account_on, posted_amount}
use Rattle.tf_journal.specs.Flags.{is_pending, is_post, is_settling, is_void}
use Rattle.tf_journal.specs.Journal.{transfer_in, transfers_of}
use Rattle.tf_journal.specs.Laws.{HasAccounts}
use Rattle.tf_journal.specs.Lawful.{IsSound}
use Rattle.tf_journal.specs.Ledger.{CanGrow}
use Rattle.tf_journal.specs.Lookup.{account_with_id, transfer_with_id}
use Rattle.tf_journal.specs.Status.{expires, is_open, pending_at, posts, voids}
use Rattle.tf_journal.proofs.Accepted.{IsNewSettling, transfer_new}
use Rattle.tf_journal.proofs.Accounts.{sound_has_accounts}
use Rattle.tf_journal.proofs.Lists.{find_passes}
use Rattle.tf_journal.proofs.Settling.{expiry_names, expiry_new, status_by}
use Rattle.tf_journal.proofs.Sound.{sound_push}
use Rattle.tf_journal.proofs.Steps.{new_pending_open}
use Rattle.tf_journal.proofs.Unique.{accounts_kept}
use Rattle.tf_manifest.specs.declared.row.Row.{Row}
use Rattle.tf_manifest.specs.declared.row.Row.TheVariants as row
use Rattle.tf_manifest.specs.declared.value.State.{State}
use Rattle.tf_manifest.specs.declared.value.Value.TheVariants as value
use Rattle.tf_manifest.specs.Rows.{history_pairs, key_of, rows_of, state_of}
use Rattle.tf_manifest.proofs.Members.{all_has}
use Rattle.tf_rows.specs.declared.found.Found.{Found}
use Rattle.tf_rows.specs.declared.found.Party.{Party}
use Rattle.tf_rows.specs.Edits.{Edit, account_edits, edits, expired_edits, expiry_edit, expiry_edits, failed_edits, found_for_expiry, found_for_transfer, history_edit, history_edits, new_state, party_of, present_party, put, settled_status, state_after, state_edit, state_edits, state_moved, state_pending, state_settled, status_edit, status_edits, transfer_edits}
use Rattle.tf_rows.proofs.Changes.{IsChange, put_pair}
use Rattle.tf_rows.proofs.Closers.{closers_kept, closes_account}
use Rattle.tf_rows.proofs.Grown.{account_row, account_row_stays, expiries_grow, expiries_stay, ids_fail, ids_grow, ids_stay, transfer_row, transfer_row_stays}
use Rattle.tf_rows.proofs.Histories.{history_grows, history_side, history_stays}
use Rattle.tf_rows.proofs.Settled.{Settles, account_settles_nothing, expiring_one, failed_settles_nothing, moving_nothing, settling_one, transfer_added}
use Rattle.tf_rows.proofs.StateRow.{account_id, states_change, states_grow, states_stay}
use Rattle.tf_rows.proofs.States.{new_account, other, posts_here, posts_not, not_other, state_moves, state_opens, state_settles, state_stays, state_unmoved, state_unsettled}
use Rattle.tf_rows.proofs.Statuses.{AddsNoPending, expiries_kept, expiry_comes, expiry_goes, status_opens, status_settles, statuses_stay}

-- a row after an entry
abbrev Changes : List Entry → Entry → List Edit → Row → Type 0
Changes journal e changes r = IsChange (rows_of journal r) (rows_of (journal ++ e ∷ []) r) changes

-- a party that is looked up
party_is : (journal : List Entry) (id : ℕ) (a : Account) → account_with_id journal id ≡ Some a → party_of journal id ≡ Some (present_party journal a)
party_is journal id a stored = ap (option_map (present_party journal)) stored

-- the edits of the states of parties that are found
states_found : (found : Found) (change : Side → State → State) (debit credit : Party) → found.debit ≡ Some debit → found.credit ≡ Some credit
    → state_edit (change Debit) debit ++ state_edit (change Credit) credit ≡ state_edits found change
states_found found change debit credit d c =
    sym (ap (λ (o : Option Party). option_map_or (state_edit (change Debit)) o [] ++ option_map_or (state_edit (change Credit)) found.credit []) d
    ∙ ap (λ (o : Option Party). state_edit (change Debit) debit ++ option_map_or (state_edit (change Credit)) o []) c)

history_found : (found : Found) (t : Transfer) (change : Side → State → State) (debit credit : Party) → found.debit ≡ Some debit → found.credit ≡ Some credit
    → history_edit t (change Debit) debit ++ history_edit t (change Credit) credit ≡ history_edits found t change
history_found found t change debit credit d c =
    sym (ap (λ (o : Option Party). option_map_or (history_edit t (change Debit)) o [] ++ option_map_or (history_edit t (change Credit)) found.credit []) d
    ∙ ap (λ (o : Option Party). history_edit t (change Debit) debit ++ option_map_or (history_edit t (change Credit)) o []) c)

-- a new account
module _ (journal : List Entry) (a : Account) (sound : IsSound journal) (grows : CanGrow journal (entry.Account a)) where
  account_states : Changes journal (entry.Account a) (account_edits a row.AccountSums) row.AccountSums
  account_states = states_grow journal a (new_state a) (new_account journal a sound grows) (λ b has.
      state_stays journal (entry.Account a) sound grows b (λ side. refl) (λ side. refl) (λ side. refl)
      (closers_kept journal (entry.Account a) b.id (λ t h is closing. refl)) refl)

  pub account_changes : (r : Row) → Changes journal (entry.Account a) (account_edits a r) r
  account_changes row.AccountObjects = account_row journal a _
  account_changes row.AccountIds = account_row journal a _
  account_changes row.AccountUserData128 = account_row journal a _
  account_changes row.AccountUserData64 = account_row journal a _
  account_changes row.AccountUserData32 = account_row journal a _
  account_changes row.AccountLedger = account_row journal a _
  account_changes row.AccountCode = account_row journal a _
  account_changes row.AccountSums = account_states
  account_changes row.TransferObjects = transfer_row_stays journal (entry.Account a) _ refl
  account_changes row.TransferIds = ids_stay journal (entry.Account a) refl refl
  account_changes row.TransferDebit = transfer_row_stays journal (entry.Account a) _ refl
  account_changes row.TransferCredit = transfer_row_stays journal (entry.Account a) _ refl
  account_changes row.TransferUserData128 = transfer_row_stays journal (entry.Account a) _ refl
  account_changes row.TransferUserData64 = transfer_row_stays journal (entry.Account a) _ refl
  account_changes row.TransferUserData32 = transfer_row_stays journal (entry.Account a) _ refl
  account_changes row.TransferLedger = transfer_row_stays journal (entry.Account a) _ refl
  account_changes row.TransferCode = transfer_row_stays journal (entry.Account a) _ refl
  account_changes row.PendingStatus = statuses_stay journal (entry.Account a) (account_settles_nothing journal a) (λ t same. cc)
  account_changes row.Expiry = expiries_kept journal (entry.Account a) (account_settles_nothing journal a) (λ t same. cc)
  account_changes row.ExpiryEntries = expiries_stay journal (entry.Account a) refl
  account_changes row.History = history_stays journal (entry.Account a) sound grows.is_journal refl

-- a failed id
module _ (journal : List Entry) (timestamp id : ℕ) (sound : IsSound journal) (grows : CanGrow journal (entry.Failed timestamp id)) where
  abbrev failed : Entry
  failed = entry.Failed timestamp id

  failed_states : Changes journal (entry.Failed timestamp id) [] row.AccountSums
  failed_states = states_stay journal failed refl (λ b has.
      state_stays journal failed sound grows b (λ side. refl) (λ side. refl) (λ side. refl)
      (closers_kept journal failed b.id (λ t h is closing. refl)) refl)

  pub failed_changes : (r : Row) → Changes journal (entry.Failed timestamp id) (failed_edits timestamp id r) r
  failed_changes row.AccountObjects = account_row_stays journal failed _ refl
  failed_changes row.AccountIds = account_row_stays journal failed _ refl
  failed_changes row.AccountUserData128 = account_row_stays journal failed _ refl
  failed_changes row.AccountUserData64 = account_row_stays journal failed _ refl
  failed_changes row.AccountUserData32 = account_row_stays journal failed _ refl
  failed_changes row.AccountLedger = account_row_stays journal failed _ refl
  failed_changes row.AccountCode = account_row_stays journal failed _ refl
  failed_changes row.AccountSums = failed_states
  failed_changes row.TransferObjects = transfer_row_stays journal failed _ refl
  failed_changes row.TransferIds = ids_fail journal failed (key_of id 0, value.FailedAt timestamp) refl refl
  failed_changes row.TransferDebit = transfer_row_stays journal failed _ refl
  failed_changes row.TransferCredit = transfer_row_stays journal failed _ refl
  failed_changes row.TransferUserData128 = transfer_row_stays journal failed _ refl
  failed_changes row.TransferUserData64 = transfer_row_stays journal failed _ refl
  failed_changes row.TransferUserData32 = transfer_row_stays journal failed _ refl
  failed_changes row.TransferLedger = transfer_row_stays journal failed _ refl
  failed_changes row.TransferCode = transfer_row_stays journal failed _ refl
  failed_changes row.PendingStatus = statuses_stay journal failed (failed_settles_nothing journal timestamp id) (λ t same. cc)
  failed_changes row.Expiry = expiries_kept journal failed (failed_settles_nothing journal timestamp id) (λ t same. cc)
  failed_changes row.ExpiryEntries = expiries_stay journal failed refl
  failed_changes row.History = history_stays journal failed sound grows.is_journal refl

-- an expiry
module _ (journal : List Entry) (timestamp pending : ℕ) (sound : IsSound journal) (grows : CanGrow journal (entry.Expiry timestamp pending)) where
  abbrev expired : Entry
  expired = entry.Expiry timestamp pending

  abbrev expiring : Found
  expiring = found_for_expiry journal (pending_at journal pending)

  expired_rows : (r : Row) → ((p : Transfer) → Settles journal expired p → pending_at journal pending ≡ Some p
      → IsChange (rows_of journal r) (rows_of (journal ++ expired ∷ []) r) (expired_edits (found_for_expiry journal (Some p)) timestamp pending r))
      → Changes journal (entry.Expiry timestamp pending) (expired_edits expiring timestamp pending r) r
  expired_rows r changes =
      let new = expiry_new journal timestamp pending grows.admitted in
      let names = expiry_names journal timestamp pending sound new in
      subst (λ (o : Option Transfer). IsChange (rows_of journal r) (rows_of (journal ++ expired ∷ []) r) (expired_edits (found_for_expiry journal o) timestamp pending r)) (sym names)
      (changes new.transfer (expiring_one journal timestamp pending sound new) names)

  expired_states_row : (p : Transfer) → Settles journal expired p → pending_at journal pending ≡ Some p
      → Changes journal (entry.Expiry timestamp pending) (expired_edits (found_for_expiry journal (Some p)) timestamp pending row.AccountSums) row.AccountSums
  expired_states_row p settled names =
      let has = all_has (HasAccounts journal) (transfers_of journal) p (sound_has_accounts journal sound) settled.has in
      let change = λ (side : Side). state_settled side p 0 in
      let debit_id = account_id journal p.debit_account_id has.debit has.debit_stored in
      let credit_id = account_id journal p.credit_account_id has.credit has.credit_stored in
      let own = λ (side : Side) (a : Account) (at : account_on side p ≡ a.id) (stored : account_with_id journal a.id ≡ Some a).
      state_settles journal expired sound grows p side a 0 settled has.differ at stored refl refl refl in
      subst (λ (changes : List Edit). Changes journal (entry.Expiry timestamp pending) changes row.AccountSums)
      (states_found (found_for_expiry journal (Some p)) change (present_party journal has.debit) (present_party journal has.credit)
      (party_is journal p.debit_account_id has.debit has.debit_stored) (party_is journal p.credit_account_id has.credit has.credit_stored))
      (states_change journal expired sound refl p.debit_account_id p.credit_account_id has.debit has.credit
      (change Debit (state_of journal has.debit)) (change Credit (state_of journal has.credit)) has.debit_stored has.credit_stored
      (own Debit has.debit (sym debit_id) (subst (λ (n : ℕ). account_with_id journal n ≡ Some has.debit) (sym debit_id) has.debit_stored))
      (own Credit has.credit (sym credit_id) (subst (λ (n : ℕ). account_with_id journal n ≡ Some has.credit) (sym credit_id) has.credit_stored))
      (λ a among debit credit. state_unsettled journal expired sound grows p a settled debit credit (λ side. refl) refl))

  pub expired_changes : (r : Row) → Changes journal (entry.Expiry timestamp pending) (expired_edits expiring timestamp pending r) r
  expired_changes row.AccountObjects = account_row_stays journal expired _ refl
  expired_changes row.AccountIds = account_row_stays journal expired _ refl
  expired_changes row.AccountUserData128 = account_row_stays journal expired _ refl
  expired_changes row.AccountUserData64 = account_row_stays journal expired _ refl
  expired_changes row.AccountUserData32 = account_row_stays journal expired _ refl
  expired_changes row.AccountLedger = account_row_stays journal expired _ refl
  expired_changes row.AccountCode = account_row_stays journal expired _ refl
  expired_changes row.AccountSums = expired_rows row.AccountSums expired_states_row
  expired_changes row.TransferObjects = transfer_row_stays journal expired _ refl
  expired_changes row.TransferIds = ids_stay journal expired refl refl
  expired_changes row.TransferDebit = transfer_row_stays journal expired _ refl
  expired_changes row.TransferCredit = transfer_row_stays journal expired _ refl
  expired_changes row.TransferUserData128 = transfer_row_stays journal expired _ refl
  expired_changes row.TransferUserData64 = transfer_row_stays journal expired _ refl
  expired_changes row.TransferUserData32 = transfer_row_stays journal expired _ refl
  expired_changes row.TransferLedger = transfer_row_stays journal expired _ refl
  expired_changes row.TransferCode = transfer_row_stays journal expired _ refl
  expired_changes row.PendingStatus = expired_rows row.PendingStatus (λ p settled names.
      status_settles journal expired p status.Expired settled (ap (λ (b : Bool). status_by false false b) settled.does))
  expired_changes row.Expiry = expired_rows row.Expiry (λ p settled names. expiry_goes journal expired p sound settled)
  expired_changes row.ExpiryEntries = expiries_grow journal expired (key_of 0 timestamp, value.Stamp pending) refl
  expired_changes row.History = history_stays journal expired sound grows.is_journal refl

-- what a transfer does with its accounts, and with the pending transfer that it is or settles
record TransferStep (journal : List Entry) (t : Transfer) (settled : Option Transfer) : Type 0 where
  own : (side : Side) (a : Account) → account_on side t ≡ a.id → account_with_id journal a.id ≡ Some a
      → state_of (journal ++ entry.Transfer t ∷ []) a ≡ state_after side t settled (state_of journal a)
  others : (a : Account) → t.debit_account_id ≢ a.id → t.credit_account_id ≢ a.id → state_of (journal ++ entry.Transfer t ∷ []) a ≡ state_of journal a
  statuses : Changes journal (entry.Transfer t) (status_edits t settled) row.PendingStatus
  expiries : Changes journal (entry.Transfer t) (expiry_edits t settled) row.Expiry

-- which post or void gives which status
settling_says : (t p : Transfer) → is_settling t ≡ true → t.pending_id ≡ p.id → status_by (posts p (entry.Transfer t)) (voids p (entry.Transfer t)) (expires p (entry.Transfer t)) ≡ settled_status t
settling_says t p settling named =
    ap (λ (b : Bool). status_by (is_post t && b) (is_void t && b) false) (eq-eqb t.pending_id p.id named)
    ∙ by_flags (is_post t) (is_void t) settling where
      by_flags : (post void : Bool) → (post || void) ≡ true → status_by (post && true) (void && true) false ≡ (if post then status.Posted else status.Voided)
      by_flags true void is = refl
      by_flags false true is = refl
      by_flags false false is = cc

module _ (journal : List Entry) (t : Transfer) (sound : IsSound journal) (grows : CanGrow journal (entry.Transfer t)) (differ : t.debit_account_id ≢ t.credit_account_id) where
  abbrev this : Entry
  this = entry.Transfer t

  settling_step : (new : IsNewSettling journal t) → TransferStep journal t (Some new.pending)
  settling_step new =
      let p = new.pending in
      let settled = settling_one journal t sound new in
      let not_closing = λ (id : ℕ). ap (λ (b : Bool). (b && closes_account id t) && is_open (journal ++ entry.Transfer t ∷ []) t) new.not_pending in
      let own_id = eqb-true p.id t.pending_id (find_passes (λ (u : Transfer). u.id == t.pending_id) (transfers_of journal) p new.named) in
      record {
        own = λ side a at stored.
            state_settles journal this sound grows p side a (posted_amount t) settled (λ same. differ (new.debit ∙ same ∙ sym new.credit))
            (sym (same_side side new) ∙ at) stored (posts_here side a.id t at) (posts_not (other side) a.id t (not_other side a.id t at differ)) (not_closing a.id);
        others = λ a debit credit.
            state_unsettled journal this sound grows p a settled (λ same. debit (new.debit ∙ same)) (λ same. credit (new.credit ∙ same)) (λ side. posts_not side a.id t (on_neither side a debit credit)) (not_closing a.id);
        statuses = status_settles journal this p (settled_status t) settled (settling_says t p new.settling (sym own_id));
        expiries = expiry_goes journal this p sound settled;
      } where
        same_side : (side : Side) (new : IsNewSettling journal t) → account_on side t ≡ account_on side new.pending
        same_side Debit new = new.debit
        same_side Credit new = new.credit

        on_neither : (side : Side) (a : Account) → t.debit_account_id ≢ a.id → t.credit_account_id ≢ a.id → account_on side t ≢ a.id
        on_neither Debit a debit credit = debit
        on_neither Credit a debit credit = credit

  pending_step : is_settling t ≡ false → is_pending t ≡ true → TransferStep journal t None
  pending_step moving pending =
      let nothing = moving_nothing journal t moving in
      let opens = new_pending_open journal t sound grows pending in
      record {
        own = λ side a at stored.
            state_opens journal this sound grows t side a refl nothing pending opens differ at
            ∙ sym (ap (λ (b : Bool). if b then state_pending side t (state_of journal a) else state_moved side t (state_of journal a)) pending);
        others = λ a debit credit. state_unmoved journal this sound grows t a refl nothing debit credit;
        statuses = subst (λ (changes : List Edit). Changes journal (entry.Transfer t) changes row.PendingStatus)
            (sym (ap (λ (b : Bool). if b then status_edit status.Open t else []) pending)) (status_opens journal t nothing pending opens);
        expiries = subst (λ (changes : List Edit). Changes journal (entry.Transfer t) changes row.Expiry)
            (sym (ap (λ (b : Bool). if b then expiry_edit (λ key. put key value.Unit) t else []) pending)) (expiry_comes journal t nothing pending opens);
      }

  moved_step : is_settling t ≡ false → is_pending t ≡ false → TransferStep journal t None
  moved_step moving moved =
      let nothing = moving_nothing journal t moving in
      let adds : AddsNoPending (entry.Transfer t) = λ u same. ap is_pending (sym (same_Some t u (ap transfer_in same))) ∙ moved in
      let whole : posted_amount t ≡ t.amount
      = ap (λ (b : Bool). if b then 0 else if is_void t then 0 else t.amount) moved ∙ ap (λ (b : Bool). if b then 0 else t.amount) (or_parts (is_post t) (is_void t) moving).1 in
      record {
        own = λ side a at stored.
            state_moves journal this sound grows t side a refl nothing moved whole differ at
            ∙ sym (ap (λ (b : Bool). if b then state_pending side t (state_of journal a) else state_moved side t (state_of journal a)) moved);
        others = λ a debit credit. state_unmoved journal this sound grows t a refl nothing debit credit;
        statuses = subst (λ (changes : List Edit). Changes journal (entry.Transfer t) changes row.PendingStatus)
            (sym (ap (λ (b : Bool). if b then status_edit status.Open t else []) moved)) (statuses_stay journal this nothing adds);
        expiries = subst (λ (changes : List Edit). Changes journal (entry.Transfer t) changes row.Expiry)
            (sym (ap (λ (b : Bool). if b then expiry_edit (λ key. put key value.Unit) t else []) moved)) (expiries_kept journal this nothing adds);
      }

  abbrev settled_by : Option Transfer
  settled_by = (found_for_transfer journal t).settled

  transfer_step : TransferStep journal t (found_for_transfer journal t).settled
  transfer_step = elim (transfer_new journal t grows.admitted) [
    | inl new ↦
        let is : settled_by ≡ Some new.pending = ap (λ (b : Bool). if b then transfer_with_id journal t.pending_id else None) new.settling ∙ new.named in
        subst (TransferStep journal t) (sym is) (settling_step new)
    | inr new ↦
        let is : settled_by ≡ None = ap (λ (b : Bool). if b then transfer_with_id journal t.pending_id else None) new.moving in
        subst (TransferStep journal t) (sym is) (elim (cases_Bool (is_pending t)) [
          | inl pending ↦ pending_step new.moving pending
          | inr moved ↦ moved_step new.moving moved
        ])
  ]

-- a transfer
module _ (journal : List Entry) (t : Transfer) (sound : IsSound journal) (grows : CanGrow journal (entry.Transfer t)) where
  abbrev moved_now : Entry
  moved_now = entry.Transfer t

  abbrev looked_up : Found
  looked_up = found_for_transfer journal t

  accounts_now : HasAccounts (journal ++ entry.Transfer t ∷ []) t
  accounts_now =
      all_has (HasAccounts (journal ++ entry.Transfer t ∷ [])) (transfers_of (journal ++ entry.Transfer t ∷ [])) t
      (sound_has_accounts (journal ++ entry.Transfer t ∷ []) (sound_push journal moved_now sound grows)) (transfer_added journal t)

  stored_before : (id : ℕ) (a : Account) → account_with_id (journal ++ entry.Transfer t ∷ []) id ≡ Some a → account_with_id journal id ≡ Some a
  stored_before id a stored = sym (ap (λ (accounts : List Account). find (λ (b : Account). b.id == id) accounts) (accounts_kept journal moved_now refl)) ∙ stored

  step : TransferStep journal t (found_for_transfer journal t).settled
  step = transfer_step journal t sound grows accounts_now.differ

  -- the account on a side of the transfer
  record IsParty (side : Side) : Type 0 where
    account : Account
    stored : account_with_id journal (account_on side t) ≡ Some account
    state : state_of (journal ++ entry.Transfer t ∷ []) account ≡ state_after side t (found_for_transfer journal t).settled (state_of journal account)

  party : (side : Side) (a : Account) → account_with_id (journal ++ entry.Transfer t ∷ []) (account_on side t) ≡ Some a → IsParty side
  party side a stored_now =
      let stored = stored_before (account_on side t) a stored_now in
      let own = account_id journal (account_on side t) a stored in
      record {
        account = a;
        stored = stored;
        state = step.own side a (sym own) (subst (λ (n : ℕ). account_with_id journal n ≡ Some a) (sym own) stored);
      }

  abbrev change_on : Side → State → State
  change_on side = state_after side t (found_for_transfer journal t).settled

  transfer_states : Changes journal (entry.Transfer t) (transfer_edits looked_up t row.AccountSums) row.AccountSums
  transfer_states =
      let debit = party Debit accounts_now.debit accounts_now.debit_stored in
      let credit = party Credit accounts_now.credit accounts_now.credit_stored in
      subst (λ (changes : List Edit). Changes journal (entry.Transfer t) changes row.AccountSums)
      (states_found looked_up change_on (present_party journal debit.account) (present_party journal credit.account)
      (party_is journal t.debit_account_id debit.account debit.stored) (party_is journal t.credit_account_id credit.account credit.stored))
      (states_change journal moved_now sound refl t.debit_account_id t.credit_account_id debit.account credit.account
      (change_on Debit (state_of journal debit.account)) (change_on Credit (state_of journal credit.account)) debit.stored credit.stored
      debit.state credit.state (λ a among other_debit other_credit. step.others a other_debit other_credit))

  transfer_history : Changes journal (entry.Transfer t) (transfer_edits looked_up t row.History) row.History
  transfer_history =
      let after = journal ++ entry.Transfer t ∷ [] in
      let debit = party Debit accounts_now.debit accounts_now.debit_stored in
      let credit = party Credit accounts_now.credit accounts_now.credit_stored in
      subst (λ (changes : List Edit). Changes journal (entry.Transfer t) changes row.History)
      (map-append put_pair (history_pairs after Debit t) (history_pairs after Credit t)
      ∙ ap (λ (es : List Edit). es ++ map put_pair (history_pairs after Credit t)) (history_side journal t Debit debit.account (change_on Debit) grows.is_journal debit.stored debit.state)
      ∙ ap (λ (es : List Edit). history_edit t (change_on Debit) (present_party journal debit.account) ++ es) (history_side journal t Credit credit.account (change_on Credit) grows.is_journal credit.stored credit.state)
      ∙ history_found looked_up t change_on (present_party journal debit.account) (present_party journal credit.account)
      (party_is journal t.debit_account_id debit.account debit.stored) (party_is journal t.credit_account_id credit.account credit.stored))
      (history_grows journal t sound grows.is_journal)

  pub transfer_changes : (r : Row) → Changes journal (entry.Transfer t) (transfer_edits looked_up t r) r
  transfer_changes row.AccountObjects = account_row_stays journal moved_now _ refl
  transfer_changes row.AccountIds = account_row_stays journal moved_now _ refl
  transfer_changes row.AccountUserData128 = account_row_stays journal moved_now _ refl
  transfer_changes row.AccountUserData64 = account_row_stays journal moved_now _ refl
  transfer_changes row.AccountUserData32 = account_row_stays journal moved_now _ refl
  transfer_changes row.AccountLedger = account_row_stays journal moved_now _ refl
  transfer_changes row.AccountCode = account_row_stays journal moved_now _ refl
  transfer_changes row.AccountSums = transfer_states
  transfer_changes row.TransferObjects = transfer_row journal t _
  transfer_changes row.TransferIds = ids_grow journal t
  transfer_changes row.TransferDebit = transfer_row journal t _
  transfer_changes row.TransferCredit = transfer_row journal t _
  transfer_changes row.TransferUserData128 = transfer_row journal t _
  transfer_changes row.TransferUserData64 = transfer_row journal t _
  transfer_changes row.TransferUserData32 = transfer_row journal t _
  transfer_changes row.TransferLedger = transfer_row journal t _
  transfer_changes row.TransferCode = transfer_row journal t _
  transfer_changes row.PendingStatus = step.statuses
  transfer_changes row.Expiry = step.expiries
  transfer_changes row.ExpiryEntries = expiries_stay journal moved_now refl
  transfer_changes row.History = transfer_history

-- each row after any entry
pub entry_changes : (journal : List Entry) (e : Entry) → IsSound journal → CanGrow journal e → (r : Row) → IsChange (rows_of journal r) (rows_of (journal ++ e ∷ []) r) (edits journal e r)
entry_changes journal (entry.Account a) sound grows = account_changes journal a sound grows
entry_changes journal (entry.Transfer t) sound grows = transfer_changes journal t sound grows
entry_changes journal (entry.Expiry timestamp pending) sound grows = expired_changes journal timestamp pending sound grows
entry_changes journal (entry.Failed timestamp id) sound grows = failed_changes journal timestamp id sound grows
