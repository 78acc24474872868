-- What is known of the edits of an entry: their values are of their rows' kinds, and of logs they put values at keys
-- that are new, each once.
use Rattle.std.proofs.Common.{◌≡◌, ◌≢◌, ℕ, List, [], ◌∷◌, ◌++◌, map, Option, Some, None, Bool, true, false, cond, refl, sym, ◌∙◌, ap, subst, inl, inr, append-nil}
use Rattle.std.specs.Prelude.{◌==◌, IfSome, IsSome, IsTrue, ⊤, if◌then◌else◌}
use Rattle.std.specs.List.{All}
use Rattle.std.specs.Option.{option_flatten, option_map, option_map_or}
use Rattle.std.proofs.lemmas.List.Elements.{All-head, All-tail}
use Rattle.std.proofs.lemmas.Option.{none-some, same_Some}
use Rattle.tf_records.specs.declared.account.Account.{Account}
use Rattle.tf_records.specs.declared.transfer.Transfer.{Transfer}
use Rattle.tf_journal.specs.declared.entry.Entry.{Entry}
use Rattle.tf_journal.specs.declared.entry.Entry.TheVariants as entry
use Rattle.tf_journal.specs.declared.side.Side.TheVariants.{Debit, Credit}
use Rattle.tf_journal.specs.declared.status.Status.TheVariants as status
use Rattle.tf_journal.specs.Flags.{is_pending, keeps_history}
use Rattle.tf_journal.specs.Journal.{transfers_of}
use Rattle.tf_journal.specs.Laws.{HasAccounts}
use Rattle.tf_journal.specs.Lookup.{account_with_id}
use Rattle.tf_journal.proofs.Unique.{transfers_push}
use Rattle.tf_table.specs.declared.key.Key.{Key}
use Rattle.tf_table.specs.Content.{entry_at, entry_of, first_some}
use Rattle.tf_manifest.specs.declared.row.Row.{Row}
use Rattle.tf_manifest.specs.declared.row.Row.TheVariants as row
use Rattle.tf_manifest.specs.declared.value.State.{State}
use Rattle.tf_manifest.specs.declared.value.Value.{Value}
use Rattle.tf_manifest.specs.declared.value.Value.TheVariants as value
use Rattle.tf_manifest.specs.Rows.{key_of}
use Rattle.tf_manifest.specs.Shows.{value_of}
use Rattle.tf_manifest.proofs.Members.{Has, all_has, has_right}
use Rattle.tf_rows.specs.Back.{edits_back, taken_away}
use Rattle.tf_rows.specs.declared.found.Found.{Found}
use Rattle.tf_rows.specs.declared.found.Party.{Party}
use Rattle.tf_rows.specs.Edits.{Edit, edits, edits_by, expiry_edit, found_for_transfer, gone, history_edit, party_of, present_party, put, expired_states, state_after, state_edit, state_settled, status_edit, status_edits, expiry_edits}
use Rattle.tf_rows.specs.Nest.{fits_row, is_tree}
use Rattle.tf_rows.specs.Parts.{Part, value_of_part}
use Rattle.tf_rows.proofs.Changes.{IsUntouched}
use Rattle.tf_rows.proofs.StateRow.{account_id}

-- a log's edits are taken back by taking their keys away
pub back_is_gone : (journal : List Entry) (e : Entry) (r : Row) → is_tree r ≡ false → edits_back journal e r ≡ map taken_away (edits journal e r)
back_is_gone journal (entry.Account a) r log = refl
back_is_gone journal (entry.Failed timestamp id) r log = refl
back_is_gone journal (entry.Transfer t) row.AccountObjects log = refl
back_is_gone journal (entry.Transfer t) row.AccountIds log = absurd (cc)
back_is_gone journal (entry.Transfer t) row.AccountUserData128 log = refl
back_is_gone journal (entry.Transfer t) row.AccountUserData64 log = refl
back_is_gone journal (entry.Transfer t) row.AccountUserData32 log = refl
back_is_gone journal (entry.Transfer t) row.AccountLedger log = refl
back_is_gone journal (entry.Transfer t) row.AccountCode log = refl
back_is_gone journal (entry.Transfer t) row.AccountSums log = absurd (cc)
back_is_gone journal (entry.Transfer t) row.TransferObjects log = refl
back_is_gone journal (entry.Transfer t) row.TransferIds log = absurd (cc)
back_is_gone journal (entry.Transfer t) row.TransferDebit log = refl
back_is_gone journal (entry.Transfer t) row.TransferCredit log = refl
back_is_gone journal (entry.Transfer t) row.TransferUserData128 log = refl
back_is_gone journal (entry.Transfer t) row.TransferUserData64 log = refl
back_is_gone journal (entry.Transfer t) row.TransferUserData32 log = refl
back_is_gone journal (entry.Transfer t) row.TransferLedger log = refl
back_is_gone journal (entry.Transfer t) row.TransferCode log = refl
back_is_gone journal (entry.Transfer t) row.PendingStatus log = absurd (cc)
back_is_gone journal (entry.Transfer t) row.Expiry log = absurd (cc)
back_is_gone journal (entry.Transfer t) row.ExpiryEntries log = refl
back_is_gone journal (entry.Transfer t) row.History log = refl
back_is_gone journal (entry.Expiry timestamp pending) row.AccountObjects log = refl
back_is_gone journal (entry.Expiry timestamp pending) row.AccountIds log = absurd (cc)
back_is_gone journal (entry.Expiry timestamp pending) row.AccountUserData128 log = refl
back_is_gone journal (entry.Expiry timestamp pending) row.AccountUserData64 log = refl
back_is_gone journal (entry.Expiry timestamp pending) row.AccountUserData32 log = refl
back_is_gone journal (entry.Expiry timestamp pending) row.AccountLedger log = refl
back_is_gone journal (entry.Expiry timestamp pending) row.AccountCode log = refl
back_is_gone journal (entry.Expiry timestamp pending) row.AccountSums log = absurd (cc)
back_is_gone journal (entry.Expiry timestamp pending) row.TransferObjects log = refl
back_is_gone journal (entry.Expiry timestamp pending) row.TransferIds log = absurd (cc)
back_is_gone journal (entry.Expiry timestamp pending) row.TransferDebit log = refl
back_is_gone journal (entry.Expiry timestamp pending) row.TransferCredit log = refl
back_is_gone journal (entry.Expiry timestamp pending) row.TransferUserData128 log = refl
back_is_gone journal (entry.Expiry timestamp pending) row.TransferUserData64 log = refl
back_is_gone journal (entry.Expiry timestamp pending) row.TransferUserData32 log = refl
back_is_gone journal (entry.Expiry timestamp pending) row.TransferLedger log = refl
back_is_gone journal (entry.Expiry timestamp pending) row.TransferCode log = refl
back_is_gone journal (entry.Expiry timestamp pending) row.PendingStatus log = absurd (cc)
back_is_gone journal (entry.Expiry timestamp pending) row.Expiry log = absurd (cc)
back_is_gone journal (entry.Expiry timestamp pending) row.ExpiryEntries log = refl
back_is_gone journal (entry.Expiry timestamp pending) row.History log = refl

-- an edit's value is of the row's kind, and of a log it is there
abbrev pub IsOf : Row → Edit → Type 0
IsOf r edit = IfSome edit.1 (λ v. IsTrue (fits_row r v)) × (is_tree r ≡ false → IsSome edit.1)

abbrev pub AreOf : Row → List Edit → Type 0
AreOf r [] = ⊤
AreOf r (edit ∷ changes) = IsOf r edit × AreOf r changes

of_both : (r : Row) (first second : List Edit) → AreOf r first → AreOf r second → AreOf r (first ++ second)
of_both r [] second a b = b
of_both r (edit ∷ first) second a b = (a.0, of_both r first second a.1 b)

of_choice : (r : Row) (b : Bool) (first second : List Edit) → AreOf r first → AreOf r second → AreOf r (cond b first second)
of_choice r true first second a b = a
of_choice r false first second a b = b

-- the state of an account that may be there
of_state : (change : State → State) (party : Option Party) → AreOf row.AccountSums (option_map_or (state_edit change) party [])
of_state change None = tt
of_state change (Some p) = ((refl, λ log. refl), tt)

of_history : (t : Transfer) (change : State → State) (party : Option Party) → AreOf row.History (option_map_or (history_edit t change) party [])
of_history t change None = tt
of_history t change (Some p) = of_choice row.History (keeps_history p.account) _ [] ((refl, λ log. refl), tt) tt

of_status : (t : Transfer) (settled : Option Transfer) → AreOf row.PendingStatus (status_edits t settled)
of_status t (Some pending) = ((refl, λ log. refl), tt)
of_status t None = of_choice row.PendingStatus (is_pending t) _ [] ((refl, λ log. refl), tt) tt

of_gone : (pending : Transfer) → AreOf row.Expiry (expiry_edit gone pending)
of_gone pending = of_choice row.Expiry (pending.timeout == 0) [] _ tt ((tt, λ log. absurd (cc)), tt)

of_expiry : (t : Transfer) (settled : Option Transfer) → AreOf row.Expiry (expiry_edits t settled)
of_expiry t (Some pending) = of_gone pending
of_expiry t None =
    of_choice row.Expiry (is_pending t) _ [] (of_choice row.Expiry (t.timeout == 0) [] _ tt ((refl, λ log. refl), tt)) tt

expired_sums : (found : Found) (settled : Option Transfer) → AreOf row.AccountSums (option_map_or (expired_states found) settled [])
expired_sums found None = tt
expired_sums found (Some pending) =
    of_both row.AccountSums _ _ (of_state (state_settled Debit pending 0) found.debit) (of_state (state_settled Credit pending 0) found.credit)

expired_status : (settled : Option Transfer) → AreOf row.PendingStatus (option_map_or (status_edit status.Expired) settled [])
expired_status None = tt
expired_status (Some pending) = ((refl, λ log. refl), tt)

expired_gone : (settled : Option Transfer) → AreOf row.Expiry (option_map_or (expiry_edit gone) settled [])
expired_gone None = tt
expired_gone (Some pending) = of_gone pending

pub edits_of : (found : Found) (e : Entry) (r : Row) → AreOf r (edits_by found e r)
edits_of found (entry.Account a) row.AccountObjects = ((refl, λ log. refl), tt)
edits_of found (entry.Account a) row.AccountIds = ((refl, λ log. refl), tt)
edits_of found (entry.Account a) row.AccountUserData128 = ((refl, λ log. refl), tt)
edits_of found (entry.Account a) row.AccountUserData64 = ((refl, λ log. refl), tt)
edits_of found (entry.Account a) row.AccountUserData32 = ((refl, λ log. refl), tt)
edits_of found (entry.Account a) row.AccountLedger = ((refl, λ log. refl), tt)
edits_of found (entry.Account a) row.AccountCode = ((refl, λ log. refl), tt)
edits_of found (entry.Account a) row.AccountSums = ((refl, λ log. refl), tt)
edits_of found (entry.Account a) row.TransferObjects = tt
edits_of found (entry.Account a) row.TransferIds = tt
edits_of found (entry.Account a) row.TransferDebit = tt
edits_of found (entry.Account a) row.TransferCredit = tt
edits_of found (entry.Account a) row.TransferUserData128 = tt
edits_of found (entry.Account a) row.TransferUserData64 = tt
edits_of found (entry.Account a) row.TransferUserData32 = tt
edits_of found (entry.Account a) row.TransferLedger = tt
edits_of found (entry.Account a) row.TransferCode = tt
edits_of found (entry.Account a) row.PendingStatus = tt
edits_of found (entry.Account a) row.Expiry = tt
edits_of found (entry.Account a) row.ExpiryEntries = tt
edits_of found (entry.Account a) row.History = tt
edits_of found (entry.Transfer t) row.AccountObjects = tt
edits_of found (entry.Transfer t) row.AccountIds = tt
edits_of found (entry.Transfer t) row.AccountUserData128 = tt
edits_of found (entry.Transfer t) row.AccountUserData64 = tt
edits_of found (entry.Transfer t) row.AccountUserData32 = tt
edits_of found (entry.Transfer t) row.AccountLedger = tt
edits_of found (entry.Transfer t) row.AccountCode = tt
edits_of found (entry.Transfer t) row.AccountSums = of_both row.AccountSums _ _ (of_state (state_after Debit t found.settled) found.debit) (of_state (state_after Credit t found.settled) found.credit)
edits_of found (entry.Transfer t) row.TransferObjects = ((refl, λ log. refl), tt)
edits_of found (entry.Transfer t) row.TransferIds = ((refl, λ log. refl), tt)
edits_of found (entry.Transfer t) row.TransferDebit = ((refl, λ log. refl), tt)
edits_of found (entry.Transfer t) row.TransferCredit = ((refl, λ log. refl), tt)
edits_of found (entry.Transfer t) row.TransferUserData128 = ((refl, λ log. refl), tt)
edits_of found (entry.Transfer t) row.TransferUserData64 = ((refl, λ log. refl), tt)
edits_of found (entry.Transfer t) row.TransferUserData32 = ((refl, λ log. refl), tt)
edits_of found (entry.Transfer t) row.TransferLedger = ((refl, λ log. refl), tt)
edits_of found (entry.Transfer t) row.TransferCode = ((refl, λ log. refl), tt)
edits_of found (entry.Transfer t) row.PendingStatus = of_status t found.settled
edits_of found (entry.Transfer t) row.Expiry = of_expiry t found.settled
edits_of found (entry.Transfer t) row.ExpiryEntries = tt
edits_of found (entry.Transfer t) row.History = of_both row.History _ _ (of_history t (state_after Debit t found.settled) found.debit) (of_history t (state_after Credit t found.settled) found.credit)
edits_of found (entry.Expiry timestamp pending) row.AccountObjects = tt
edits_of found (entry.Expiry timestamp pending) row.AccountIds = tt
edits_of found (entry.Expiry timestamp pending) row.AccountUserData128 = tt
edits_of found (entry.Expiry timestamp pending) row.AccountUserData64 = tt
edits_of found (entry.Expiry timestamp pending) row.AccountUserData32 = tt
edits_of found (entry.Expiry timestamp pending) row.AccountLedger = tt
edits_of found (entry.Expiry timestamp pending) row.AccountCode = tt
edits_of found (entry.Expiry timestamp pending) row.AccountSums = expired_sums found found.settled
edits_of found (entry.Expiry timestamp pending) row.TransferObjects = tt
edits_of found (entry.Expiry timestamp pending) row.TransferIds = tt
edits_of found (entry.Expiry timestamp pending) row.TransferDebit = tt
edits_of found (entry.Expiry timestamp pending) row.TransferCredit = tt
edits_of found (entry.Expiry timestamp pending) row.TransferUserData128 = tt
edits_of found (entry.Expiry timestamp pending) row.TransferUserData64 = tt
edits_of found (entry.Expiry timestamp pending) row.TransferUserData32 = tt
edits_of found (entry.Expiry timestamp pending) row.TransferLedger = tt
edits_of found (entry.Expiry timestamp pending) row.TransferCode = tt
edits_of found (entry.Expiry timestamp pending) row.PendingStatus = expired_status found.settled
edits_of found (entry.Expiry timestamp pending) row.Expiry = expired_gone found.settled
edits_of found (entry.Expiry timestamp pending) row.ExpiryEntries = ((refl, λ log. refl), tt)
edits_of found (entry.Expiry timestamp pending) row.History = tt
edits_of found (entry.Failed timestamp id) row.AccountObjects = tt
edits_of found (entry.Failed timestamp id) row.AccountIds = tt
edits_of found (entry.Failed timestamp id) row.AccountUserData128 = tt
edits_of found (entry.Failed timestamp id) row.AccountUserData64 = tt
edits_of found (entry.Failed timestamp id) row.AccountUserData32 = tt
edits_of found (entry.Failed timestamp id) row.AccountLedger = tt
edits_of found (entry.Failed timestamp id) row.AccountCode = tt
edits_of found (entry.Failed timestamp id) row.AccountSums = tt
edits_of found (entry.Failed timestamp id) row.TransferObjects = tt
edits_of found (entry.Failed timestamp id) row.TransferIds = ((refl, λ log. refl), tt)
edits_of found (entry.Failed timestamp id) row.TransferDebit = tt
edits_of found (entry.Failed timestamp id) row.TransferCredit = tt
edits_of found (entry.Failed timestamp id) row.TransferUserData128 = tt
edits_of found (entry.Failed timestamp id) row.TransferUserData64 = tt
edits_of found (entry.Failed timestamp id) row.TransferUserData32 = tt
edits_of found (entry.Failed timestamp id) row.TransferLedger = tt
edits_of found (entry.Failed timestamp id) row.TransferCode = tt
edits_of found (entry.Failed timestamp id) row.PendingStatus = tt
edits_of found (entry.Failed timestamp id) row.Expiry = tt
edits_of found (entry.Failed timestamp id) row.ExpiryEntries = tt
edits_of found (entry.Failed timestamp id) row.History = tt

-- no key has two edits
abbrev pub AreOnce : List Edit → Type 0
AreOnce [] = ⊤
AreOnce (edit ∷ changes) = IsUntouched changes edit.0 × AreOnce changes

once_alone : (edit : Edit) → AreOnce (edit ∷ [])
once_alone edit = (λ o h. h, tt)

abbrev history_put : Transfer → (State → State) → Party → Edit
history_put t change p = put (key_of p.account.id t.timestamp) (value.Sums (change p.state).sums)

-- the history of both accounts of a transfer, which differ
module _ (t : Transfer) (change other : State → State) where
  once_if : (b : Bool) (edit : Edit) → AreOnce (if b then edit ∷ [] else [])
  once_if true edit = once_alone edit
  once_if false edit = tt

  once_ifs : (b c : Bool) (first second : Edit) → first.0 ≢ second.0 → AreOnce ((if b then first ∷ [] else []) ++ (if c then second ∷ [] else []))
  once_ifs true true first second apart = (
    (λ o h. elim h [
      | inl same ↦ apart (ap (λ (edit : Edit). edit.0) (sym same))
      | inr none ↦ none
    ]),
    once_alone second,
  )
  once_ifs true false first second apart = once_alone first
  once_ifs false true first second apart = once_alone second
  once_ifs false false first second apart = tt

  once_histories : (debit credit : Option Party) → ((d c : Party) → debit ≡ Some d → credit ≡ Some c → d.account.id ≢ c.account.id)
      → AreOnce (option_map_or (history_edit t change) debit [] ++ option_map_or (history_edit t other) credit [])
  once_histories None None differ = tt
  once_histories None (Some c) differ = once_if (keeps_history c.account) (history_put t other c)
  once_histories (Some d) None differ =
      subst AreOnce (sym (append-nil (history_edit t change d))) (once_if (keeps_history d.account) (history_put t change d))
  once_histories (Some d) (Some c) differ =
      once_ifs (keeps_history d.account) (keeps_history c.account) (history_put t change d) (history_put t other c)
      (λ same. differ d c refl refl (ap (λ (k : Key). k.value) same))

-- the account that is looked up for an id has it
party_id : (journal : List Entry) (id : ℕ) (p : Party) → party_of journal id ≡ Some p → p.account.id ≡ id
party_id journal id p is = by_account (account_with_id journal id) refl is where
  by_account : (o : Option Account) → account_with_id journal id ≡ o → option_map (present_party journal) o ≡ Some p → p.account.id ≡ id
  by_account None none e = absurd (cc)
  by_account (Some a) stored e =
      ap (λ (q : Party). q.account.id) (sym (same_Some (present_party journal a) p e)) ∙ account_id journal id a stored

-- a log's edits have a key each
pub edits_once : (journal : List Entry) (e : Entry) → All (HasAccounts (journal ++ e ∷ [])) (transfers_of (journal ++ e ∷ [])) → (r : Row) → is_tree r ≡ false → AreOnce (edits journal e r)
edits_once journal (entry.Account a) accounts row.AccountObjects log = (λ o h. h, tt)
edits_once journal (entry.Account a) accounts row.AccountIds log = absurd (cc)
edits_once journal (entry.Account a) accounts row.AccountUserData128 log = (λ o h. h, tt)
edits_once journal (entry.Account a) accounts row.AccountUserData64 log = (λ o h. h, tt)
edits_once journal (entry.Account a) accounts row.AccountUserData32 log = (λ o h. h, tt)
edits_once journal (entry.Account a) accounts row.AccountLedger log = (λ o h. h, tt)
edits_once journal (entry.Account a) accounts row.AccountCode log = (λ o h. h, tt)
edits_once journal (entry.Account a) accounts row.AccountSums log = absurd (cc)
edits_once journal (entry.Account a) accounts row.TransferObjects log = tt
edits_once journal (entry.Account a) accounts row.TransferIds log = absurd (cc)
edits_once journal (entry.Account a) accounts row.TransferDebit log = tt
edits_once journal (entry.Account a) accounts row.TransferCredit log = tt
edits_once journal (entry.Account a) accounts row.TransferUserData128 log = tt
edits_once journal (entry.Account a) accounts row.TransferUserData64 log = tt
edits_once journal (entry.Account a) accounts row.TransferUserData32 log = tt
edits_once journal (entry.Account a) accounts row.TransferLedger log = tt
edits_once journal (entry.Account a) accounts row.TransferCode log = tt
edits_once journal (entry.Account a) accounts row.PendingStatus log = absurd (cc)
edits_once journal (entry.Account a) accounts row.Expiry log = absurd (cc)
edits_once journal (entry.Account a) accounts row.ExpiryEntries log = tt
edits_once journal (entry.Account a) accounts row.History log = tt
edits_once journal (entry.Transfer t) accounts row.AccountObjects log = tt
edits_once journal (entry.Transfer t) accounts row.AccountIds log = absurd (cc)
edits_once journal (entry.Transfer t) accounts row.AccountUserData128 log = tt
edits_once journal (entry.Transfer t) accounts row.AccountUserData64 log = tt
edits_once journal (entry.Transfer t) accounts row.AccountUserData32 log = tt
edits_once journal (entry.Transfer t) accounts row.AccountLedger log = tt
edits_once journal (entry.Transfer t) accounts row.AccountCode log = tt
edits_once journal (entry.Transfer t) accounts row.AccountSums log = absurd (cc)
edits_once journal (entry.Transfer t) accounts row.TransferObjects log = (λ o h. h, tt)
edits_once journal (entry.Transfer t) accounts row.TransferIds log = absurd (cc)
edits_once journal (entry.Transfer t) accounts row.TransferDebit log = (λ o h. h, tt)
edits_once journal (entry.Transfer t) accounts row.TransferCredit log = (λ o h. h, tt)
edits_once journal (entry.Transfer t) accounts row.TransferUserData128 log = (λ o h. h, tt)
edits_once journal (entry.Transfer t) accounts row.TransferUserData64 log = (λ o h. h, tt)
edits_once journal (entry.Transfer t) accounts row.TransferUserData32 log = (λ o h. h, tt)
edits_once journal (entry.Transfer t) accounts row.TransferLedger log = (λ o h. h, tt)
edits_once journal (entry.Transfer t) accounts row.TransferCode log = (λ o h. h, tt)
edits_once journal (entry.Transfer t) accounts row.PendingStatus log = absurd (cc)
edits_once journal (entry.Transfer t) accounts row.Expiry log = absurd (cc)
edits_once journal (entry.Transfer t) accounts row.ExpiryEntries log = tt
edits_once journal (entry.Transfer t) accounts row.History log =
    once_histories t (state_after Debit t settled) (state_after Credit t settled) (party_of journal t.debit_account_id) (party_of journal t.credit_account_id) (λ d c debit credit same.
    own.differ (sym (party_id journal t.debit_account_id d debit) ∙ same ∙ party_id journal t.credit_account_id c credit)) where
      settled : Option Transfer
      settled = (found_for_transfer journal t).settled

      own : HasAccounts (journal ++ entry.Transfer t ∷ []) t
      own = all_has (HasAccounts (journal ++ entry.Transfer t ∷ [])) (transfers_of (journal ++ entry.Transfer t ∷ [])) t accounts
          (subst (λ (ts : List Transfer). Has ts t) (sym (transfers_push journal t)) (has_right (transfers_of journal) (t ∷ []) t (inl refl)))
edits_once journal (entry.Expiry timestamp pending) accounts row.AccountObjects log = tt
edits_once journal (entry.Expiry timestamp pending) accounts row.AccountIds log = absurd (cc)
edits_once journal (entry.Expiry timestamp pending) accounts row.AccountUserData128 log = tt
edits_once journal (entry.Expiry timestamp pending) accounts row.AccountUserData64 log = tt
edits_once journal (entry.Expiry timestamp pending) accounts row.AccountUserData32 log = tt
edits_once journal (entry.Expiry timestamp pending) accounts row.AccountLedger log = tt
edits_once journal (entry.Expiry timestamp pending) accounts row.AccountCode log = tt
edits_once journal (entry.Expiry timestamp pending) accounts row.AccountSums log = absurd (cc)
edits_once journal (entry.Expiry timestamp pending) accounts row.TransferObjects log = tt
edits_once journal (entry.Expiry timestamp pending) accounts row.TransferIds log = absurd (cc)
edits_once journal (entry.Expiry timestamp pending) accounts row.TransferDebit log = tt
edits_once journal (entry.Expiry timestamp pending) accounts row.TransferCredit log = tt
edits_once journal (entry.Expiry timestamp pending) accounts row.TransferUserData128 log = tt
edits_once journal (entry.Expiry timestamp pending) accounts row.TransferUserData64 log = tt
edits_once journal (entry.Expiry timestamp pending) accounts row.TransferUserData32 log = tt
edits_once journal (entry.Expiry timestamp pending) accounts row.TransferLedger log = tt
edits_once journal (entry.Expiry timestamp pending) accounts row.TransferCode log = tt
edits_once journal (entry.Expiry timestamp pending) accounts row.PendingStatus log = absurd (cc)
edits_once journal (entry.Expiry timestamp pending) accounts row.Expiry log = absurd (cc)
edits_once journal (entry.Expiry timestamp pending) accounts row.ExpiryEntries log = (λ o h. h, tt)
edits_once journal (entry.Expiry timestamp pending) accounts row.History log = tt
edits_once journal (entry.Failed timestamp id) accounts row.AccountObjects log = tt
edits_once journal (entry.Failed timestamp id) accounts row.AccountIds log = absurd (cc)
edits_once journal (entry.Failed timestamp id) accounts row.AccountUserData128 log = tt
edits_once journal (entry.Failed timestamp id) accounts row.AccountUserData64 log = tt
edits_once journal (entry.Failed timestamp id) accounts row.AccountUserData32 log = tt
edits_once journal (entry.Failed timestamp id) accounts row.AccountLedger log = tt
edits_once journal (entry.Failed timestamp id) accounts row.AccountCode log = tt
edits_once journal (entry.Failed timestamp id) accounts row.AccountSums log = absurd (cc)
edits_once journal (entry.Failed timestamp id) accounts row.TransferObjects log = tt
edits_once journal (entry.Failed timestamp id) accounts row.TransferIds log = absurd (cc)
edits_once journal (entry.Failed timestamp id) accounts row.TransferDebit log = tt
edits_once journal (entry.Failed timestamp id) accounts row.TransferCredit log = tt
edits_once journal (entry.Failed timestamp id) accounts row.TransferUserData128 log = tt
edits_once journal (entry.Failed timestamp id) accounts row.TransferUserData64 log = tt
edits_once journal (entry.Failed timestamp id) accounts row.TransferUserData32 log = tt
edits_once journal (entry.Failed timestamp id) accounts row.TransferLedger log = tt
edits_once journal (entry.Failed timestamp id) accounts row.TransferCode log = tt
edits_once journal (entry.Failed timestamp id) accounts row.PendingStatus log = absurd (cc)
edits_once journal (entry.Failed timestamp id) accounts row.Expiry log = absurd (cc)
edits_once journal (entry.Failed timestamp id) accounts row.ExpiryEntries log = tt
edits_once journal (entry.Failed timestamp id) accounts row.History log = tt

-- keys that a log has not, each once
abbrev pub AreNew : List (Key × Option Value) → List Edit → Type 0
AreNew fresh [] = ⊤
AreNew fresh (edit ∷ changes) = (entry_at edit.0 fresh ≡ None) × AreNew fresh changes

-- a key that a row of values has no value at has no entry there
pub no_entry : (part : Part) (key : Key) → value_of_part part key ≡ None → entry_at key part.fresh ≢ Some None → entry_at key part.fresh ≡ None
no_entry part key none value = by_entry (entry_at key part.fresh) refl where
  by_entry : (o : Option (Option Value)) → entry_at key part.fresh ≡ o → entry_at key part.fresh ≡ None
  by_entry None e = e
  by_entry (Some None) e = absurd (value e)
  by_entry (Some (Some v)) e =
      absurd (none-some v (sym none ∙ ap (λ (o : Option (Option Value)). option_flatten (first_some o (entry_of key part.below))) e))

-- and new ones, where taking them away is to take the entry back
pub are_new : (journal : List Entry) (r : Row) (part : Part) (changes : List Edit) → All (λ edit. value_of journal r edit.0 ≡ edit.1) (map taken_away changes)
    → ((k : Key) → value_of_part part k ≡ value_of journal r k) → ((k : Key) → entry_at k part.fresh ≢ Some None) → AreNew part.fresh changes
are_new journal r part [] back shows values = tt
are_new journal r part (edit ∷ changes) back shows values = (
  no_entry part edit.0 (shows edit.0 ∙ All-head (λ (other : Edit). value_of journal r other.0 ≡ other.1) (taken_away edit) (map taken_away changes) back) (values edit.0),
  are_new journal r part changes (All-tail (λ (other : Edit). value_of journal r other.0 ≡ other.1) (taken_away edit) (map taken_away changes) back) shows values,
)

pub has_of : (r : Row) (changes : List Edit) (edit : Edit) → AreOf r changes → Has changes edit → IsOf r edit
has_of r [] edit of h = absurd h
has_of r (first ∷ changes) edit of (inl e) = subst (IsOf r) e of.0
has_of r (first ∷ changes) edit of (inr h) = has_of r changes edit of.1 h
