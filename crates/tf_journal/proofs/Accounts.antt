-- The accounts of a transfer are stored.
use Rattle.std.proofs.Common.{◌≡◌, ℕ, List, [], ◌∷◌, ◌++◌, Some, refl, ap, sym, ◌∙◌, subst, inl, inr}
use Rattle.std.specs.Prelude.{◌==◌}
use Rattle.std.specs.List.{All, find}
use Rattle.std.proofs.lemmas.List.Elements.{All-nil, All-push, All-weaker, filter_map-append}
use Rattle.tf_records.specs.declared.account.Account.{Account}
use Rattle.tf_records.specs.declared.transfer.Transfer.{Transfer}
use Rattle.tf_journal.specs.declared.entry.Entry.{Entry}
use Rattle.tf_journal.specs.declared.entry.Entry.TheVariants as entry
use Rattle.tf_journal.specs.declared.side.Side.{Side}
use Rattle.tf_journal.specs.declared.side.Side.TheVariants.{Debit, Credit}
use Rattle.tf_journal.specs.Balances.{account_on}
use Rattle.tf_journal.specs.Journal.{account_in, accounts_of, transfers_of}
use Rattle.tf_journal.specs.Laws.{HasAccounts}
use Rattle.tf_journal.specs.Lawful.{IsAdmitted, IsAdmittedTransfer, IsSound}
use Rattle.tf_journal.specs.Lookup.{account_with_id}
use Rattle.tf_journal.proofs.Accepted.{transfer_new}
use Rattle.tf_journal.proofs.Lists.{find_All, find_push_some}
use Rattle.tf_journal.proofs.Sound.{by_growth}
use Rattle.tf_journal.proofs.Steps.{has_id}
use Rattle.tf_journal.proofs.Unique.{transfers_kept, transfers_push}

-- a stored account stays stored
pub account_stays : (journal : List Entry) (e : Entry) (id : ℕ) (account : Account) → account_with_id journal id ≡ Some account
    → account_with_id (journal ++ e ∷ []) id ≡ Some account
account_stays journal e id account stored =
    ap (λ accounts. find (λ a. a.id == id) accounts) (filter_map-append account_in journal (e ∷ []))
    ∙ find_push_some (λ a. a.id == id) (accounts_of journal) (accounts_of (e ∷ [])) account stored

has_accounts_stays : (journal : List Entry) (e : Entry) (transfer : Transfer) → HasAccounts journal transfer → HasAccounts (journal ++ e ∷ []) transfer
has_accounts_stays journal e transfer has = record {
  debit = has.debit;
  credit = has.credit;
  debit_stored = account_stays journal e transfer.debit_account_id has.debit has.debit_stored;
  credit_stored = account_stays journal e transfer.credit_account_id has.credit has.credit_stored;
  differ = has.differ;
  debit_ledger = has.debit_ledger;
  credit_ledger = has.credit_ledger;
}

abbrev pub AllHaveAccounts : List Entry → Type 0
AllHaveAccounts journal = All (HasAccounts journal) (transfers_of journal)

-- an admitted transfer has its accounts: its own, or those of the pending transfer that it names
new_has_accounts : (journal : List Entry) (transfer : Transfer) → AllHaveAccounts journal → IsAdmittedTransfer journal transfer → HasAccounts journal transfer
new_has_accounts journal transfer all admitted =
    elim (transfer_new journal transfer admitted) [
      | inl new ↦
          let pending = new.pending in
          let has = find_All (HasAccounts journal) (has_id transfer.pending_id) (transfers_of journal) pending all new.named in
          record {
            debit = has.debit;
            credit = has.credit;
            debit_stored = subst (λ id. account_with_id journal id ≡ Some has.debit) (sym new.debit) has.debit_stored;
            credit_stored = subst (λ id. account_with_id journal id ≡ Some has.credit) (sym new.credit) has.credit_stored;
            differ = λ same. has.differ (sym new.debit ∙ same ∙ new.credit);
            debit_ledger = has.debit_ledger ∙ sym new.ledger;
            credit_ledger = has.credit_ledger ∙ sym new.ledger;
          }
      | inr new ↦ record {
        debit = new.debit;
        credit = new.credit;
        debit_stored = new.debit_stored;
        credit_stored = new.credit_stored;
        differ = new.differ;
        debit_ledger = new.debit_ledger;
        credit_ledger = new.credit_ledger;
      }
    ]

accounts_stay : (journal : List Entry) (e : Entry) → AllHaveAccounts journal → All (HasAccounts (journal ++ e ∷ [])) (transfers_of journal)
accounts_stay journal e all = All-weaker (HasAccounts journal) (HasAccounts (journal ++ e ∷ [])) (has_accounts_stays journal e) (transfers_of journal) all

have_accounts_push : (journal : List Entry) (e : Entry) → AllHaveAccounts journal → IsAdmitted journal e → AllHaveAccounts (journal ++ e ∷ [])
have_accounts_push journal (entry.Account account) all admitted =
    let e = entry.Account account in
    subst (All (HasAccounts (journal ++ e ∷ []))) (sym (transfers_kept journal e refl)) (accounts_stay journal e all)
have_accounts_push journal (entry.Transfer transfer) all admitted =
    let e = entry.Transfer transfer in
    let after = journal ++ e ∷ [] in
    subst (All (HasAccounts after)) (sym (transfers_push journal transfer))
    (All-push (HasAccounts after) (transfers_of journal) transfer (accounts_stay journal e all)
    (has_accounts_stays journal e transfer (new_has_accounts journal transfer all admitted)))
have_accounts_push journal (entry.Expiry timestamp pending) all admitted =
    let e = entry.Expiry timestamp pending in
    subst (All (HasAccounts (journal ++ e ∷ []))) (sym (transfers_kept journal e refl)) (accounts_stay journal e all)
have_accounts_push journal (entry.Failed timestamp id) all admitted =
    let e = entry.Failed timestamp id in
    subst (All (HasAccounts (journal ++ e ∷ []))) (sym (transfers_kept journal e refl)) (accounts_stay journal e all)

-- in a sound journal the accounts of each transfer are stored
pub sound_has_accounts : (journal : List Entry) → IsSound journal → All (HasAccounts journal) (transfers_of journal)
sound_has_accounts journal sound =
    by_growth AllHaveAccounts (All-nil (HasAccounts [])) (λ j e before grows all. have_accounts_push j e all grows.admitted) journal sound

-- the account that a transfer has on a side is stored
pub account_is_stored : (journal : List Entry) (side : Side) (transfer : Transfer) → HasAccounts journal transfer
    → (account : Account) × (account_with_id journal (account_on side transfer) ≡ Some account)
account_is_stored journal Debit transfer has = (has.debit, has.debit_stored)
account_is_stored journal Credit transfer has = (has.credit, has.credit_stored)
