-- Rows that an entry only adds pairs to: objects, ids, indexes and the entries of expiries.
use Rattle.std.proofs.Common.{◌≡◌, List, [], ◌∷◌, ◌++◌, map, Some, None, refl, ap, sym, ◌∙◌, append_assoc, append-nil}
use Rattle.std.specs.List.{filter_map}
use Rattle.std.proofs.lemmas.List.{map-append}
use Rattle.tf_records.specs.declared.account.Account.{Account}
use Rattle.tf_records.specs.declared.transfer.Transfer.{Transfer}
use Rattle.tf_journal.specs.declared.entry.Entry.{Entry}
use Rattle.tf_journal.specs.declared.entry.Entry.TheVariants as entry
use Rattle.tf_journal.specs.Journal.{account_in, transfer_in}
use Rattle.tf_journal.proofs.Lists.{filter_map_push_none, filter_map_push_some}
use Rattle.tf_journal.proofs.Unique.{accounts_kept, accounts_push, transfers_kept, transfers_push}
use Rattle.tf_manifest.specs.declared.row.Row.TheVariants as row
use Rattle.tf_manifest.specs.declared.value.Value.TheVariants as value
use Rattle.tf_manifest.specs.Rows.{Pair, expiry_pair, failed_pair, for_accounts, for_transfers, key_of, rows_of}
use Rattle.tf_rows.proofs.Changes.{IsChange, grown, put_pair, unchanged}

-- pairs at the end
pub grown_behind : (before after new : List Pair) → after ≡ before ++ new → IsChange before after (map put_pair new)
grown_behind before after new is =
    grown before after before new [] (sym (append-nil before)) (is ∙ ap (λ (ps : List Pair). before ++ ps) (sym (append-nil new)))

pub account_row : (journal : List Entry) (account : Account) (pair : Account → Pair)
    → IsChange (for_accounts journal pair) (for_accounts (journal ++ entry.Account account ∷ []) pair) (map put_pair (pair account ∷ []))
account_row journal account pair =
    grown_behind (for_accounts journal pair) (for_accounts (journal ++ entry.Account account ∷ []) pair) (pair account ∷ [])
    (ap (map pair) (accounts_push journal account) ∙ map-append pair _ (account ∷ []))

pub account_row_stays : (journal : List Entry) (e : Entry) (pair : Account → Pair) → account_in e ≡ None
    → IsChange (for_accounts journal pair) (for_accounts (journal ++ e ∷ []) pair) []
account_row_stays journal e pair none = unchanged (for_accounts journal pair) (for_accounts (journal ++ e ∷ []) pair) (ap (map pair) (accounts_kept journal e none))

pub transfer_row : (journal : List Entry) (transfer : Transfer) (pair : Transfer → Pair)
    → IsChange (for_transfers journal pair) (for_transfers (journal ++ entry.Transfer transfer ∷ []) pair) (map put_pair (pair transfer ∷ []))
transfer_row journal transfer pair =
    grown_behind (for_transfers journal pair) (for_transfers (journal ++ entry.Transfer transfer ∷ []) pair) (pair transfer ∷ [])
    (ap (map pair) (transfers_push journal transfer) ∙ map-append pair _ (transfer ∷ []))

pub transfer_row_stays : (journal : List Entry) (e : Entry) (pair : Transfer → Pair) → transfer_in e ≡ None
    → IsChange (for_transfers journal pair) (for_transfers (journal ++ e ∷ []) pair) []
transfer_row_stays journal e pair none = unchanged (for_transfers journal pair) (for_transfers (journal ++ e ∷ []) pair) (ap (map pair) (transfers_kept journal e none))

abbrev pub id_pair : Transfer → Pair
id_pair transfer = (key_of transfer.id 0, value.Stamp transfer.timestamp)

abbrev stored_ids : List Entry → List Pair
stored_ids journal = for_transfers journal id_pair

abbrev failures : List Entry → List Pair
failures journal = filter_map failed_pair journal

pub ids_stay : (journal : List Entry) (e : Entry) → transfer_in e ≡ None → failed_pair e ≡ None
    → IsChange (rows_of journal row.TransferIds) (rows_of (journal ++ e ∷ []) row.TransferIds) []
ids_stay journal e no_transfer no_failure =
    unchanged (rows_of journal row.TransferIds) (rows_of (journal ++ e ∷ []) row.TransferIds)
    (ap (λ (ts : List Transfer). map id_pair ts ++ failures (journal ++ e ∷ [])) (transfers_kept journal e no_transfer)
    ∙ ap (λ (ps : List Pair). stored_ids journal ++ ps) (filter_map_push_none failed_pair journal e no_failure))

pub ids_grow : (journal : List Entry) (transfer : Transfer)
    → IsChange (rows_of journal row.TransferIds) (rows_of (journal ++ entry.Transfer transfer ∷ []) row.TransferIds) (map put_pair (id_pair transfer ∷ []))
ids_grow journal transfer =
    let e = entry.Transfer transfer in
    grown (rows_of journal row.TransferIds) (rows_of (journal ++ e ∷ []) row.TransferIds) (stored_ids journal) (id_pair transfer ∷ []) (failures journal) refl
    (ap (λ (ps : List Pair). stored_ids (journal ++ e ∷ []) ++ ps) (filter_map_push_none failed_pair journal e refl)
    ∙ ap (λ (ps : List Pair). ps ++ failures journal) (ap (map id_pair) (transfers_push journal transfer) ∙ map-append id_pair _ (transfer ∷ []))
    ∙ append_assoc (stored_ids journal) (id_pair transfer ∷ []) (failures journal))

pub ids_fail : (journal : List Entry) (e : Entry) (p : Pair) → transfer_in e ≡ None → failed_pair e ≡ Some p
    → IsChange (rows_of journal row.TransferIds) (rows_of (journal ++ e ∷ []) row.TransferIds) (map put_pair (p ∷ []))
ids_fail journal e p no_transfer fails =
    grown_behind (rows_of journal row.TransferIds) (rows_of (journal ++ e ∷ []) row.TransferIds) (p ∷ [])
    (ap (λ (ts : List Transfer). map id_pair ts ++ failures (journal ++ e ∷ [])) (transfers_kept journal e no_transfer)
    ∙ ap (λ (ps : List Pair). stored_ids journal ++ ps) (filter_map_push_some failed_pair journal e p fails)
    ∙ sym (append_assoc (stored_ids journal) (failures journal) (p ∷ [])))

pub expiries_stay : (journal : List Entry) (e : Entry) → expiry_pair e ≡ None
    → IsChange (rows_of journal row.ExpiryEntries) (rows_of (journal ++ e ∷ []) row.ExpiryEntries) []
expiries_stay journal e none =
    unchanged (rows_of journal row.ExpiryEntries) (rows_of (journal ++ e ∷ []) row.ExpiryEntries) (filter_map_push_none expiry_pair journal e none)

pub expiries_grow : (journal : List Entry) (e : Entry) (p : Pair) → expiry_pair e ≡ Some p
    → IsChange (rows_of journal row.ExpiryEntries) (rows_of (journal ++ e ∷ []) row.ExpiryEntries) (map put_pair (p ∷ []))
expiries_grow journal e p expires =
    grown_behind (rows_of journal row.ExpiryEntries) (rows_of (journal ++ e ∷ []) row.ExpiryEntries) (p ∷ []) (filter_map_push_some expiry_pair journal e p expires)
