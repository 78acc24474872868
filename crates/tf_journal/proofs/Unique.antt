-- Ids and timestamps are there once.
use Rattle.std.proofs.Common.{◌≡◌, ◌≢◌, ℕ, ◌<◌, true, false, cond, List, [], ◌∷◌, ◌++◌, Some, None, refl, ap, sym, ◌∙◌, subst, arith, inl, inr}
use Rattle.std.specs.Prelude.{◌==◌}
use Rattle.std.specs.List.{All, AllPairs, find}
use Rattle.std.proofs.lemmas.Bool.{both_ways, eqb-true, eqb-false, ne_eqb, or_cases}
use Rattle.std.proofs.lemmas.Option.{same_Some}
use Rattle.std.proofs.lemmas.List.Elements.{All-weaker}
use Rattle.std.proofs.lemmas.List.Quantifiers.{all_pairs_push}
use Rattle.tf_records.specs.declared.account.Account.{Account}
use Rattle.tf_records.specs.declared.transfer.Transfer.{Transfer}
use Rattle.tf_journal.specs.declared.entry.Entry.{Entry}
use Rattle.tf_journal.specs.declared.entry.Entry.TheVariants as entry
use Rattle.tf_journal.specs.Journal.{account_in, transfer_in, accounts_of, transfers_of, fails, is_failed, timestamp_of}
use Rattle.tf_journal.specs.Laws.{HasUniqueIds, failed_in, failed_ids}
use Rattle.tf_journal.specs.Lawful.{IsAdmitted, IsSound}
use Rattle.tf_journal.specs.Lookup.{account_with_id, transfer_with_id}
use Rattle.tf_journal.proofs.Accepted.{IsNewId, account_is_new, transfer_is_new}
use Rattle.tf_journal.proofs.Lists.{All-filter_map, filter_map_push_some, filter_map_push_none, find_none, find_push_none, list_any_push, none_passes}
use Rattle.tf_journal.proofs.Sound.{all_earlier, by_growth}

-- the accounts after one more entry
pub accounts_push : (journal : List Entry) (account : Account) → accounts_of (journal ++ entry.Account account ∷ []) ≡ accounts_of journal ++ account ∷ []
accounts_push journal account = filter_map_push_some account_in journal (entry.Account account) account refl

-- the transfers after one more entry
pub transfers_push : (journal : List Entry) (transfer : Transfer) → transfers_of (journal ++ entry.Transfer transfer ∷ []) ≡ transfers_of journal ++ transfer ∷ []
transfers_push journal transfer = filter_map_push_some transfer_in journal (entry.Transfer transfer) transfer refl

-- no account is added by another entry
pub accounts_kept : (journal : List Entry) (e : Entry) → account_in e ≡ None → accounts_of (journal ++ e ∷ []) ≡ accounts_of journal
accounts_kept journal e is = filter_map_push_none account_in journal e is

-- no transfer is added by another entry
pub transfers_kept : (journal : List Entry) (e : Entry) → transfer_in e ≡ None → transfers_of (journal ++ e ∷ []) ≡ transfers_of journal
transfers_kept journal e is = filter_map_push_none transfer_in journal e is

failed_kept : (journal : List Entry) (e : Entry) → failed_in e ≡ None → failed_ids (journal ++ e ∷ []) ≡ failed_ids journal
failed_kept journal e is = filter_map_push_none failed_in journal e is

-- the keys of a list differ pairwise
abbrev pub DifferBy : {X : Type 0} → (X → ℕ) → List X → Type 0
DifferBy key xs = AllPairs (λ first second. key first ≢ key second) xs

differ_push : {X : Type 0} (key : X → ℕ) (xs : List X) (y : X) → DifferBy key xs → All (λ x. key x ≢ key y) xs → DifferBy key (xs ++ y ∷ [])
differ_push key xs y pairs new = all_pairs_push (λ first second. key first ≢ key second) xs y pairs new

-- a key that isn't found is that of no element
not_found : {X : Type 0} (key : X → ℕ) (xs : List X) (n : ℕ) → find (λ x. key x == n) xs ≡ None → All (λ x. key x ≢ n) xs
not_found key xs n none k d within = eqb-false _ _ (find_none (λ x. key x == n) xs none k d within)

abbrev pub id_of_account : Account → ℕ
id_of_account account = account.id

abbrev pub id_of_transfer : Transfer → ℕ
id_of_transfer transfer = transfer.id

abbrev itself : ℕ → ℕ
itself id = id

-- no id is both stored and failed
abbrev IsStoredOrFailed : List Entry → Type 0
IsStoredOrFailed journal = (id : ℕ) → is_failed journal id ≡ true → transfer_with_id journal id ≡ None

-- no id is both where an entry adds no transfer, and fails none that is stored
stored_or_failed_kept : (journal : List Entry) (e : Entry) → IsStoredOrFailed journal → transfer_in e ≡ None
    → ((id : ℕ) → fails id e ≡ true → transfer_with_id journal id ≡ None) → IsStoredOrFailed (journal ++ e ∷ [])
stored_or_failed_kept journal e is other failing id failed =
    let before : transfer_with_id journal id ≡ None = elim (or_cases _ _ (sym (list_any_push (fails id) journal e) ∙ failed)) [
      | inl earlier ↦ is id earlier
      | inr now ↦ failing id now
    ] in
    ap (λ ts. find (λ t. t.id == id) ts) (transfers_kept journal e other) ∙ before

stored_or_failed_transfer : (journal : List Entry) (transfer : Transfer) → IsStoredOrFailed journal → IsNewId journal transfer.id
    → IsStoredOrFailed (journal ++ entry.Transfer transfer ∷ [])
stored_or_failed_transfer journal transfer is new id failed =
    elim (or_cases _ _ (sym (list_any_push (fails id) journal (entry.Transfer transfer)) ∙ failed)) [
      | inl earlier ↦
          let other : transfer.id ≢ id = λ same. both_ways (is_failed journal id) (subst (λ n. is_failed journal n ≡ false) same new.not_failed) earlier in
          ap (λ ts. find (λ t. t.id == id) ts) (transfers_push journal transfer)
          ∙ find_push_none (λ t. t.id == id) (transfers_of journal) (transfer ∷ []) (is id earlier)
          ∙ ap (λ b. cond b (Some transfer) None) (ne_eqb transfer.id id other)
      | inr now ↦ cc
    ]

failed_differs : (id : ℕ) (e : Entry) (failed : ℕ) → failed_in e ≡ Some failed → fails id e ≡ false → failed ≢ id
failed_differs id (entry.Account account) failed is other = cc
failed_differs id (entry.Transfer transfer) failed is other = cc
failed_differs id (entry.Expiry timestamp pending) failed is other = cc
failed_differs id (entry.Failed timestamp this) failed is other = subst (λ n. n ≢ id) (same_Some this failed is) (eqb-false this id other)

failed_ids_differ : (journal : List Entry) (id : ℕ) → is_failed journal id ≡ false → All (λ failed. failed ≢ id) (failed_ids journal)
failed_ids_differ journal id not_failed =
    All-filter_map (λ e. fails id e ≡ false) (λ failed. failed ≢ id) failed_in (failed_differs id) journal (none_passes (fails id) journal not_failed)

-- an admitted entry keeps the ids unique
unique_push : (journal : List Entry) (e : Entry) → HasUniqueIds journal → IsAdmitted journal e → HasUniqueIds (journal ++ e ∷ [])
unique_push journal (entry.Account account) unique admitted =
    let e = entry.Account account in
    let same : admitted.event.id ≡ account.id = ap id_of_account admitted.stored in
    let new = subst (λ id. account_with_id journal id ≡ None) same (account_is_new journal account.timestamp admitted.event admitted.accepted) in
    record {
      accounts = subst (DifferBy id_of_account) (sym (accounts_push journal account))
          (differ_push id_of_account (accounts_of journal) account unique.accounts (not_found id_of_account (accounts_of journal) account.id new));
      transfers = subst (DifferBy id_of_transfer) (sym (transfers_kept journal e refl)) unique.transfers;
      failed = subst (DifferBy itself) (sym (failed_kept journal e refl)) unique.failed;
      stored_or_failed = stored_or_failed_kept journal e unique.stored_or_failed refl (λ id now. cc);
    }
unique_push journal (entry.Transfer transfer) unique admitted =
    let e = entry.Transfer transfer in
    let new = transfer_is_new journal transfer admitted in
    record {
      accounts = subst (DifferBy id_of_account) (sym (accounts_kept journal e refl)) unique.accounts;
      transfers = subst (DifferBy id_of_transfer) (sym (transfers_push journal transfer))
          (differ_push id_of_transfer (transfers_of journal) transfer unique.transfers (not_found id_of_transfer (transfers_of journal) transfer.id new.not_stored));
      failed = subst (DifferBy itself) (sym (failed_kept journal e refl)) unique.failed;
      stored_or_failed = stored_or_failed_transfer journal transfer unique.stored_or_failed new;
    }
unique_push journal (entry.Expiry timestamp pending) unique admitted =
    let e = entry.Expiry timestamp pending in
    record {
      accounts = subst (DifferBy id_of_account) (sym (accounts_kept journal e refl)) unique.accounts;
      transfers = subst (DifferBy id_of_transfer) (sym (transfers_kept journal e refl)) unique.transfers;
      failed = subst (DifferBy itself) (sym (failed_kept journal e refl)) unique.failed;
      stored_or_failed = stored_or_failed_kept journal e unique.stored_or_failed refl (λ id now. cc);
    }
unique_push journal (entry.Failed timestamp id) unique admitted =
    let e = entry.Failed timestamp id in
    record {
      accounts = subst (DifferBy id_of_account) (sym (accounts_kept journal e refl)) unique.accounts;
      transfers = subst (DifferBy id_of_transfer) (sym (transfers_kept journal e refl)) unique.transfers;
      failed = subst (DifferBy itself) (sym (filter_map_push_some failed_in journal e id refl))
          (differ_push itself (failed_ids journal) id unique.failed (failed_ids_differ journal id admitted.not_failed));
      stored_or_failed = stored_or_failed_kept journal e unique.stored_or_failed refl
          (λ other now. subst (λ n. transfer_with_id journal n ≡ None) (eqb-true id other now) admitted.not_stored);
    }

unique_nothing : HasUniqueIds []
unique_nothing = record {
  accounts = λ i j d before within. absurd (omega arith);
  transfers = λ i j d before within. absurd (omega arith);
  failed = λ i j d before within. absurd (omega arith);
  stored_or_failed = λ id failed. refl;
}

-- the ids of a sound journal are unique
pub sound_unique : (journal : List Entry) → IsSound journal → HasUniqueIds journal
sound_unique journal sound = by_growth HasUniqueIds unique_nothing (λ j e sound grows unique. unique_push j e unique grows.admitted) journal sound

abbrev pub timestamp_of_transfer : Transfer → ℕ
timestamp_of_transfer transfer = transfer.timestamp

earlier_transfer : (moment : ℕ) (e : Entry) (transfer : Transfer) → transfer_in e ≡ Some transfer → timestamp_of e < moment → transfer.timestamp < moment
earlier_transfer moment (entry.Account account) transfer is earlier = cc
earlier_transfer moment (entry.Transfer this) transfer is earlier = subst (λ t. t.timestamp < moment) (same_Some this transfer is) earlier
earlier_transfer moment (entry.Expiry timestamp pending) transfer is earlier = cc
earlier_transfer moment (entry.Failed timestamp id) transfer is earlier = cc

-- the transfers of a journal are no later than its entries
pub transfers_earlier : (journal : List Entry) (moment : ℕ) → All (λ e. timestamp_of e < moment) journal → All (λ t. t.timestamp < moment) (transfers_of journal)
transfers_earlier journal moment all =
    All-filter_map (λ e. timestamp_of e < moment) (λ t. t.timestamp < moment) transfer_in (earlier_transfer moment) journal all

timestamp_push : (journal : List Entry) (e : Entry) → All (λ x. timestamp_of x < timestamp_of e) journal
    → DifferBy timestamp_of_transfer (transfers_of journal) → DifferBy timestamp_of_transfer (transfers_of (journal ++ e ∷ []))
timestamp_push journal (entry.Account account) all differ = subst (DifferBy timestamp_of_transfer) (sym (transfers_kept journal (entry.Account account) refl)) differ
timestamp_push journal (entry.Transfer transfer) all differ =
    let earlier = transfers_earlier journal transfer.timestamp all in
    subst (DifferBy timestamp_of_transfer) (sym (transfers_push journal transfer))
    (differ_push timestamp_of_transfer (transfers_of journal) transfer differ
    (All-weaker (λ t. t.timestamp < transfer.timestamp) (λ t. t.timestamp ≢ transfer.timestamp) (λ t before. omega arith) (transfers_of journal) earlier))
timestamp_push journal (entry.Expiry timestamp pending) all differ = subst (DifferBy timestamp_of_transfer) (sym (transfers_kept journal (entry.Expiry timestamp pending) refl)) differ
timestamp_push journal (entry.Failed timestamp id) all differ = subst (DifferBy timestamp_of_transfer) (sym (transfers_kept journal (entry.Failed timestamp id) refl)) differ

-- no two transfers of a sound journal have one timestamp
pub timestamps_differ : (journal : List Entry) → IsSound journal → DifferBy timestamp_of_transfer (transfers_of journal)
timestamps_differ journal sound =
    by_growth (λ j. DifferBy timestamp_of_transfer (transfers_of j)) (λ i j d before within. absurd (omega arith))
    (λ j e before grows differ. timestamp_push j e (all_earlier j e grows.is_journal) differ) journal sound
