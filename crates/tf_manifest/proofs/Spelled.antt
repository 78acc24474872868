-- A journal is spelled by four of its rows.
use Rattle.std.proofs.Common.{◌≡◌, ℕ, List, [], ◌++◌, map, Option, Some, None, refl, sym, ◌∙◌, ap, subst, inl, inr, ◌↔◌}
use Rattle.std.specs.List.{Contains, filter_map}
use Rattle.std.proofs.lemmas.Option.{none-some, same_Some}
use Rattle.tf_records.specs.declared.account.Account.{Account}
use Rattle.tf_records.specs.declared.transfer.Transfer.{Transfer}
use Rattle.tf_journal.specs.declared.entry.Entry.{Entry}
use Rattle.tf_journal.specs.declared.entry.Entry.TheVariants as entry
use Rattle.tf_journal.specs.Journal.{IsRisingFrom, account_in, accounts_of, transfer_in, transfers_of}
use Rattle.tf_journal.specs.Laws.{HasUniqueIds}
use Rattle.tf_journal.specs.Lawful.{IsSound}
use Rattle.tf_table.specs.declared.key.Key.{Key}
use Rattle.tf_manifest.specs.declared.row.Row.{Row}
use Rattle.tf_manifest.specs.declared.row.Row.TheVariants as row
use Rattle.tf_manifest.specs.declared.value.Value.{Value}
use Rattle.tf_manifest.specs.declared.value.Value.TheVariants as value
use Rattle.tf_manifest.specs.Rows.{Pair, expiry_pair, failed_pair, key_of, rows_of}
use Rattle.tf_manifest.specs.Shows.{Content, Lists, ListsRow, Shows, SpellAlike, account_spelled, entries_spelled, expiry_spelled, failure_spelled, journal_of, transfer_spelled, value_of}
use Rattle.tf_manifest.proofs.Members.{Has, chosen_from, has_chosen, has_either, has_left, has_made, has_map, has_right}
use Rattle.tf_manifest.proofs.Journals.{all_dated, all_from, all_rising, has_above, has_once, journals_same}
use Rattle.tf_manifest.proofs.OneValue.{account_entry, contained, has_at, is_expiry, is_failure, pair_found, transfer_entry}
use Rattle.tf_manifest.proofs.Pairs.{value_from, value_listed}

-- what a value is, if it is of a kind
abbrev account_value : Value → Option Account
account_value (value.Account a) = Some a
account_value _ = None

abbrev transfer_value : Value → Option Transfer
transfer_value (value.Transfer t) = Some t
transfer_value _ = None

-- a pair spells one entry
failure_spelled_same : (timestamp id : ℕ) (k : Key) (t : ℕ) (p q : Pair) → p ≡ (key_of id 0, value.FailedAt timestamp) → q ≡ (k, value.FailedAt t) → p ≡ q → entry.Failed timestamp id ≡ entry.Failed t k.value
failure_spelled_same timestamp id k t p q ep eq same = same_Some _ _ (sym (ap failure_spelled ep) ∙ ap failure_spelled same ∙ ap failure_spelled eq)

expiry_spelled_same : (timestamp pending : ℕ) (k : Key) (t : ℕ) (p q : Pair) → p ≡ (key_of 0 timestamp, value.Stamp pending) → q ≡ (k, value.Stamp t) → p ≡ q → entry.Expiry timestamp pending ≡ entry.Expiry k.timestamp t
expiry_spelled_same timestamp pending k t p q ep eq same = same_Some _ _ (sym (ap expiry_spelled ep) ∙ ap expiry_spelled same ∙ ap expiry_spelled eq)

-- an entry that a row has is in the journal
account_back : (journal : List Entry) (k : Key) (a : Account) → value_of journal row.AccountObjects k ≡ Some (value.Account a) → Has journal (entry.Account a)
account_back journal k a e =
    let made = has_made (λ (b : Account). (key_of 0 b.timestamp, value.Account b)) (accounts_of journal) (k, value.Account a) (value_from (rows_of journal row.AccountObjects) k (value.Account a) e) in
    let same : made.from ≡ a = same_Some made.from a (ap (λ (p : Pair). account_value p.1) made.is) in
    account_entry journal a (subst (Has (accounts_of journal)) same made.has)

transfer_back : (journal : List Entry) (k : Key) (t : Transfer) → value_of journal row.TransferObjects k ≡ Some (value.Transfer t) → Has journal (entry.Transfer t)
transfer_back journal k t e =
    let made = has_made (λ (u : Transfer). (key_of 0 u.timestamp, value.Transfer u)) (transfers_of journal) (k, value.Transfer t) (value_from (rows_of journal row.TransferObjects) k (value.Transfer t) e) in
    let same : made.from ≡ t = same_Some made.from t (ap (λ (p : Pair). transfer_value p.1) made.is) in
    transfer_entry journal t (subst (Has (transfers_of journal)) same made.has)

failure_back : (journal : List Entry) (k : Key) (timestamp : ℕ) → value_of journal row.TransferIds k ≡ Some (value.FailedAt timestamp) → Has journal (entry.Failed timestamp k.value)
failure_back journal k timestamp e =
    elim (has_either (map (λ (t : Transfer). (key_of t.id 0, value.Stamp t.timestamp)) (transfers_of journal)) (filter_map failed_pair journal) (k, value.FailedAt timestamp) (value_from (rows_of journal row.TransferIds) k (value.FailedAt timestamp) e)) [
      | inl stored ↦
          let made = has_made (λ (t : Transfer). (key_of t.id 0, value.Stamp t.timestamp)) (transfers_of journal) (k, value.FailedAt timestamp) stored in
          let wrong : value.Stamp made.from.timestamp ≡ value.FailedAt timestamp = ap (λ (p : Pair). p.1) made.is in
          absurd (cc)
      | inr failed ↦
          let from = chosen_from failed_pair journal (k, value.FailedAt timestamp) failed in
          let is = is_failure from.from (k, value.FailedAt timestamp) from.is in
          subst (Has journal) (is.is ∙ failure_spelled_same is.timestamp is.id k timestamp (key_of is.id 0, value.FailedAt is.timestamp) (k, value.FailedAt timestamp) refl refl is.pair) from.has
    ]

expiry_back : (journal : List Entry) (k : Key) (pending : ℕ) → value_of journal row.ExpiryEntries k ≡ Some (value.Stamp pending) → Has journal (entry.Expiry k.timestamp pending)
expiry_back journal k pending e =
    let from = chosen_from expiry_pair journal (k, value.Stamp pending) (value_from (rows_of journal row.ExpiryEntries) k (value.Stamp pending) e) in
    let is = is_expiry from.from (k, value.Stamp pending) from.is in
    subst (Has journal) (is.is ∙ expiry_spelled_same is.timestamp is.pending k pending (key_of 0 is.timestamp, value.Stamp is.pending) (k, value.Stamp pending) refl refl is.pair) from.has

-- what a journal's rows have of an entry
module _ (journal : List Entry) (rising : IsRisingFrom 0 journal) (unique : HasUniqueIds journal) where
  account_there : (a : Account) → Has journal (entry.Account a) → value_of journal row.AccountObjects (key_of 0 a.timestamp) ≡ Some (value.Account a)
  account_there a h = pair_found journal rising unique row.AccountObjects (key_of 0 a.timestamp) (value.Account a)
      (has_map (λ (b : Account). (key_of 0 b.timestamp, value.Account b)) (accounts_of journal) a (has_chosen account_in journal (entry.Account a) a h refl))

  transfer_there : (t : Transfer) → Has journal (entry.Transfer t) → value_of journal row.TransferObjects (key_of 0 t.timestamp) ≡ Some (value.Transfer t)
  transfer_there t h = pair_found journal rising unique row.TransferObjects (key_of 0 t.timestamp) (value.Transfer t)
      (has_map (λ (u : Transfer). (key_of 0 u.timestamp, value.Transfer u)) (transfers_of journal) t (has_chosen transfer_in journal (entry.Transfer t) t h refl))

  failure_there : (timestamp id : ℕ) → Has journal (entry.Failed timestamp id) → value_of journal row.TransferIds (key_of id 0) ≡ Some (value.FailedAt timestamp)
  failure_there timestamp id h = pair_found journal rising unique row.TransferIds (key_of id 0) (value.FailedAt timestamp)
      (has_right (map (λ (t : Transfer). (key_of t.id 0, value.Stamp t.timestamp)) (transfers_of journal)) (filter_map failed_pair journal) (key_of id 0, value.FailedAt timestamp)
      (has_chosen failed_pair journal (entry.Failed timestamp id) (key_of id 0, value.FailedAt timestamp) h refl))

  expiry_there : (timestamp pending : ℕ) → Has journal (entry.Expiry timestamp pending) → value_of journal row.ExpiryEntries (key_of 0 timestamp) ≡ Some (value.Stamp pending)
  expiry_there timestamp pending h = pair_found journal rising unique row.ExpiryEntries (key_of 0 timestamp) (value.Stamp pending)
      (has_chosen expiry_pair journal (entry.Expiry timestamp pending) (key_of 0 timestamp, value.Stamp pending) h refl)

  -- each entry is one of another journal that spells alike
  in_other : (other : List Entry) → SpellAlike (value_of journal) (value_of other) → (e : Entry) → Has journal e → Has other e
  in_other other alike (entry.Account a) h = account_back other (key_of 0 a.timestamp) a (sym (alike.accounts (key_of 0 a.timestamp)) ∙ account_there a h)
  in_other other alike (entry.Transfer t) h = transfer_back other (key_of 0 t.timestamp) t (sym (alike.transfers (key_of 0 t.timestamp)) ∙ transfer_there t h)
  in_other other alike (entry.Expiry timestamp pending) h = expiry_back other (key_of 0 timestamp) pending (sym (alike.expiries (key_of 0 timestamp)) ∙ expiry_there timestamp pending h)
  in_other other alike (entry.Failed timestamp id) h = failure_back other (key_of id 0) timestamp (sym (alike.ids (key_of id 0)) ∙ failure_there timestamp id h)

abbrev HaveUniqueIds : Type 0
HaveUniqueIds = (journal : List Entry) → IsSound journal → HasUniqueIds journal

alike_back : (content other : Content) → SpellAlike content other → SpellAlike other content
alike_back content other alike = record {
  accounts = λ k. sym (alike.accounts k);
  transfers = λ k. sym (alike.transfers k);
  ids = λ k. sym (alike.ids k);
  expiries = λ k. sym (alike.expiries k);
}

-- journals that spell alike are one
pub one_journal : HaveUniqueIds → (first second : List Entry) → IsSound first → IsSound second → SpellAlike (value_of first) (value_of second) → first ≡ second
one_journal unique first second one other alike =
    journals_same 0 first second one.is_journal.rising other.is_journal.rising
    (in_other first one.is_journal.rising (unique first one) second alike)
    (in_other second other.is_journal.rising (unique second other) first (alike_back (value_of first) (value_of second) alike))

-- two journals that rows show spell alike
pub shown_alike : (content : Content) (first second : List Entry) → Shows content first → Shows content second → SpellAlike (value_of first) (value_of second)
shown_alike content first second one other = record {
  accounts = λ k. sym (one row.AccountObjects k) ∙ other row.AccountObjects k;
  transfers = λ k. sym (one row.TransferObjects k) ∙ other row.TransferObjects k;
  ids = λ k. sym (one row.TransferIds k) ∙ other row.TransferIds k;
  expiries = λ k. sym (one row.ExpiryEntries k) ∙ other row.ExpiryEntries k;
}

-- a row has at a key the value of the pair with that key, and else nothing
pub rows_have : HaveUniqueIds → (journal : List Entry) → IsSound journal → (r : Row) (k : Key) (v : Value) → Contains (rows_of journal r) (k, v) ↔ (value_of journal r k ≡ Some v)
rows_have unique journal sound r k v = (
  λ c. pair_found journal sound.is_journal.rising (unique journal sound) r k v (has_at (rows_of journal r) c.0 (k, v) c.1 c.2),
  λ e. contained (rows_of journal r) (k, v) (value_from (rows_of journal r) k v e),
)

-- the entries that listed rows spell are those of the journal that they show
module _ (pairs : Row → List Pair) (content : Content) (lists : Lists pairs content) (journal : List Entry) (shows : Shows content journal) where
  listed : (r : Row) → ListsRow pairs content r → (k : Key) (v : Value) → Has (pairs r) (k, v) → value_of journal r k ≡ Some v
  listed r row k v h = sym (shows r k) ∙ sym (row.values k) ∙ value_listed (pairs r) k v row.rising h

  lists_it : (r : Row) → ListsRow pairs content r → (k : Key) (v : Value) → value_of journal r k ≡ Some v → Has (pairs r) (k, v)
  lists_it r row k v e = value_from (pairs r) k v (row.values k ∙ shows r k ∙ e)

  account_listed : (p : Pair) (e : Entry) → Has (pairs row.AccountObjects) p → account_spelled p ≡ Some e → Has journal e
  account_listed (k, value.Account a) e h s = subst (Has journal) (same_Some (entry.Account a) e s) (account_back journal k a (listed row.AccountObjects lists.accounts k (value.Account a) h))
  account_listed (k, value.Transfer t) e h s = absurd (none-some e s)
  account_listed (k, value.Stamp t) e h s = absurd (none-some e s)
  account_listed (k, value.FailedAt t) e h s = absurd (none-some e s)
  account_listed (k, value.Unit) e h s = absurd (none-some e s)
  account_listed (k, value.State t) e h s = absurd (none-some e s)
  account_listed (k, value.Sums t) e h s = absurd (none-some e s)
  account_listed (k, value.Status t) e h s = absurd (none-some e s)

  transfer_listed : (p : Pair) (e : Entry) → Has (pairs row.TransferObjects) p → transfer_spelled p ≡ Some e → Has journal e
  transfer_listed (k, value.Transfer t) e h s = subst (Has journal) (same_Some (entry.Transfer t) e s) (transfer_back journal k t (listed row.TransferObjects lists.transfers k (value.Transfer t) h))
  transfer_listed (k, value.Account t) e h s = absurd (none-some e s)
  transfer_listed (k, value.Stamp t) e h s = absurd (none-some e s)
  transfer_listed (k, value.FailedAt t) e h s = absurd (none-some e s)
  transfer_listed (k, value.Unit) e h s = absurd (none-some e s)
  transfer_listed (k, value.State t) e h s = absurd (none-some e s)
  transfer_listed (k, value.Sums t) e h s = absurd (none-some e s)
  transfer_listed (k, value.Status t) e h s = absurd (none-some e s)

  failure_listed : (p : Pair) (e : Entry) → Has (pairs row.TransferIds) p → failure_spelled p ≡ Some e → Has journal e
  failure_listed (k, value.FailedAt t) e h s = subst (Has journal) (same_Some (entry.Failed t k.value) e s) (failure_back journal k t (listed row.TransferIds lists.ids k (value.FailedAt t) h))
  failure_listed (k, value.Account t) e h s = absurd (none-some e s)
  failure_listed (k, value.Transfer t) e h s = absurd (none-some e s)
  failure_listed (k, value.Stamp t) e h s = absurd (none-some e s)
  failure_listed (k, value.Unit) e h s = absurd (none-some e s)
  failure_listed (k, value.State t) e h s = absurd (none-some e s)
  failure_listed (k, value.Sums t) e h s = absurd (none-some e s)
  failure_listed (k, value.Status t) e h s = absurd (none-some e s)

  expiry_listed : (p : Pair) (e : Entry) → Has (pairs row.ExpiryEntries) p → expiry_spelled p ≡ Some e → Has journal e
  expiry_listed (k, value.Stamp t) e h s = subst (Has journal) (same_Some (entry.Expiry k.timestamp t) e s) (expiry_back journal k t (listed row.ExpiryEntries lists.expiries k (value.Stamp t) h))
  expiry_listed (k, value.Account t) e h s = absurd (none-some e s)
  expiry_listed (k, value.Transfer t) e h s = absurd (none-some e s)
  expiry_listed (k, value.FailedAt t) e h s = absurd (none-some e s)
  expiry_listed (k, value.Unit) e h s = absurd (none-some e s)
  expiry_listed (k, value.State t) e h s = absurd (none-some e s)
  expiry_listed (k, value.Sums t) e h s = absurd (none-some e s)
  expiry_listed (k, value.Status t) e h s = absurd (none-some e s)

  -- of one row
  from_row : (spelled : Pair → Option Entry) (ps : List Pair) → ((p : Pair) (e : Entry) → Has ps p → spelled p ≡ Some e → Has journal e) → (e : Entry) → Has (filter_map spelled ps) e → Has journal e
  from_row spelled ps each e h = let from = chosen_from spelled ps e h in each from.from e from.has from.is

  abbrev accounts : List Entry
  accounts = filter_map account_spelled (pairs row.AccountObjects)

  abbrev transfers : List Entry
  transfers = filter_map transfer_spelled (pairs row.TransferObjects)

  abbrev failures : List Entry
  failures = filter_map failure_spelled (pairs row.TransferIds)

  abbrev expiries : List Entry
  expiries = filter_map expiry_spelled (pairs row.ExpiryEntries)

  spelled_from : (e : Entry) → Has (entries_spelled pairs) e → Has journal e
  spelled_from e h = elim (has_either (accounts ++ transfers ++ failures) expiries e h) [
    | inr one ↦ from_row expiry_spelled (pairs row.ExpiryEntries) expiry_listed e one
    | inl three ↦ elim (has_either (accounts ++ transfers) failures e three) [
      | inr one ↦ from_row failure_spelled (pairs row.TransferIds) failure_listed e one
      | inl two ↦ elim (has_either accounts transfers e two) [
        | inr one ↦ from_row transfer_spelled (pairs row.TransferObjects) transfer_listed e one
        | inl one ↦ from_row account_spelled (pairs row.AccountObjects) account_listed e one
      ]
    ]
  ]

  spelled_all : IsRisingFrom 0 journal → HasUniqueIds journal → (e : Entry) → Has journal e → Has (entries_spelled pairs) e
  spelled_all rising unique (entry.Account a) h =
      let k = key_of 0 a.timestamp in
      let e = entry.Account a in
      has_left (accounts ++ transfers ++ failures) expiries e (has_left (accounts ++ transfers) failures e (has_left accounts transfers e
      (has_chosen account_spelled (pairs row.AccountObjects) (k, value.Account a) e (lists_it row.AccountObjects lists.accounts k (value.Account a) (account_there journal rising unique a h)) refl)))
  spelled_all rising unique (entry.Transfer t) h =
      let k = key_of 0 t.timestamp in
      let e = entry.Transfer t in
      has_left (accounts ++ transfers ++ failures) expiries e (has_left (accounts ++ transfers) failures e (has_right accounts transfers e
      (has_chosen transfer_spelled (pairs row.TransferObjects) (k, value.Transfer t) e (lists_it row.TransferObjects lists.transfers k (value.Transfer t) (transfer_there journal rising unique t h)) refl)))
  spelled_all rising unique (entry.Failed timestamp id) h =
      let k = key_of id 0 in
      let e = entry.Failed timestamp id in
      has_left (accounts ++ transfers ++ failures) expiries e (has_right (accounts ++ transfers) failures e
      (has_chosen failure_spelled (pairs row.TransferIds) (k, value.FailedAt timestamp) e (lists_it row.TransferIds lists.ids k (value.FailedAt timestamp) (failure_there journal rising unique timestamp id h)) refl))
  spelled_all rising unique (entry.Expiry timestamp pending) h =
      let k = key_of 0 timestamp in
      let e = entry.Expiry timestamp pending in
      has_right (accounts ++ transfers ++ failures) expiries e
      (has_chosen expiry_spelled (pairs row.ExpiryEntries) (k, value.Stamp pending) e (lists_it row.ExpiryEntries lists.expiries k (value.Stamp pending) (expiry_there journal rising unique timestamp pending h)) refl)

  put_back : (e : Entry) → Has (journal_of pairs) e → Has journal e
  put_back e h = elim (all_from [] (entries_spelled pairs) e h) [
    | inl none ↦ absurd none
    | inr spelled ↦ spelled_from e spelled
  ]

  is_journal : IsRisingFrom 0 journal → HasUniqueIds journal → journal_of pairs ≡ journal
  is_journal rising unique =
      journals_same 0 (journal_of pairs) journal
      (all_rising 0 [] (entries_spelled pairs) tt (λ x h. has_above 0 journal x rising (spelled_from x h))) rising put_back
      (λ e h.
      let dated = all_dated [] (entries_spelled pairs) e (spelled_all rising unique e h) in
      let same : dated.entry ≡ e = has_once 0 journal dated.entry e rising (put_back dated.entry dated.has) h dated.is in
      subst (Has (journal_of pairs)) same dated.has)

-- the rows that show a journal spell it
pub journal_spelled : HaveUniqueIds → (content : Content) (pairs : Row → List Pair) (journal : List Entry) → IsSound journal → Shows content journal → Lists pairs content → journal_of pairs ≡ journal
journal_spelled unique content pairs journal sound shows lists = is_journal pairs content lists journal shows sound.is_journal.rising (unique journal sound)
