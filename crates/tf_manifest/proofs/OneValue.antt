-- No row of a sound journal has two values at one key.
use Rattle.std.proofs.Common.{◌≡◌, ◌≢◌, ℕ, ◌<◌, zero, suc, List, [], ◌∷◌, ◌++◌, length, map, Some, Bool, true, filter, ◌⊎◌, refl, sym, ◌∙◌, ap, subst, arith, inl, inr}
use Rattle.std.specs.Prelude.{◌==◌}
use Rattle.std.specs.List.{AllPairs, Contains, filter_map, flat_map, slice_index_or}
use Rattle.std.proofs.lemmas.Bool.{eq-eqb}
use Rattle.std.proofs.lemmas.Option.{none-some, same_Some}
use Rattle.tf_records.specs.declared.account.Account.{Account}
use Rattle.tf_records.specs.declared.transfer.Transfer.{Transfer}
use Rattle.tf_journal.specs.declared.entry.Entry.{Entry}
use Rattle.tf_journal.specs.declared.entry.Entry.TheVariants as entry
use Rattle.tf_journal.specs.declared.side.Side.{Side}
use Rattle.tf_journal.specs.declared.side.Side.TheVariants.{Debit, Credit}
use Rattle.tf_journal.specs.Answer.{cut_after}
use Rattle.tf_journal.specs.Balances.{account_on, balances_of}
use Rattle.tf_journal.specs.Flags.{is_pending}
use Rattle.tf_journal.specs.Journal.{IsRisingFrom, account_in, accounts_of, fails, is_failed, timestamp_of, transfer_in, transfers_of}
use Rattle.tf_journal.specs.Laws.{HasUniqueIds, failed_in, failed_ids}
use Rattle.tf_table.specs.declared.key.Key.{Key}
use Rattle.tf_manifest.specs.declared.row.Row.{Row}
use Rattle.tf_manifest.specs.declared.row.Row.TheVariants as row
use Rattle.tf_manifest.specs.declared.value.Value.{Value}
use Rattle.tf_manifest.specs.declared.value.Value.TheVariants as value
use Rattle.tf_manifest.specs.Rows.{Pair, can_expire, expiry_pair, failed_pair, has_history, history_pairs, key_of, pending_of, rows_of}
use Rattle.tf_manifest.specs.Shows.{value_of}
use Rattle.tf_manifest.proofs.Members.{Has, all_has, any_has, chosen, chosen_from, has_chosen, has_either, has_made, none_has}
use Rattle.tf_manifest.proofs.Journals.{has_once}
use Rattle.tf_manifest.proofs.Pairs.{value_found}
use Rattle.tf_journal.proofs.Lists.{pairs_head, pairs_tail}

module _ {X : Type 0} where
  pub has_at : (xs : List X) (k : ℕ) (x : X) → k < length xs → slice_index_or xs k x ≡ x → Has xs x
  has_at [] k x within at = absurd (omega (arith, within))
  has_at (y ∷ xs) zero x within at = inl at
  has_at (y ∷ xs) (suc k) x within at = inr (has_at xs k x (omega (arith, within)) at)

  pub contained : (xs : List X) (x : X) → Has xs x → Contains xs x
  contained [] x h = absurd h
  contained (y ∷ xs) x (inl e) = (0, omega arith, e)
  contained (y ∷ xs) x (inr h) = let rest = contained xs x h in (suc rest.0, omega (arith, rest.1), rest.2)

  pub has_kept : (p : X → Bool) (xs : List X) (x : X) → Has (filter p xs) x → Has xs x
  has_kept p [] x h = h
  has_kept p (y ∷ xs) x h =
      chosen (λ (ys : List X). Has ys x → Has (y ∷ xs) x) (p y) (y ∷ filter p xs) (filter p xs)
      (λ passes g. elim g [
        | inl e ↦ inl e
        | inr there ↦ inr (has_kept p xs x there)
      ])
      (λ fails g. inr (has_kept p xs x g))
      h

  -- elements whose numbers differ pairwise
  pub pairs_once : (number : X → ℕ) (xs : List X) → AllPairs (λ x y. number x ≢ number y) xs → (x y : X) → Has xs x → Has xs y → number x ≡ number y → x ≡ y
  pairs_once number [] pairs x y hx hy same = absurd hx
  pairs_once number (z ∷ xs) pairs x y (inl p) (inl q) same = sym p ∙ q
  pairs_once number (z ∷ xs) pairs x y (inl p) (inr h) same =
      absurd (all_has (λ w. number z ≢ number w) xs y (pairs_head (λ v w. number v ≢ number w) z xs pairs) h (ap number p ∙ same))
  pairs_once number (z ∷ xs) pairs x y (inr h) (inl q) same =
      absurd (all_has (λ w. number z ≢ number w) xs x (pairs_head (λ v w. number v ≢ number w) z xs pairs) h (ap number q ∙ sym same))
  pairs_once number (z ∷ xs) pairs x y (inr g) (inr h) same = pairs_once number xs (pairs_tail (λ v w. number v ≢ number w) z xs pairs) x y g h same

  -- pairs made of elements that are told apart by a number of their keys
  pub by_number : (number : X → ℕ) (part : Key → ℕ) (xs : List X) (pair : X → Pair)
      → ((x y : X) → Has xs x → Has xs y → number x ≡ number y → x ≡ y) → ((x : X) → part (pair x).0 ≡ number x)
      → (p q : Pair) → Has (map pair xs) p → Has (map pair xs) q → p.0 ≡ q.0 → p.1 ≡ q.1
  by_number number part xs pair once keyed p q hp hq same =
      let x = has_made pair xs p hp in
      let y = has_made pair xs q hq in
      let numbers : number x.from ≡ number y.from =
      sym (keyed x.from) ∙ ap (λ (r : Pair). part r.0) x.is ∙ ap part same ∙ sym (ap (λ (r : Pair). part r.0) y.is) ∙ keyed y.from in
      sym (ap (λ (r : Pair). r.1) x.is) ∙ ap (λ (z : X). (pair z).1) (once x.from y.from x.has y.has numbers) ∙ ap (λ (r : Pair). r.1) y.is

-- an element of a list made of several lists is in one of them
pub record Part {X Y : Type 0} (parts : X → List Y) (xs : List X) (y : Y) : Type 0 where
  pub from : X
  pub has : Has (parts from) y

pub has_part : {X Y : Type 0} (parts : X → List Y) (xs : List X) (y : Y) → Has (flat_map parts xs) y → Part parts xs y
has_part parts [] y h = absurd h
has_part parts (x ∷ xs) y h = elim (has_either (parts x) (flat_map parts xs) y h) [
  | inl first ↦ record { from = x; has = first }
  | inr rest ↦ let part = has_part parts xs y rest in record { from = part.from; has = part.has }
]

abbrev timestamp_part : Key → ℕ
timestamp_part key = key.timestamp

abbrev value_part : Key → ℕ
value_part key = key.value

-- an entry of each kind, by what it gives
pub is_account : (e : Entry) (a : Account) → account_in e ≡ Some a → e ≡ entry.Account a
is_account (entry.Account b) a is = ap entry.Account (same_Some b a is)
is_account (entry.Transfer t) a is = absurd (none-some a is)
is_account (entry.Expiry timestamp pending) a is = absurd (none-some a is)
is_account (entry.Failed timestamp id) a is = absurd (none-some a is)

pub is_transfer : (e : Entry) (t : Transfer) → transfer_in e ≡ Some t → e ≡ entry.Transfer t
is_transfer (entry.Account a) t is = absurd (none-some t is)
is_transfer (entry.Transfer u) t is = ap entry.Transfer (same_Some u t is)
is_transfer (entry.Expiry timestamp pending) t is = absurd (none-some t is)
is_transfer (entry.Failed timestamp id) t is = absurd (none-some t is)

pub record IsFailure (e : Entry) (p : Pair) : Type 0 where
  pub timestamp : ℕ
  pub id : ℕ
  pub is : e ≡ entry.Failed timestamp id
  pub pair : (key_of id 0, value.FailedAt timestamp) ≡ p

pub is_failure : (e : Entry) (p : Pair) → failed_pair e ≡ Some p → IsFailure e p
is_failure (entry.Account a) p is = absurd (none-some p is)
is_failure (entry.Transfer t) p is = absurd (none-some p is)
is_failure (entry.Expiry timestamp pending) p is = absurd (none-some p is)
is_failure (entry.Failed timestamp id) p is = record { timestamp = timestamp; id = id; is = refl; pair = same_Some (key_of id 0, value.FailedAt timestamp) p is }

pub record IsExpiry (e : Entry) (p : Pair) : Type 0 where
  pub timestamp : ℕ
  pub pending : ℕ
  pub is : e ≡ entry.Expiry timestamp pending
  pub pair : (key_of 0 timestamp, value.Stamp pending) ≡ p

pub is_expiry : (e : Entry) (p : Pair) → expiry_pair e ≡ Some p → IsExpiry e p
is_expiry (entry.Account a) p is = absurd (none-some p is)
is_expiry (entry.Transfer t) p is = absurd (none-some p is)
is_expiry (entry.Expiry timestamp pending) p is = record { timestamp = timestamp; pending = pending; is = refl; pair = same_Some (key_of 0 timestamp, value.Stamp pending) p is }
is_expiry (entry.Failed timestamp id) p is = absurd (none-some p is)

-- an account and a transfer of a journal, as entries of it
pub account_entry : (journal : List Entry) (a : Account) → Has (accounts_of journal) a → Has journal (entry.Account a)
account_entry journal a h =
    let from = chosen_from account_in journal a h in
    subst (Has journal) (is_account from.from a from.is) from.has

pub transfer_entry : (journal : List Entry) (t : Transfer) → Has (transfers_of journal) t → Has journal (entry.Transfer t)
transfer_entry journal t h =
    let from = chosen_from transfer_in journal t h in
    subst (Has journal) (is_transfer from.from t from.is) from.has

-- they are told apart by their timestamps
accounts_once : (journal : List Entry) → IsRisingFrom 0 journal → (a b : Account) → Has (accounts_of journal) a → Has (accounts_of journal) b → a.timestamp ≡ b.timestamp → a ≡ b
accounts_once journal rising a b ha hb same =
    same_Some a b (ap account_in (has_once 0 journal (entry.Account a) (entry.Account b) rising (account_entry journal a ha) (account_entry journal b hb) same))

transfers_once : (journal : List Entry) → IsRisingFrom 0 journal → (t u : Transfer) → Has (transfers_of journal) t → Has (transfers_of journal) u → t.timestamp ≡ u.timestamp → t ≡ u
transfers_once journal rising t u ht hu same =
    same_Some t u (ap transfer_in (has_once 0 journal (entry.Transfer t) (entry.Transfer u) rising (transfer_entry journal t ht) (transfer_entry journal u hu) same))

-- an id that failed
pub failure_id : (journal : List Entry) (timestamp id : ℕ) → Has journal (entry.Failed timestamp id) → Has (failed_ids journal) id
failure_id journal timestamp id h = has_chosen failed_in journal (entry.Failed timestamp id) id h refl

-- an id fails once
failed_once : (journal : List Entry) → AllPairs (λ first second. first ≢ second) (failed_ids journal) → (t s id : ℕ) → Has journal (entry.Failed t id) → Has journal (entry.Failed s id) → t ≡ s
failed_once [] pairs t s id ht hs = absurd ht
failed_once (entry.Account a ∷ journal) pairs t s id (inl e) hs = absurd (cc)
failed_once (entry.Account a ∷ journal) pairs t s id (inr ht) (inl e) = absurd (cc)
failed_once (entry.Account a ∷ journal) pairs t s id (inr ht) (inr hs) = failed_once journal pairs t s id ht hs
failed_once (entry.Transfer u ∷ journal) pairs t s id (inl e) hs = absurd (cc)
failed_once (entry.Transfer u ∷ journal) pairs t s id (inr ht) (inl e) = absurd (cc)
failed_once (entry.Transfer u ∷ journal) pairs t s id (inr ht) (inr hs) = failed_once journal pairs t s id ht hs
failed_once (entry.Expiry u pending ∷ journal) pairs t s id (inl e) hs = absurd (cc)
failed_once (entry.Expiry u pending ∷ journal) pairs t s id (inr ht) (inl e) = absurd (cc)
failed_once (entry.Expiry u pending ∷ journal) pairs t s id (inr ht) (inr hs) = failed_once journal pairs t s id ht hs
failed_once (entry.Failed u i ∷ journal) pairs t s id (inl e) (inl f) = sym (ap timestamp_of e) ∙ ap timestamp_of f
failed_once (entry.Failed u i ∷ journal) pairs t s id (inl e) (inr hs) =
    let same : i ≡ id = same_Some i id (ap failed_in e) in
    absurd (all_has (λ j. i ≢ j) (failed_ids journal) id (pairs_head (λ first second. first ≢ second) i (failed_ids journal) pairs) (failure_id journal s id hs) same)
failed_once (entry.Failed u i ∷ journal) pairs t s id (inr ht) (inl f) =
    let same : i ≡ id = same_Some i id (ap failed_in f) in
    absurd (all_has (λ j. i ≢ j) (failed_ids journal) id (pairs_head (λ first second. first ≢ second) i (failed_ids journal) pairs) (failure_id journal t id ht) same)
failed_once (entry.Failed u i ∷ journal) pairs t s id (inr ht) (inr hs) =
    failed_once journal (pairs_tail (λ first second. first ≢ second) i (failed_ids journal) pairs) t s id ht hs

-- no id of a transfer failed
stored_not_failed : (journal : List Entry) → HasUniqueIds journal → (t : Transfer) (timestamp id : ℕ) → Has (transfers_of journal) t → Has journal (entry.Failed timestamp id) → t.id ≡ id → ⊥
stored_not_failed journal unique t timestamp id stored failed same =
    let fails_it : is_failed journal id ≡ true = any_has (fails id) journal (entry.Failed timestamp id) failed (eq-eqb id id refl) in
    none_has (λ (u : Transfer). u.id == id) (transfers_of journal) t (unique.stored_or_failed id fails_it) stored (ap (λ n. n == id) same ∙ eq-eqb id id refl)

-- pairs of accounts and of transfers under their timestamps
by_account : (journal : List Entry) (pair : Account → Pair) → IsRisingFrom 0 journal → ((a : Account) → (pair a).0.timestamp ≡ a.timestamp)
    → (p q : Pair) → Has (map pair (accounts_of journal)) p → Has (map pair (accounts_of journal)) q → p.0 ≡ q.0 → p.1 ≡ q.1
by_account journal pair rising keyed = by_number (λ (a : Account). a.timestamp) timestamp_part (accounts_of journal) pair (accounts_once journal rising) keyed

by_transfer : (journal : List Entry) (pair : Transfer → Pair) → IsRisingFrom 0 journal → ((t : Transfer) → (pair t).0.timestamp ≡ t.timestamp)
    → (p q : Pair) → Has (map pair (transfers_of journal)) p → Has (map pair (transfers_of journal)) q → p.0 ≡ q.0 → p.1 ≡ q.1
by_transfer journal pair rising keyed = by_number (λ (t : Transfer). t.timestamp) timestamp_part (transfers_of journal) pair (transfers_once journal rising) keyed

-- of some of the transfers
by_some : (journal : List Entry) (some : List Transfer) (pair : Transfer → Pair) → IsRisingFrom 0 journal → ((t : Transfer) → Has some t → Has (transfers_of journal) t) → ((t : Transfer) → (pair t).0.timestamp ≡ t.timestamp)
    → (p q : Pair) → Has (map pair some) p → Has (map pair some) q → p.0 ≡ q.0 → p.1 ≡ q.1
by_some journal some pair rising among keyed =
    by_number (λ (t : Transfer). t.timestamp) timestamp_part some pair (λ t u ht hu same. transfers_once journal rising t u (among t ht) (among u hu) same) keyed

expiries_once : (journal : List Entry) → IsRisingFrom 0 journal → (p q : Pair) → Has (filter_map expiry_pair journal) p → Has (filter_map expiry_pair journal) q → p.0 ≡ q.0 → p.1 ≡ q.1
expiries_once journal rising p q hp hq same =
    let from = chosen_from expiry_pair journal p hp in
    let other = chosen_from expiry_pair journal q hq in
    let e = is_expiry from.from p from.is in
    let f = is_expiry other.from q other.is in
    let stamps : timestamp_of from.from ≡ timestamp_of other.from =
    ap timestamp_of e.is ∙ ap (λ (r : Pair). r.0.timestamp) e.pair ∙ ap timestamp_part same ∙ sym (ap (λ (r : Pair). r.0.timestamp) f.pair) ∙ sym (ap timestamp_of f.is) in
    let entries = has_once 0 journal from.from other.from rising from.has other.has stamps in
    ap (λ (r : Pair). r.1) (same_Some p q (sym from.is ∙ ap expiry_pair entries ∙ other.is))

-- the pairs of ids that are stored, and of ids that failed
abbrev id_pair : Transfer → Pair
id_pair t = (key_of t.id 0, value.Stamp t.timestamp)

abbrev stored_ids : List Entry → List Pair
stored_ids journal = map id_pair (transfers_of journal)

abbrev failures : List Entry → List Pair
failures journal = filter_map failed_pair journal

apart : (journal : List Entry) → HasUniqueIds journal → (p q : Pair) → Has (map id_pair (transfers_of journal)) p → Has (filter_map failed_pair journal) q → p.0 ≡ q.0 → ⊥
apart journal unique p q hp hq same =
    let t = has_made id_pair (transfers_of journal) p hp in
    let from = chosen_from failed_pair journal q hq in
    let e = is_failure from.from q from.is in
    stored_not_failed journal unique t.from e.timestamp e.id t.has (subst (Has journal) e.is from.has)
    (ap (λ (r : Pair). r.0.value) t.is ∙ ap value_part same ∙ sym (ap (λ (r : Pair). r.0.value) e.pair))

failures_once : (journal : List Entry) → HasUniqueIds journal → (p q : Pair) → Has (filter_map failed_pair journal) p → Has (filter_map failed_pair journal) q → p.0 ≡ q.0 → p.1 ≡ q.1
failures_once journal unique p q hp hq same =
    let from = chosen_from failed_pair journal p hp in
    let other = chosen_from failed_pair journal q hq in
    let e = is_failure from.from p from.is in
    let f = is_failure other.from q other.is in
    let ids : f.id ≡ e.id = ap (λ (r : Pair). r.0.value) f.pair ∙ sym (ap value_part same) ∙ sym (ap (λ (r : Pair). r.0.value) e.pair) in
    let stamps : e.timestamp ≡ f.timestamp = failed_once journal unique.failed e.timestamp f.timestamp e.id
    (subst (Has journal) e.is from.has) (subst (Has journal) (f.is ∙ ap (λ n. entry.Failed f.timestamp n) ids) other.has) in
    sym (ap (λ (r : Pair). r.1) e.pair) ∙ ap value.FailedAt stamps ∙ ap (λ (r : Pair). r.1) f.pair

ids_once : (journal : List Entry) → HasUniqueIds journal → (p q : Pair) → Has (rows_of journal row.TransferIds) p → Has (rows_of journal row.TransferIds) q → p.0 ≡ q.0 → p.1 ≡ q.1
ids_once journal unique p q hp hq same = go (has_either (stored_ids journal) (failures journal) p hp) (has_either (stored_ids journal) (failures journal) q hq) where
  go : (Has (stored_ids journal) p ⊎ Has (failures journal) p) → (Has (stored_ids journal) q ⊎ Has (failures journal) q) → p.1 ≡ q.1
  go (inl a) (inl b) = by_number (λ (t : Transfer). t.id) value_part (transfers_of journal) id_pair (pairs_once (λ (t : Transfer). t.id) (transfers_of journal) unique.transfers) (λ t. refl) p q a b same
  go (inl a) (inr b) = absurd (apart journal unique p q a b same)
  go (inr a) (inl b) = absurd (apart journal unique q p b a (sym same))
  go (inr a) (inr b) = failures_once journal unique p q a b same

-- the sums of a pair of history are those of its key
abbrev sums_at : List Entry → Key → Value
sums_at journal key = value.Sums (balances_of (cut_after journal key.timestamp) key.value)

history_side : (journal : List Entry) (side : Side) (t : Transfer) (p : Pair) → Has (history_pairs journal side t) p → p.1 ≡ sums_at journal p.0
history_side journal side t p h =
    chosen (λ (ps : List Pair). Has ps p → p.1 ≡ sums_at journal p.0) (has_history journal (account_on side t))
    ((key_of (account_on side t) t.timestamp, value.Sums (balances_of (cut_after journal t.timestamp) (account_on side t))) ∷ []) []
    (λ yes g. elim g [
      | inl e ↦ sym (ap (λ (r : Pair). r.1) e) ∙ ap (λ (r : Pair). sums_at journal r.0) e
      | inr none ↦ absurd none
    ])
    (λ no g. absurd g)
    h

history_value : (journal : List Entry) (p : Pair) → Has (rows_of journal row.History) p → p.1 ≡ sums_at journal p.0
history_value journal p h =
    let part = has_part (λ t. history_pairs journal Debit t ++ history_pairs journal Credit t) (transfers_of journal) p h in
    elim (has_either (history_pairs journal Debit part.from) (history_pairs journal Credit part.from) p part.has) [
      | inl debit ↦ history_side journal Debit part.from p debit
      | inr credit ↦ history_side journal Credit part.from p credit
    ]

-- pairs of a row with one key have one value
abbrev OneValue : List Entry → Row → Type 0
OneValue journal r = (p q : Pair) → Has (rows_of journal r) p → Has (rows_of journal r) q → p.0 ≡ q.0 → p.1 ≡ q.1

pub one_value : (journal : List Entry) → IsRisingFrom 0 journal → HasUniqueIds journal → (r : Row) → OneValue journal r
one_value journal rising unique row.AccountObjects = by_account journal _ rising (λ a. refl)
one_value journal rising unique row.AccountIds =
    by_number (λ (a : Account). a.id) value_part (accounts_of journal) _ (pairs_once (λ (a : Account). a.id) (accounts_of journal) unique.accounts) (λ a. refl)
one_value journal rising unique row.AccountUserData128 = by_account journal _ rising (λ a. refl)
one_value journal rising unique row.AccountUserData64 = by_account journal _ rising (λ a. refl)
one_value journal rising unique row.AccountUserData32 = by_account journal _ rising (λ a. refl)
one_value journal rising unique row.AccountLedger = by_account journal _ rising (λ a. refl)
one_value journal rising unique row.AccountCode = by_account journal _ rising (λ a. refl)
one_value journal rising unique row.AccountSums = by_account journal _ rising (λ a. refl)
one_value journal rising unique row.TransferObjects = by_transfer journal _ rising (λ t. refl)
one_value journal rising unique row.TransferIds = ids_once journal unique
one_value journal rising unique row.TransferDebit = by_transfer journal _ rising (λ t. refl)
one_value journal rising unique row.TransferCredit = by_transfer journal _ rising (λ t. refl)
one_value journal rising unique row.TransferUserData128 = by_transfer journal _ rising (λ t. refl)
one_value journal rising unique row.TransferUserData64 = by_transfer journal _ rising (λ t. refl)
one_value journal rising unique row.TransferUserData32 = by_transfer journal _ rising (λ t. refl)
one_value journal rising unique row.TransferLedger = by_transfer journal _ rising (λ t. refl)
one_value journal rising unique row.TransferCode = by_transfer journal _ rising (λ t. refl)
one_value journal rising unique row.PendingStatus =
    by_some journal (pending_of journal) _ rising (has_kept is_pending (transfers_of journal)) (λ t. refl)
one_value journal rising unique row.Expiry =
    by_some journal (filter (can_expire journal) (pending_of journal)) _ rising
    (λ t h. has_kept is_pending (transfers_of journal) t (has_kept (can_expire journal) (pending_of journal) t h)) (λ t. refl)
one_value journal rising unique row.ExpiryEntries = expiries_once journal rising
one_value journal rising unique row.History =
    λ p q hp hq same. history_value journal p hp ∙ ap (sums_at journal) same ∙ sym (history_value journal q hq)

-- what a row has at the key of one of its pairs
pub pair_found : (journal : List Entry) → IsRisingFrom 0 journal → HasUniqueIds journal → (r : Row) (k : Key) (v : Value) → Has (rows_of journal r) (k, v) → value_of journal r k ≡ Some v
pair_found journal rising unique r k v has =
    value_found (rows_of journal r) k v has (λ q h same. one_value journal rising unique r q (k, v) h has same)
