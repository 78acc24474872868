-- The keys that an entry adds are new: those with a timestamp have one that no earlier entry has.
use Rattle.std.proofs.Common.{◌≡◌, ℕ, ◌<◌, List, [], ◌∷◌, ◌++◌, map, Option, Some, None, refl, ap, sym, ◌∙◌, subst, inl, inr, arith}
use Rattle.std.specs.List.{All, flat_map}
use Rattle.std.proofs.lemmas.Option.{none-some}
use Rattle.tf_records.specs.declared.account.Account.{Account}
use Rattle.tf_records.specs.declared.transfer.Transfer.{Transfer}
use Rattle.tf_journal.specs.declared.entry.Entry.{Entry}
use Rattle.tf_journal.specs.declared.entry.Entry.TheVariants as entry
use Rattle.tf_journal.specs.declared.side.Side.{Side}
use Rattle.tf_journal.specs.declared.side.Side.TheVariants.{Debit, Credit}
use Rattle.tf_journal.specs.Balances.{account_on, balances_of}
use Rattle.tf_journal.specs.Answer.{cut_after}
use Rattle.tf_journal.specs.Journal.{accounts_of, timestamp_of, transfers_of}
use Rattle.tf_table.specs.declared.key.Key.{Key}
use Rattle.tf_manifest.specs.declared.row.Row.TheVariants as row
use Rattle.tf_manifest.specs.declared.value.Value.{Value}
use Rattle.tf_manifest.specs.declared.value.Value.TheVariants as value
use Rattle.tf_manifest.specs.Rows.{Pair, expiry_pair, for_accounts, for_transfers, has_history, history_pairs, key_of, rows_of}
use Rattle.tf_manifest.proofs.Members.{Has, all_has, chosen, chosen_from, has_either, has_made, has_map}
use Rattle.tf_manifest.proofs.OneValue.{account_entry, is_expiry, transfer_entry}
use Rattle.tf_rows.specs.Back.{taken_away}
use Rattle.tf_rows.specs.Edits.{Edit}
use Rattle.tf_rows.proofs.Changes.{IsChange, IsUntouched}
use Rattle.tf_rows.proofs.Statuses.{expiries_are, statuses_are}

-- no pair of a row has the key of an edit
abbrev pub AreNew : List Pair → List Edit → Type 0
AreNew before changes = (k : Key) (o : Option Value) → Has changes (k, o) → (v : Value) → Has before (k, v) → ⊥

-- edits that cover the keys of others, and say what was there, go back
pub reversed : (before after : List Pair) (changes back : List Edit) → IsChange before after changes
    → ((k : Key) → IsUntouched back k → IsUntouched changes k)
    → ((k : Key) (v : Value) → Has back (k, Some v) → Has before (k, v))
    → ((k : Key) (v : Value) → Has back (k, None) → Has before (k, v) → ⊥)
    → IsChange after before back
reversed before after changes back is covers there away = record {
  there = there;
  away = away;
  kept = λ p u h. is.only p (covers p.0 u) h;
  only = λ p u h. is.kept p (covers p.0 u) h;
}

-- new keys are taken away again
pub takes_away : (before after : List Pair) (changes : List Edit) → IsChange before after changes → AreNew before changes → IsChange after before (map taken_away changes)
takes_away before after changes is new =
    reversed before after changes (map taken_away changes) is
    (λ k u o h. u None (has_map taken_away changes (k, o) h))
    (λ k v h. let made = has_made taken_away changes (k, Some v) h in absurd (none-some v (ap (λ (c : Edit). c.1) made.is)))
    (λ k v h g.
    let made = has_made taken_away changes (k, None) h in
    let key : made.from.0 ≡ k = ap (λ (c : Edit). c.0) made.is in
    new made.from.0 made.from.1 made.has v (subst (λ (x : Key). Has before (x, v)) (sym key) g))

-- each key of a row is earlier than a moment
abbrev pub IsEarly : ℕ → List Pair → Type 0
IsEarly moment pairs = (k : Key) (v : Value) → Has pairs (k, v) → k.timestamp < moment

-- edits whose keys have the moment as their timestamp
abbrev pub AreAt : ℕ → List Edit → Type 0
AreAt moment changes = (k : Key) (o : Option Value) → Has changes (k, o) → k.timestamp ≡ moment

pub early_new : (moment : ℕ) (before : List Pair) (changes : List Edit) → IsEarly moment before → AreAt moment changes → AreNew before changes
early_new moment before changes early at k o h v g = let e = early k v g in let m = at k o h in omega arith

pub one_at : (moment : ℕ) (c : Edit) → c.0.timestamp ≡ moment → AreAt moment (c ∷ [])
one_at moment c is k o (inl same) = sym (ap (λ (d : Edit). d.0.timestamp) same) ∙ is
one_at moment c is k o (inr none) = absurd none

pub none_at : (moment : ℕ) → AreAt moment []
none_at moment k o h = absurd h

pub both_at : (moment : ℕ) (first second : List Edit) → AreAt moment first → AreAt moment second → AreAt moment (first ++ second)
both_at moment first second f s k o h = elim (has_either first second (k, o) h) [ inl a ↦ f k o a | inr b ↦ s k o b ]

pub no_new : (before : List Pair) → AreNew before []
no_new before k o h v g = h

module _ (journal : List Entry) (moment : ℕ) (earlier : All (λ x. timestamp_of x < moment) journal) where
  early_entry : (x : Entry) → Has journal x → timestamp_of x < moment
  early_entry x h = all_has (λ (y : Entry). timestamp_of y < moment) journal x earlier h

  pub early_account : (a : Account) → Has (accounts_of journal) a → a.timestamp < moment
  early_account a h = early_entry (entry.Account a) (account_entry journal a h)

  pub early_transfer : (t : Transfer) → Has (transfers_of journal) t → t.timestamp < moment
  early_transfer t h = early_entry (entry.Transfer t) (transfer_entry journal t h)

  pub early_accounts : (pair : Account → Pair) → ((a : Account) → (pair a).0.timestamp ≡ a.timestamp) → IsEarly moment (for_accounts journal pair)
  early_accounts pair keyed k v h =
      let made = has_made pair (accounts_of journal) (k, v) h in
      let at : made.from.timestamp ≡ k.timestamp = sym (keyed made.from) ∙ ap (λ (p : Pair). p.0.timestamp) made.is in
      subst (λ (n : ℕ). n < moment) at (early_account made.from made.has)

  pub early_transfers : (pair : Transfer → Pair) → ((t : Transfer) → (pair t).0.timestamp ≡ t.timestamp) → IsEarly moment (for_transfers journal pair)
  early_transfers pair keyed k v h =
      let made = has_made pair (transfers_of journal) (k, v) h in
      let at : made.from.timestamp ≡ k.timestamp = sym (keyed made.from) ∙ ap (λ (p : Pair). p.0.timestamp) made.is in
      subst (λ (n : ℕ). n < moment) at (early_transfer made.from made.has)

  pub early_statuses : IsEarly moment (rows_of journal row.PendingStatus)
  early_statuses k v h =
      let element = (statuses_are journal).from (k, v) h in
      subst (λ (n : ℕ). n < moment) (ap (λ (p : Pair). p.0.timestamp) element.is) (early_transfer element.from element.has.0)

  pub early_expiries : IsEarly moment (rows_of journal row.Expiry)
  early_expiries k v h =
      let element = (expiries_are journal).from (k, v) h in
      subst (λ (n : ℕ). n < moment) (ap (λ (p : Pair). p.0.timestamp) element.is) (early_transfer element.from element.has.0.0)

  pub early_expired : IsEarly moment (rows_of journal row.ExpiryEntries)
  early_expired k v h =
      let from = chosen_from expiry_pair journal (k, v) h in
      let e = is_expiry from.from (k, v) from.is in
      let at : timestamp_of from.from ≡ k.timestamp = ap timestamp_of e.is ∙ ap (λ (p : Pair). p.0.timestamp) e.pair in
      subst (λ (n : ℕ). n < moment) at (early_entry from.from from.has)

  side_at : (side : Side) (t : Transfer) (p : Pair) → Has (history_pairs journal side t) p → t.timestamp ≡ p.0.timestamp
  side_at side t p h =
      chosen (λ (ps : List Pair). Has ps p → t.timestamp ≡ p.0.timestamp) (has_history journal (account_on side t))
      ((key_of (account_on side t) t.timestamp, value.Sums (balances_of (cut_after journal t.timestamp) (account_on side t))) ∷ []) []
      (λ keeps g. elim g [
        | inl e ↦ ap (λ (r : Pair). r.0.timestamp) e
        | inr none ↦ absurd none
      ])
      (λ not g. absurd g)
      h

  early_parts : (ts : List Transfer) → ((t : Transfer) → Has ts t → t.timestamp < moment)
      → IsEarly moment (flat_map (λ t. history_pairs journal Debit t ++ history_pairs journal Credit t) ts)
  early_parts [] early k v h = absurd h
  early_parts (t ∷ ts) early k v h =
      elim (has_either (history_pairs journal Debit t ++ history_pairs journal Credit t) (flat_map (λ t. history_pairs journal Debit t ++ history_pairs journal Credit t) ts) (k, v) h) [
        | inl first ↦ elim (has_either (history_pairs journal Debit t) (history_pairs journal Credit t) (k, v) first) [
          | inl debit ↦ subst (λ (n : ℕ). n < moment) (side_at Debit t (k, v) debit) (early t (inl refl))
          | inr credit ↦ subst (λ (n : ℕ). n < moment) (side_at Credit t (k, v) credit) (early t (inl refl))
        ]
        | inr rest ↦ early_parts ts (λ u has. early u (inr has)) k v rest
      ]

  pub early_history : IsEarly moment (rows_of journal row.History)
  early_history = early_parts (transfers_of journal) early_transfer
