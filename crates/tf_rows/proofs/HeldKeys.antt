-- Keys of expiry that are held, after one is put in or let go, and after an entry.
use Rattle.std.proofs.Common.{◌≡◌, ◌≢◌, ℕ, List, [], ◌∷◌, ◌++◌, take, Option, Some, None, true, false, cond, not, ◌&&◌, refl, sym, ◌∙◌, ap, inl, inr, ◌⊎◌}
use Rattle.std.specs.Prelude.{◌==◌}
use Rattle.std.specs.Ordering.{is_eq, is_gt, is_lt}
use Rattle.std.specs.declared.cmp.Ordering.{Ordering}
use Rattle.std.specs.declared.cmp.Ordering.TheVariants.{Less, Equal, Greater}
use Rattle.std.proofs.lemmas.Bool.{and_from, cond-true}
use Rattle.std.proofs.lemmas.Cmp.{tied_itself}
use Rattle.std.proofs.lemmas.Option.{none-some, same_Some}
use Rattle.tf_sorted.specs.Rows.{rows_above, rows_below, value_at, with_row, without_row}
use Rattle.tf_journal.specs.declared.entry.Entry.{Entry}
use Rattle.tf_journal.specs.declared.entry.Entry.TheVariants as entry
use Rattle.tf_journal.specs.Flags.{is_pending}
use Rattle.tf_journal.specs.Lawful.{IsSound}
use Rattle.tf_journal.specs.Ledger.{CanGrow}
use Rattle.tf_journal.specs.Status.{pending_at}
use Rattle.tf_records.specs.declared.transfer.Transfer.{Transfer}
use Rattle.tf_table.specs.declared.key.Key.{Key}
use Rattle.tf_table.specs.Content.{entry_at, first_some}
use Rattle.tf_table.specs.Key.{key_cmp}
use Rattle.tf_table.proofs.Determined.{bool_cases, first_some-none, value_at-filter, value_at-with_row}
use Rattle.tf_table.proofs.Keys.{exact_keys, keys_total}
use Rattle.tf_table.proofs.Rising.{value_at-append}
use Rattle.tf_manifest.specs.declared.row.Row.TheVariants as row
use Rattle.tf_manifest.specs.Shows.{value_of}
use Rattle.tf_rows.specs.DueSet.{AreHeld, Keys, StayHeld, given_key}
use Rattle.tf_rows.specs.Edits.{edits, expiry_key, found_for}
use Rattle.tf_rows.proofs.Unvalued.{PutNone, RowsChangeByEdits, expired_put, none_grows_from, nothing_put, transfer_put}

-- what isn't held once a key is put in wasn't held, and isn't that key
pub put_still : (held : Keys) (at key : Key) (entry : Option (Unit {0})) → entry_at key (with_row key_cmp at entry held) ≡ None → (key ≢ at) × (entry_at key held ≡ None)
put_still held at key entry none =
    let is = sym (value_at-with_row key_cmp keys_total exact_keys at entry key held) ∙ none in
    bool_cases (is_eq (key_cmp at key))
    (λ t. absurd (none-some entry (sym (sym (ap (λ b. cond b (Some entry) (entry_at key held)) t) ∙ is))))
    (λ f. (
      (λ e. true-false (sym (ap is_eq (tied_itself keys_total at)) ∙ ap (λ k. is_eq (key_cmp at k)) (sym e) ∙ f)),
      sym (ap (λ b. cond b (Some entry) (entry_at key held)) f) ∙ is,
    )) where
      true-false : true ≡ false → ⊥
      true-false e = cc

-- what isn't held once a key is let go wasn't held, or is that key
pub dropped_still : (held : Keys) (at key : Key) → entry_at key (without_row key_cmp at held) ≡ None → (key ≡ at) ⊎ (entry_at key held ≡ None)
dropped_still held at key none =
    let below = rows_below key_cmp at held in
    let above = rows_above key_cmp at held in
    let split = value_at-append key_cmp keys_total key below above in
    let first = value_at-filter key_cmp keys_total exact_keys (λ x. is_lt (key_cmp x at)) key held in
    let last = value_at-filter key_cmp keys_total exact_keys (λ x. is_gt (key_cmp x at)) key held in
    let whole : entry_at key (without_row key_cmp at held) ≡ first_some (cond (is_lt (key_cmp key at)) (entry_at key held) None) (cond (is_gt (key_cmp key at)) (entry_at key held) None)
    = split ∙ ap (λ (o : Option (Option (Unit {0}))). first_some o (value_at key_cmp key above)) first ∙ ap (first_some (cond (is_lt (key_cmp key at)) (entry_at key held) None)) last in
    by_order (key_cmp key at) refl (sym whole ∙ none) where
      by_order : (o : Ordering) → key_cmp key at ≡ o → first_some (cond (is_lt o) (entry_at key held) None) (cond (is_gt o) (entry_at key held) None) ≡ None → (key ≡ at) ⊎ (entry_at key held ≡ None)
      by_order Less e is = inr (sym (first_some-none (entry_at key held)) ∙ is)
      by_order Equal e is = inl (exact_keys key at e)
      by_order Greater e is = inr is

-- keys are held on while a key is put in
pub held_put : (held now : Keys) (at : Key) (entry : Option (Unit {0})) → now ≡ with_row key_cmp at entry held → (journal : List Entry) → AreHeld held journal → AreHeld now journal
held_put held now at entry is journal all key none = all key (put_still held at key entry (sym (ap (entry_at key) is) ∙ none)).1

-- the key is held
pub put_held : (held now : Keys) (at key : Key) (entry : Option (Unit {0})) → now ≡ with_row key_cmp at entry held → (given : Option Key) → given ≡ Some at → given ≡ Some key → entry_at key now ≡ None → ⊥
put_held held now at key entry is given one other none =
    (put_still held at key entry (sym (ap (entry_at key) is) ∙ none)).0 (same_Some key at (sym other ∙ one))

-- and once one without a value is let go
pub held_dropped : (held now : Keys) (at : Key) (journal : List Entry) → now ≡ without_row key_cmp at held → value_of journal row.Expiry at ≡ None → AreHeld held journal → AreHeld now journal
held_dropped held now at journal is gone all key none = elim (dropped_still held at key (sym (ap (entry_at key) is) ∙ none)) [
  | inl same ↦ ap (value_of journal row.Expiry) same ∙ gone
  | inr old ↦ all key old
]

-- what isn't held
abbrev pub Free : Keys → Key → Type 0
Free held key = entry_at key held ≡ None

-- the key that a pending transfer with a timeout gives
given_is : (transfer : Transfer) → is_pending transfer ≡ true → (transfer.timeout == 0) ≡ false → given_key (entry.Transfer transfer) ≡ Some (expiry_key transfer)
given_is transfer pending timed = cond-true (is_pending transfer && not (transfer.timeout == 0)) (Some (expiry_key transfer)) None (and_from (is_pending transfer) (not (transfer.timeout == 0)) pending (ap not timed))

module _ (now : Keys) (journal : List Entry) where
  -- an entry gives no other key a value
  entry_put : (e : Entry) → ((key : Key) → given_key e ≡ Some key → Free now key → ⊥) → PutNone (Free now) (edits journal e row.Expiry)
  entry_put (entry.Account account) given = nothing_put (Free now)
  entry_put (entry.Transfer transfer) given = transfer_put (Free now) transfer (found_for journal (entry.Transfer transfer)).settled (λ pending timed. given (expiry_key transfer) (given_is transfer pending timed))
  entry_put (entry.Expiry timestamp pending) given = expired_put (Free now) (pending_at journal pending)
  entry_put (entry.Failed timestamp id) given = nothing_put (Free now)

-- keys that are held stay so with one more entry, whose own is held
pub held_grows : RowsChangeByEdits → (held now : Keys) (e : Entry) → ((journal : List Entry) → AreHeld held journal → AreHeld now journal) → ((key : Key) → given_key e ≡ Some key → Free now key → ⊥)
    → (journal : List Entry) (kept : ℕ) → IsSound journal → CanGrow journal e → StayHeld held journal kept → StayHeld now (journal ++ e ∷ []) kept
held_grows change held now e stays given journal kept sound grows all =
    none_grows_from (Free now) change journal e sound grows (entry_put now journal e given) kept (λ n more. stays (take n journal) (all n more))
