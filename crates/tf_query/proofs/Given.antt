-- What the tables of a manifest that shows a journal have at a record's timestamp.
use Rattle.std.proofs.Common.{◌≡◌, ℕ, Bool, true, false, ◌||◌, cond, List, [], ◌∷◌, ◌++◌, find, Option, Some, None, refl, sym, ◌∙◌, ap, subst, inl, inr}
use Rattle.std.specs.Prelude.{◌==◌, ◌↔◌}
use Rattle.std.specs.List.{Contains, flat_map}
use Rattle.std.specs.Option.{option_and_then, option_map, option_map_or}
use Rattle.std.proofs.lemmas.Bool.{eqb-true}
use Rattle.std.proofs.lemmas.Option.{same_Some}
use Rattle.tf_records.specs.declared.account.Account.{Account}
use Rattle.tf_records.specs.declared.sums.Sums.{Sums}
use Rattle.tf_records.specs.declared.transfer.Transfer.{Transfer}
use Rattle.tf_journal.specs.declared.entry.Entry.{Entry}
use Rattle.tf_journal.specs.declared.side.Side.TheVariants.{Debit, Credit}
use Rattle.tf_journal.specs.Answer.{balance_after, cut_after}
use Rattle.tf_journal.specs.Balances.{balances_of}
use Rattle.tf_journal.specs.Journal.{accounts_of, transfers_of}
use Rattle.tf_journal.specs.Lookup.{shown}
use Rattle.tf_journal.proofs.Lists.{find_passes}
use Rattle.tf_table.specs.declared.key.Key.{Key}
use Rattle.tf_manifest.specs.declared.kind.Kind.TheVariants as kind
use Rattle.tf_manifest.specs.declared.row.Row.{Row}
use Rattle.tf_manifest.specs.declared.row.Row.TheVariants as row
use Rattle.tf_manifest.specs.declared.value.State.{State}
use Rattle.tf_manifest.specs.declared.value.Value.{Value}
use Rattle.tf_manifest.specs.declared.value.Value.TheVariants as value
use Rattle.tf_registry.specs.Row.{content_at}
use Rattle.tf_manifest.specs.Rows.{Pair, has_history, history_pairs, key_of, rows_of, state_of}
use Rattle.tf_manifest.specs.Shows.{value_of}
use Rattle.tf_manifest.specs.View.{ShowsJournal, View, tables_by}
use Rattle.tf_manifest.proofs.Members.{Has, has_left, has_right}
use Rattle.tf_manifest.proofs.OneValue.{contained}
use Rattle.tf_query.specs.History.{is_on_side}
use Rattle.tf_query.specs.Matches.{account_timestamp, holds_at, record_at, transfer_timestamp}
use Rattle.tf_look_ups.specs.Reads.{account_in, balance_by, balance_in, shown_by, shown_in, state_in, sums_in, transfer_in}
use Rattle.tf_query.proofs.Keyed.{record_unmade, unmade, value_keyed}

-- what a value is, if it is of a kind
abbrev as_account : Value → Option Account
as_account (value.Account a) = Some a
as_account _ = None

abbrev as_transfer : Value → Option Transfer
as_transfer (value.Transfer t) = Some t
as_transfer _ = None

abbrev as_state : Value → Option State
as_state (value.State s) = Some s
as_state _ = None

abbrev as_sums : Value → Option Sums
as_sums (value.Sums s) = Some s
as_sums _ = None

-- what is found is an element
pub found_has : {X : Type 0} (p : X → Bool) (xs : List X) (x : X) → find p xs ≡ Some x → Has xs x
found_has p [] x e = absurd (cc)
found_has p (y ∷ xs) x e = step (p y) e (found_has p xs x)
  where
    step : (b : Bool) → cond b (Some y) (find p xs) ≡ Some x → (find p xs ≡ Some x → Has xs x) → Has (y ∷ xs) x
    step true i again = inl (same_Some y x i)
    step false i again = inr (again i)

-- an element of a part is one of all parts together
has_parts : {X Y : Type 0} (parts : X → List Y) (xs : List X) (x : X) (y : Y) → Has xs x → Has (parts x) y → Has (flat_map parts xs) y
has_parts parts [] x y h part = absurd h
has_parts parts (z ∷ xs) x y (inl e) part = has_left (parts z) (flat_map parts xs) y (subst (λ w. Has (parts w) y) (sym e) part)
has_parts parts (z ∷ xs) x y (inr h) part = has_right (parts z) (flat_map parts xs) y (has_parts parts xs x y h part)

module _ (view : View) (journal : List Entry) (shows : ShowsJournal view journal) where
  pub transfer_given : (t : ℕ) → transfer_in view t ≡ record_at transfer_timestamp (transfers_of journal) t
  transfer_given t =
      record_unmade value.Transfer as_transfer (λ x. refl) (content_at (key_of 0 t) (tables_by view kind.Transfer)) (record_at transfer_timestamp (transfers_of journal) t)
      (shows row.TransferObjects (key_of 0 t) ∙ value_keyed transfer_timestamp value.Transfer t (transfers_of journal))

  pub account_given : (t : ℕ) → account_in view t ≡ record_at account_timestamp (accounts_of journal) t
  account_given t =
      record_unmade value.Account as_account (λ x. refl) (content_at (key_of 0 t) (tables_by view kind.Account)) (record_at account_timestamp (accounts_of journal) t)
      (shows row.AccountObjects (key_of 0 t) ∙ value_keyed account_timestamp value.Account t (accounts_of journal))

  pub state_given : (t : ℕ) → state_in view t ≡ option_map (state_of journal) (record_at account_timestamp (accounts_of journal) t)
  state_given t =
      unmade value.State as_state (λ s. refl) (content_at (key_of 0 t) (tables_by view kind.State)) (option_map (state_of journal) (record_at account_timestamp (accounts_of journal) t))
      (shows row.AccountSums (key_of 0 t) ∙ value_keyed account_timestamp (λ a. value.State (state_of journal a)) t (accounts_of journal) ∙ sym (twice (record_at account_timestamp (accounts_of journal) t)))
    where
      twice : (o : Option Account) → option_map value.State (option_map (state_of journal) o) ≡ option_map (λ a. value.State (state_of journal a)) o
      twice None = refl
      twice (Some a) = refl

  pub shown_given : (t : ℕ) → shown_in view t ≡ option_map (shown journal) (record_at account_timestamp (accounts_of journal) t)
  shown_given t =
      ap (option_and_then (λ a. option_map (shown_by a) (state_in view t))) (account_given t)
      ∙ ap (λ (o : Option State). option_and_then (λ a. option_map (shown_by a) o) (record_at account_timestamp (accounts_of journal) t)) (state_given t)
      ∙ both (record_at account_timestamp (accounts_of journal) t)
    where
      both : (o : Option Account) → option_and_then (λ a. option_map (shown_by a) (option_map (state_of journal) o)) o ≡ option_map (shown journal) o
      both None = refl
      both (Some a) = refl

  module _ (maps : (r : Row) (k : Key) (v : Value) → Contains (rows_of journal r) (k, v) ↔ (value_of journal r k ≡ Some v)) (id : ℕ) (history : has_history journal id ≡ true) where
    -- the sums of an account right after a timestamp
    abbrev sums_after : ℕ → Sums
    sums_after t = balances_of (cut_after journal t) id

    abbrev sums_pair : ℕ → Pair
    sums_pair t = (key_of id t, value.Sums (sums_after t))

    side_pair : (n t : ℕ) → n ≡ id → Has (cond (has_history journal n) ((key_of n t, value.Sums (balances_of (cut_after journal t) n)) ∷ []) []) (sums_pair t)
    side_pair n t e =
        subst (λ m. Has (cond (has_history journal m) ((key_of m t, value.Sums (balances_of (cut_after journal t) m)) ∷ []) []) (sums_pair t)) (sym e)
        (subst (λ b. Has (cond b (sums_pair t ∷ []) []) (sums_pair t)) (sym history) (inl refl))

    pair_of_side : (x : Transfer) → is_on_side id x ≡ true → Has (history_pairs journal Debit x ++ history_pairs journal Credit x) (sums_pair x.timestamp)
    pair_of_side x on = step (x.debit_account_id == id) refl on
      where
        step : (b : Bool) → (x.debit_account_id == id) ≡ b → (b || x.credit_account_id == id) ≡ true → Has (history_pairs journal Debit x ++ history_pairs journal Credit x) (sums_pair x.timestamp)
        step true i o = has_left (history_pairs journal Debit x) (history_pairs journal Credit x) (sums_pair x.timestamp) (side_pair x.debit_account_id x.timestamp (eqb-true x.debit_account_id id i))
        step false i o = has_right (history_pairs journal Debit x) (history_pairs journal Credit x) (sums_pair x.timestamp) (side_pair x.credit_account_id x.timestamp (eqb-true x.credit_account_id id o))

    sums_given : (x : Transfer) → Has (transfers_of journal) x → is_on_side id x ≡ true → sums_in view id x.timestamp ≡ Some (sums_after x.timestamp)
    sums_given x has on =
        record_unmade value.Sums as_sums (λ s. refl) (content_at (key_of id x.timestamp) (tables_by view kind.Sums)) (Some (sums_after x.timestamp))
        (shows row.History (key_of id x.timestamp)
        ∙ (maps row.History (key_of id x.timestamp) (value.Sums (sums_after x.timestamp))).0
        (contained (rows_of journal row.History) (sums_pair x.timestamp)
        (has_parts (λ u. history_pairs journal Debit u ++ history_pairs journal Credit u) (transfers_of journal) x (sums_pair x.timestamp) has (pair_of_side x on))))

    pub balance_given : (t : ℕ) → holds_at transfer_timestamp (is_on_side id) (transfers_of journal) t ≡ true
        → balance_in view id t ≡ option_map (balance_after journal id) (record_at transfer_timestamp (transfers_of journal) t)
    balance_given t on = step (record_at transfer_timestamp (transfers_of journal) t) refl on
      where
        step : (o : Option Transfer) → record_at transfer_timestamp (transfers_of journal) t ≡ o → option_map_or (is_on_side id) o false ≡ true
            → balance_in view id t ≡ option_map (balance_after journal id) o
        step None e k = absurd (cc)
        step (Some x) e k =
            let has = found_has (λ u. u.timestamp == t) (transfers_of journal) x e in
            let at : x.timestamp ≡ t = eqb-true x.timestamp t (find_passes (λ u. u.timestamp == t) (transfers_of journal) x e) in
            subst (λ u. balance_in view id u ≡ Some (balance_after journal id x)) at
            (ap (option_map (balance_by x.timestamp)) (sums_given x has k))
