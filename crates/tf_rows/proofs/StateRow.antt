-- The row of the states of accounts after an entry.
use Rattle.std.proofs.Common.{◌≡◌, ◌≢◌, ℕ, List, [], ◌∷◌, ◌++◌, Some, None, refl, ap, sym, ◌∙◌, subst, inl, inr, ◌⊎◌}
use Rattle.std.specs.Prelude.{◌==◌}
use Rattle.std.proofs.lemmas.Bool.{eqb-true}
use Rattle.std.proofs.lemmas.Option.{none-some, same_Some}
use Rattle.tf_records.specs.declared.account.Account.{Account}
use Rattle.tf_journal.specs.declared.entry.Entry.{Entry}
use Rattle.tf_journal.specs.declared.entry.Entry.TheVariants as entry
use Rattle.tf_journal.specs.Journal.{account_in, accounts_of}
use Rattle.tf_journal.specs.Lawful.{IsSound}
use Rattle.tf_journal.specs.Lookup.{account_with_id}
use Rattle.tf_journal.proofs.Lists.{find_passes}
use Rattle.tf_journal.proofs.Unique.{sound_unique}
use Rattle.tf_manifest.specs.declared.row.Row.TheVariants as row
use Rattle.tf_manifest.specs.declared.value.State.{State}
use Rattle.tf_manifest.specs.declared.value.Value.TheVariants as value
use Rattle.tf_manifest.specs.Rows.{Pair, key_of, rows_of, state_of}
use Rattle.tf_manifest.proofs.Members.{Has, has_chosen, has_either, has_left, has_made, has_map, has_right}
use Rattle.tf_manifest.proofs.OneValue.{account_entry, pairs_once}
use Rattle.tf_rows.specs.Edits.{Edit, put}
use Rattle.tf_rows.proofs.Changes.{IsChange, IsOf, IsUntouched, remade}
use Rattle.tf_rows.proofs.Settled.{found_has}
use Rattle.tf_rows.proofs.Statuses.{one_not_gone, one_there}

abbrev pub state_pair : List Entry → Account → Pair
state_pair journal a = (key_of 0 a.timestamp, value.State (state_of journal a))

abbrev pub IsStored : List Entry → Account → Type 0
IsStored journal a = Has (accounts_of journal) a

pub states_are : (journal : List Entry) → IsOf (IsStored journal) (state_pair journal) (rows_of journal row.AccountSums)
states_are journal = record {
  from = λ p h. let made = has_made (state_pair journal) (accounts_of journal) p h in record { from = made.from; has = made.has; is = made.is };
  into = λ a has. has_map (state_pair journal) (accounts_of journal) a has;
}

-- the accounts after one more entry
pub account_before : (journal : List Entry) (e : Entry) (a : Account) → Has (accounts_of journal) a → Has (accounts_of (journal ++ e ∷ [])) a
account_before journal e a h =
    has_chosen account_in (journal ++ e ∷ []) (entry.Account a) a (has_left journal (e ∷ []) (entry.Account a) (account_entry journal a h)) refl

pub account_added : (journal : List Entry) (a : Account) → Has (accounts_of (journal ++ entry.Account a ∷ [])) a
account_added journal a =
    has_chosen account_in (journal ++ entry.Account a ∷ []) (entry.Account a) a (has_right journal (entry.Account a ∷ []) (entry.Account a) (inl refl)) refl

pub account_after : (journal : List Entry) (e : Entry) (a : Account) → Has (accounts_of (journal ++ e ∷ [])) a → Has (accounts_of journal) a ⊎ (e ≡ entry.Account a)
account_after journal e a h = elim (has_either journal (e ∷ []) (entry.Account a) (account_entry (journal ++ e ∷ []) a h)) [
  | inl old ↦ inl (has_chosen account_in journal (entry.Account a) a old refl)
  | inr (inl same) ↦ inr same
  | inr (inr none) ↦ absurd none
]

pub account_id : (journal : List Entry) (id : ℕ) (a : Account) → account_with_id journal id ≡ Some a → a.id ≡ id
account_id journal id a stored = eqb-true a.id id (find_passes (λ (b : Account). b.id == id) (accounts_of journal) a stored)

pub account_has : (journal : List Entry) (id : ℕ) (a : Account) → account_with_id journal id ≡ Some a → Has (accounts_of journal) a
account_has journal id a stored = found_has (λ (b : Account). b.id == id) (accounts_of journal) a stored

state_kept : (journal : List Entry) (e : Entry) (a : Account) → state_of (journal ++ e ∷ []) a ≡ state_of journal a → state_pair journal a ≡ state_pair (journal ++ e ∷ []) a
state_kept journal e a same = ap (λ (s : State). (key_of 0 a.timestamp, value.State s)) (sym same)

not_added : (e : Entry) (a : Account) → account_in e ≡ None → e ≡ entry.Account a → ⊥
not_added e a none same = none-some a (sym none ∙ ap account_in same)

-- an entry after which each account has the state that it had
pub states_stay : (journal : List Entry) (e : Entry) → account_in e ≡ None → ((a : Account) → Has (accounts_of journal) a → state_of (journal ++ e ∷ []) a ≡ state_of journal a)
    → IsChange (rows_of journal row.AccountSums) (rows_of (journal ++ e ∷ []) row.AccountSums) []
states_stay journal e none same =
    remade (IsStored journal) (IsStored (journal ++ e ∷ [])) (state_pair journal) (state_pair (journal ++ e ∷ []))
    (rows_of journal row.AccountSums) (rows_of (journal ++ e ∷ []) row.AccountSums) [] (states_are journal) (states_are (journal ++ e ∷ []))
    (λ k v h. absurd h) (λ k h. absurd h)
    (λ a has u. (account_before journal e a has, state_kept journal e a (same a has)))
    (λ a has u. elim (account_after journal e a has) [
      | inl old ↦ (old, state_kept journal e a (same a old))
      | inr new ↦ absurd (not_added e a none new)
    ])

-- a new account, the others having the states that they had
pub states_grow : (journal : List Entry) (account : Account) (s : State) → state_of (journal ++ entry.Account account ∷ []) account ≡ s
    → ((a : Account) → Has (accounts_of journal) a → state_of (journal ++ entry.Account account ∷ []) a ≡ state_of journal a)
    → IsChange (rows_of journal row.AccountSums) (rows_of (journal ++ entry.Account account ∷ []) row.AccountSums) (put (key_of 0 account.timestamp) (value.State s) ∷ [])
states_grow journal account s is same =
    let e = entry.Account account in
    let after = journal ++ e ∷ [] in
    let now : Has (rows_of after row.AccountSums) (key_of 0 account.timestamp, value.State s)
    = subst (λ (x : State). Has (rows_of after row.AccountSums) (key_of 0 account.timestamp, value.State x)) is ((states_are after).into account (account_added journal account)) in
    remade (IsStored journal) (IsStored after) (state_pair journal) (state_pair after)
    (rows_of journal row.AccountSums) (rows_of after row.AccountSums) (put (key_of 0 account.timestamp) (value.State s) ∷ []) (states_are journal) (states_are after)
    (one_there (rows_of after row.AccountSums) (key_of 0 account.timestamp) (value.State s) now)
    (λ k h. absurd (one_not_gone (key_of 0 account.timestamp) (value.State s) k h))
    (λ a has u. (account_before journal e a has, state_kept journal e a (same a has)))
    (λ a has u. elim (account_after journal e a has) [
      | inl old ↦ (old, state_kept journal e a (same a old))
      | inr new ↦
          let it : account ≡ a = same_Some account a (ap account_in new) in
          absurd (u (Some (value.State s)) (inl (ap (λ (b : Account). put (key_of 0 b.timestamp) (value.State s)) it)))
    ])

-- two accounts with new states, the others having the states that they had
module _ (journal : List Entry) (e : Entry) (sound : IsSound journal) (none : account_in e ≡ None) (debit credit : ℕ) (first second : Account) (first_state second_state : State) where
  abbrev two_edits : List Edit
  two_edits = put (key_of 0 first.timestamp) (value.State first_state) ∷ put (key_of 0 second.timestamp) (value.State second_state) ∷ []

  -- an account with one of the ids is touched
  touched : (id : ℕ) (account : Account) (s : State) → account_with_id journal id ≡ Some account → Has two_edits (put (key_of 0 account.timestamp) (value.State s))
      → (a : Account) → Has (accounts_of journal) a → IsUntouched two_edits (key_of 0 a.timestamp) → id ≢ a.id
  touched id account s stored edit a has u same =
      let it : account ≡ a = pairs_once (λ (b : Account). b.id) (accounts_of journal) (sound_unique journal sound).accounts account a (account_has journal id account stored) has (account_id journal id account stored ∙ same) in
      u (Some (value.State s)) (subst (λ (b : Account). Has two_edits (put (key_of 0 b.timestamp) (value.State s))) it edit)

  pub states_change : account_with_id journal debit ≡ Some first → account_with_id journal credit ≡ Some second
      → state_of (journal ++ e ∷ []) first ≡ first_state → state_of (journal ++ e ∷ []) second ≡ second_state
      → ((a : Account) → Has (accounts_of journal) a → debit ≢ a.id → credit ≢ a.id → state_of (journal ++ e ∷ []) a ≡ state_of journal a)
      → IsChange (rows_of journal row.AccountSums) (rows_of (journal ++ e ∷ []) row.AccountSums)
      (put (key_of 0 first.timestamp) (value.State first_state) ∷ put (key_of 0 second.timestamp) (value.State second_state) ∷ [])
  states_change debit_stored credit_stored first_is second_is others =
      let after = journal ++ e ∷ [] in
      let now = λ (a : Account) (s : State) (has : Has (accounts_of journal) a) (is : state_of after a ≡ s).
      subst (λ (x : State). Has (rows_of after row.AccountSums) (key_of 0 a.timestamp, value.State x)) is ((states_are after).into a (account_before journal e a has)) in
      let same = λ (a : Account) (has : Has (accounts_of journal) a) (u : IsUntouched two_edits (key_of 0 a.timestamp)).
      others a has (touched debit first first_state debit_stored (inl refl) a has u) (touched credit second second_state credit_stored (inr (inl refl)) a has u) in
      remade (IsStored journal) (IsStored after) (state_pair journal) (state_pair after)
      (rows_of journal row.AccountSums) (rows_of after row.AccountSums) two_edits (states_are journal) (states_are after)
      (λ k v h. elim h [
        | inl one ↦ one_there (rows_of after row.AccountSums) (key_of 0 first.timestamp) (value.State first_state) (now first first_state (account_has journal debit first debit_stored) first_is) k v (inl one)
        | inr two ↦ one_there (rows_of after row.AccountSums) (key_of 0 second.timestamp) (value.State second_state) (now second second_state (account_has journal credit second credit_stored) second_is) k v two
      ])
      (λ k h. elim h [
        | inl one ↦ absurd (one_not_gone (key_of 0 first.timestamp) (value.State first_state) k (inl one))
        | inr two ↦ absurd (one_not_gone (key_of 0 second.timestamp) (value.State second_state) k two)
      ])
      (λ a has u. (account_before journal e a has, state_kept journal e a (same a has u)))
      (λ a has u. elim (account_after journal e a has) [
        | inl old ↦ (old, state_kept journal e a (same a old u))
        | inr new ↦ absurd (not_added e a none new)
      ])
