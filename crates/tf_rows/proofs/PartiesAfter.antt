-- The accounts of a journal, with their states, after its next entry and before it.
use Rattle.std.proofs.Common.{◌≡◌, ◌≢◌, ℕ, List, [], ◌∷◌, ◌++◌, find, Option, Some, None, Bool, true, false, refl, ap, sym, ◌∙◌, subst, inl, inr}
use Rattle.std.specs.Prelude.{◌==◌, IfSome, if◌then◌else◌}
use Rattle.std.specs.Option.{option_and_then, option_map, option_map_or, option_or}
use Rattle.std.proofs.lemmas.Bool.{cases_Bool, eq-eqb, eqb-false, eqb-true, ne_eqb}
use Rattle.std.proofs.lemmas.List.Folds.{find-append}
use Rattle.std.proofs.lemmas.Option.{none-some, same_Some}
use Rattle.tf_records.specs.declared.account.Account.{Account}
use Rattle.tf_records.specs.declared.transfer.Transfer.{Transfer}
use Rattle.tf_journal.specs.declared.entry.Entry.{Entry}
use Rattle.tf_journal.specs.declared.entry.Entry.TheVariants as entry
use Rattle.tf_journal.specs.declared.side.Side.{Side}
use Rattle.tf_journal.specs.declared.side.Side.TheVariants.{Debit, Credit}
use Rattle.tf_journal.specs.Journal.{account_in, accounts_of}
use Rattle.tf_journal.specs.Lawful.{IsSound}
use Rattle.tf_journal.specs.Ledger.{CanGrow}
use Rattle.tf_journal.specs.Lookup.{account_with_id}
use Rattle.tf_journal.specs.Status.{pending_at}
use Rattle.tf_journal.proofs.Accepted.{account_is_new}
use Rattle.tf_journal.proofs.Sound.{sound_push}
use Rattle.tf_journal.proofs.Unique.{accounts_kept, accounts_push}
use Rattle.tf_table.specs.declared.key.Key.{Key}
use Rattle.tf_manifest.specs.declared.row.Row.{Row}
use Rattle.tf_manifest.specs.declared.row.Row.TheVariants as row
use Rattle.tf_manifest.specs.declared.value.State.{State}
use Rattle.tf_manifest.specs.declared.value.Value.{Value}
use Rattle.tf_manifest.specs.declared.value.Value.TheVariants as value
use Rattle.tf_manifest.specs.Rows.{key_of, rows_of, state_of}
use Rattle.tf_manifest.specs.Shows.{value_of}
use Rattle.tf_manifest.proofs.Members.{Has, has_either, has_left, has_map, has_right}
use Rattle.tf_manifest.proofs.OneValue.{contained}
use Rattle.tf_rows.specs.declared.found.Found.{Found}
use Rattle.tf_rows.specs.declared.found.Party.{Party}
use Rattle.tf_rows.specs.Edits.{Edit, edits, expired_states, found_by_expiry, found_for, new_state, party_after, party_of, present_party, put, state_after, state_edit, state_edits, state_settled}
use Rattle.tf_rows.specs.LookUps.{as_account, as_state, party_with}
use Rattle.tf_rows.specs.Resident.{Accounts, accounts_after, accounts_before, former_of, formers_of, new_party, with_any, with_state_back, with_states, without_any}
use Rattle.tf_rows.proofs.Changes.{IsUntouched, RowsAreMaps}
use Rattle.tf_rows.proofs.Entries.{entry_changes}
use Rattle.tf_rows.proofs.StateRow.{account_added, account_before, account_has, account_id, states_are}
use Rattle.tf_rows.proofs.States.{new_account}

-- a choice by a test of two numbers
by_number : (P : Bool → Type 0) (a b : ℕ) → (a ≡ b → P true) → (a ≢ b → P false) → P (a == b)
by_number P a b same other = elim (cases_Bool (a == b)) [
  | inl is ↦ subst P (sym is) (same (eqb-true a b is))
  | inr is ↦ subst P (sym is) (other (λ e. absurd (eqb-false a b is e)))
]

-- an account that is found has its own state
record IsPresent (journal : List Entry) (id : ℕ) (p : Party) : Type 0 where
  stored : account_with_id journal id ≡ Some p.account
  state : p.state ≡ state_of journal p.account
  own : p.account.id ≡ id

is_present : (journal : List Entry) (id : ℕ) (p : Party) → party_of journal id ≡ Some p → IsPresent journal id p
is_present journal id p found = by_account (account_with_id journal id) refl found where
  by_account : (o : Option Account) → account_with_id journal id ≡ o → option_map (present_party journal) o ≡ Some p → IsPresent journal id p
  by_account None none is = absurd (none-some p is)
  by_account (Some a) stored is =
      let same : present_party journal a ≡ p = same_Some (present_party journal a) p is in
      subst (IsPresent journal id) same (record { stored = stored; state = refl; own = account_id journal id a stored })

party_with_state : (journal : List Entry) (id : ℕ) (a : Account) (s : State) → account_with_id journal id ≡ Some a → state_of journal a ≡ s → party_of journal id ≡ Some (record { account = a; state = s })
party_with_state journal id a s stored is =
    ap (option_map (present_party journal)) stored ∙ ap (λ (t : State). Some (party_with a t)) is

-- it isn't the account with this id
abbrev IsApart : Option Party → ℕ → Type 0
IsApart found id = IfSome found (λ p. id ≢ p.account.id)

module _ (maps : RowsAreMaps) where
  value_there : (journal : List Entry) → IsSound journal → (r : Row) (k : Key) (v : Value) → Has (rows_of journal r) (k, v) → value_of journal r k ≡ Some v
  value_there journal sound r k v h = (maps journal sound r k v).0 (contained (rows_of journal r) (k, v) h)

  -- no two accounts have one timestamp
  one_account : (journal : List Entry) → IsSound journal → (a b : Account) → Has (accounts_of journal) a → Has (accounts_of journal) b → a.timestamp ≡ b.timestamp → a ≡ b
  one_account journal sound a b here there same =
      let first = value_there journal sound row.AccountObjects (key_of 0 a.timestamp) (value.Account a) (has_map (λ (c : Account). (key_of 0 c.timestamp, value.Account c)) (accounts_of journal) a here) in
      let second = value_there journal sound row.AccountObjects (key_of 0 b.timestamp) (value.Account b) (has_map (λ (c : Account). (key_of 0 c.timestamp, value.Account c)) (accounts_of journal) b there) in
      same_Some a b (ap (option_and_then as_account) (sym first ∙ ap (λ (n : ℕ). value_of journal row.AccountObjects (key_of 0 n)) same ∙ second))

  module _ (journal : List Entry) (e : Entry) (sound : IsSound journal) (grows : CanGrow journal e) where
    abbrev after : List Entry
    after = journal ++ e ∷ []

    after_sound : IsSound after
    after_sound = sound_push journal e sound grows

    one_state : (a : Account) (s : State) → Has (accounts_of after) a → Has (rows_of after row.AccountSums) (key_of 0 a.timestamp, value.State s) → state_of after a ≡ s
    one_state a s stored has =
        let is = value_there after after_sound row.AccountSums (key_of 0 a.timestamp) (value.State s) has in
        let own = value_there after after_sound row.AccountSums (key_of 0 a.timestamp) (value.State (state_of after a)) ((states_are after).into a stored) in
        same_Some (state_of after a) s (ap (option_and_then as_state) (sym own ∙ is))

    -- an account whose state no edit changes, and one of which an edit says the state
    stays : (a : Account) → Has (accounts_of journal) a → IsUntouched (edits journal e row.AccountSums) (key_of 0 a.timestamp) → state_of after a ≡ state_of journal a
    stays a has u =
        one_state a (state_of journal a) (account_before journal e a has)
        ((entry_changes journal e sound grows row.AccountSums).kept (key_of 0 a.timestamp, value.State (state_of journal a)) u ((states_are journal).into a has))

    changes : (a : Account) (s : State) → Has (accounts_of journal) a → Has (edits journal e row.AccountSums) (put (key_of 0 a.timestamp) (value.State s)) → state_of after a ≡ s
    changes a s has edit =
        one_state a s (account_before journal e a has) ((entry_changes journal e sound grows row.AccountSums).there (key_of 0 a.timestamp) (value.State s) edit)

    -- no account is added
    module _ (none : account_in e ≡ None) where
      kept : (id : ℕ) → account_with_id after id ≡ account_with_id journal id
      kept id = ap (λ (accounts : List Account). find (λ (a : Account). a.id == id) accounts) (accounts_kept journal e none)

      party_stays : (id : ℕ) → ((a : Account) → account_with_id journal id ≡ Some a → state_of after a ≡ state_of journal a) → party_of journal id ≡ party_of after id
      party_stays id same = sym (ap (option_map (present_party after)) (kept id) ∙ by_account (account_with_id journal id) refl) where
        by_account : (o : Option Account) → account_with_id journal id ≡ o → option_map (present_party after) o ≡ option_map (present_party journal) o
        by_account None is = refl
        by_account (Some a) is = ap (λ (s : State). Some (party_with a s)) (same a is)

      -- the account on a side
      one_side : (o : Option Party) (f : State → State) (sid : ℕ) → party_of journal sid ≡ o
          → ((edit : Edit) → Has (option_map_or (state_edit f) o []) edit → Has (edits journal e row.AccountSums) edit)
          → (accounts : Accounts) (id : ℕ) → (IsApart o id → accounts id ≡ party_of after id) → with_any (option_map (party_after f) o) accounts id ≡ party_of after id
      one_side None f sid found among accounts id rest = rest tt
      one_side (Some p) f sid found among accounts id rest =
          by_number (λ b. (if b then Some (party_after f p) else accounts id) ≡ party_of after id) id p.account.id
          (λ is.
          let there = is_present journal sid p found in
          let stored : account_with_id journal id ≡ Some p.account = subst (λ (n : ℕ). account_with_id journal n ≡ Some p.account) (sym (is ∙ there.own)) there.stored in
          let state = changes p.account (f p.state) (account_has journal id p.account stored) (among (put (key_of 0 p.account.timestamp) (value.State (f p.state))) (inl refl)) in
          sym (party_with_state after id p.account (f p.state) (kept id ∙ stored) state))
          rest

      -- an edit of a side is that of its account
      edit_of : (o : Option Party) (f : State → State) (k : Key) (v : Option Value) → Has (option_map_or (state_edit f) o []) (k, v) → IfSome o (λ p. key_of 0 p.account.timestamp ≡ k)
      edit_of None f k v has = tt
      edit_of (Some p) f k v (inl is) = ap (λ (edit : Edit). edit.0) is
      edit_of (Some p) f k v (inr none) = absurd none

      is_there : (o : Option Party) (f : State → State) (k : Key) (v : Option Value) → o ≡ None → Has (option_map_or (state_edit f) o []) (k, v) → ⊥
      is_there None f k v is has = has
      is_there (Some p) f k v is has = absurd (none-some p (sym is))

      apart_edit : (o : Option Party) (f : State → State) (sid : ℕ) → party_of journal sid ≡ o → (a : Account) → Has (accounts_of journal) a → IsApart o a.id
          → (v : Option Value) → Has (option_map_or (state_edit f) o []) (key_of 0 a.timestamp, v) → ⊥
      apart_edit None f sid found a has apart v edit = edit
      apart_edit (Some p) f sid found a has apart v edit =
          let there = is_present journal sid p found in
          let same : p.account ≡ a = one_account journal sound p.account a (account_has journal sid p.account there.stored) has
          (ap (λ (k : Key). k.timestamp) (edit_of (Some p) f (key_of 0 a.timestamp) v edit)) in
          apart (sym (ap (λ (b : Account). b.id) same))

      -- both sides
      module _ (found : Found) (change : Side → State → State) (debit credit : ℕ) (is_debit : party_of journal debit ≡ found.debit) (is_credit : party_of journal credit ≡ found.credit)
          (are : edits journal e row.AccountSums ≡ state_edits found change) where
        abbrev debits : List Edit
        debits = option_map_or (state_edit (change Debit)) found.debit []

        abbrev credits : List Edit
        credits = option_map_or (state_edit (change Credit)) found.credit []

        untouched : (id : ℕ) → IsApart found.debit id → IsApart found.credit id → party_of journal id ≡ party_of after id
        untouched id other_debit other_credit = party_stays id (λ a stored.
            let has = account_has journal id a stored in
            let own = account_id journal id a stored in
            stays a has (λ o edit. elim (has_either debits credits (key_of 0 a.timestamp, o) (subst (λ (es : List Edit). Has es (key_of 0 a.timestamp, o)) are edit)) [
              | inl d ↦ apart_edit found.debit (change Debit) debit is_debit a has (subst (IsApart found.debit) (sym own) other_debit) o d
              | inr c ↦ apart_edit found.credit (change Credit) credit is_credit a has (subst (IsApart found.credit) (sym own) other_credit) o c
            ]))

        pub sides_after : (id : ℕ) → with_states found change (party_of journal) id ≡ party_of after id
        sides_after id =
            one_side found.credit (change Credit) credit is_credit
            (λ edit h. subst (λ (es : List Edit). Has es edit) (sym are) (has_right debits credits edit h))
            (with_any (option_map (party_after (change Debit)) found.debit) (party_of journal)) id
            (λ other_credit. one_side found.debit (change Debit) debit is_debit
            (λ edit h. subst (λ (es : List Edit). Has es edit) (sym are) (has_left debits credits edit h))
            (party_of journal) id (λ other_debit. untouched id other_debit other_credit))

        -- accounts, of which each is the one that was stored
        abbrev AreStored : Accounts → Type 0
        AreStored accounts = (id : ℕ) → option_map (λ (p : Party). p.account) (accounts id) ≡ account_with_id journal id

        stored_after : AreStored (party_of after)
        stored_after id = by_account (account_with_id after id) ∙ kept id where
          by_account : (o : Option Account) → option_map (λ (p : Party). p.account) (option_map (present_party after) o) ≡ o
          by_account None = refl
          by_account (Some a) = refl

        same_account : (o : Option Party) (s : State) → option_map (λ (p : Party). p.account) (option_map (with_state_back s) o) ≡ option_map (λ (p : Party). p.account) o
        same_account None s = refl
        same_account (Some p) s = refl

        brought_back : (o : Option Party) (p : Party) → option_map (λ (q : Party). q.account) o ≡ Some p.account → option_map (with_state_back p.state) o ≡ Some p
        brought_back None p is = absurd (none-some p.account is)
        brought_back (Some q) p is = ap (λ (a : Account). Some (party_with a p.state)) (same_Some q.account p.account is)

        back_stored : (o : Option Party) (accounts : Accounts) → AreStored accounts → AreStored (without_any (option_map former_of o) accounts)
        back_stored None accounts stored id = stored id
        back_stored (Some p) accounts stored id =
            by_number (λ b. option_map (λ (q : Party). q.account) (if b then option_map (with_state_back p.state) (accounts id) else accounts id) ≡ account_with_id journal id) id p.account.id
            (λ is. same_account (accounts id) p.state ∙ stored id) (λ other. stored id)

        one_back : (o : Option Party) (sid : ℕ) → party_of journal sid ≡ o → (accounts : Accounts) → AreStored accounts
            → (id : ℕ) → (IsApart o id → accounts id ≡ party_of journal id) → without_any (option_map former_of o) accounts id ≡ party_of journal id
        one_back None sid is accounts stored id rest = rest tt
        one_back (Some p) sid is accounts stored id rest =
            by_number (λ b. (if b then option_map (with_state_back p.state) (accounts id) else accounts id) ≡ party_of journal id) id p.account.id
            (λ same.
            let there = is_present journal sid p is in
            let own : sid ≡ id = sym (same ∙ there.own) in
            brought_back (accounts id) p (stored id ∙ ap (account_with_id journal) (sym own) ∙ there.stored)
            ∙ sym (ap (party_of journal) (sym own) ∙ is))
            rest

        pub sides_before : (id : ℕ) → without_any (option_map former_of found.credit) (without_any (option_map former_of found.debit) (party_of after)) id ≡ party_of journal id
        sides_before id =
            one_back found.credit credit is_credit (without_any (option_map former_of found.debit) (party_of after)) (back_stored found.debit (party_of after) stored_after) id
            (λ other_credit. one_back found.debit debit is_debit (party_of after) stored_after id
            (λ other_debit. sym (untouched id other_debit other_credit)))

      -- no side
      pub none_after : edits journal e row.AccountSums ≡ [] → (id : ℕ) → party_of journal id ≡ party_of after id
      none_after are id = party_stays id (λ a stored. stays a (account_has journal id a stored) (λ o edit. subst (λ (es : List Edit). Has es (key_of 0 a.timestamp, o)) are edit))

  -- a new account
  module _ (journal : List Entry) (a : Account) (sound : IsSound journal) (grows : CanGrow journal (entry.Account a)) where
    abbrev grown : List Entry
    grown = journal ++ entry.Account a ∷ []

    is_new : account_with_id journal a.id ≡ None
    is_new = subst (λ (n : ℕ). account_with_id journal n ≡ None) (ap (λ (b : Account). b.id) grows.admitted.stored) (account_is_new journal a.timestamp grows.admitted.event grows.admitted.accepted)

    looked_up : (id : ℕ) → account_with_id grown id ≡ option_or (account_with_id journal id) (if a.id == id then Some a else None)
    looked_up id =
        ap (λ (accounts : List Account). find (λ (b : Account). b.id == id) accounts) (accounts_push journal a)
        ∙ find-append (λ (b : Account). b.id == id) (accounts_of journal) (a ∷ [])

    found_new : account_with_id grown a.id ≡ Some a
    found_new = looked_up a.id ∙ ap (λ (o : Option Account). option_or o (if a.id == a.id then Some a else None)) is_new ∙ ap (λ (b : Bool). if b then Some a else None) (eq-eqb a.id a.id refl)

    found_old : (id : ℕ) → id ≢ a.id → account_with_id grown id ≡ account_with_id journal id
    found_old id other = looked_up id ∙ ap (λ (b : Bool). option_or (account_with_id journal id) (if b then Some a else None)) (ne_eqb a.id id (λ e. other (sym e))) ∙ or_none (account_with_id journal id) where
      or_none : (o : Option Account) → option_or o None ≡ o
      or_none None = refl
      or_none (Some b) = refl

    old_state : (id : ℕ) → id ≢ a.id → (b : Account) → account_with_id journal id ≡ Some b → state_of grown b ≡ state_of journal b
    old_state id other b stored = stays journal (entry.Account a) sound grows b (account_has journal id b stored) (λ o edit. elim edit [
      | inl is ↦
          let same : a ≡ b = one_account grown (sound_push journal (entry.Account a) sound grows) a b (account_added journal a) (account_before journal (entry.Account a) b (account_has journal id b stored))
          (ap (λ (x : Edit). x.0.timestamp) is) in
          other (sym (account_id journal id b stored) ∙ sym (ap (λ (c : Account). c.id) same))
      | inr none ↦ none
    ])

    old_party : (id : ℕ) → id ≢ a.id → party_of journal id ≡ party_of grown id
    old_party id other = sym (ap (option_map (present_party grown)) (found_old id other) ∙ by_account (account_with_id journal id) refl) where
      by_account : (o : Option Account) → account_with_id journal id ≡ o → option_map (present_party grown) o ≡ option_map (present_party journal) o
      by_account None is = refl
      by_account (Some b) is = ap (λ (s : State). Some (party_with b s)) (old_state id other b is)

    new_after : (id : ℕ) → accounts_after (found_for journal (entry.Account a)) (entry.Account a) (party_of journal) id ≡ party_of grown id
    new_after id = by_number (λ b. (if b then Some (new_party a) else party_of journal id) ≡ party_of grown id) id a.id
        (λ is. sym (ap (party_of grown) is ∙ party_with_state grown a.id a (new_state a) found_new (new_account journal a sound grows)))
        (λ other. old_party id other)

    new_before : (id : ℕ) → accounts_before (formers_of (found_for journal (entry.Account a)) (entry.Account a)) (party_of grown) id ≡ party_of journal id
    new_before id = by_number (λ b. (if b then None else party_of grown id) ≡ party_of journal id) id a.id
        (λ is. sym (ap (party_of journal) is ∙ ap (option_map (present_party journal)) is_new))
        (λ other. sym (old_party id other))

  -- an expiry
  module _ (journal : List Entry) (timestamp pending : ℕ) (sound : IsSound journal) (grows : CanGrow journal (entry.Expiry timestamp pending)) where
    abbrev expiry : Entry
    expiry = entry.Expiry timestamp pending

    abbrev found_with : Option Transfer → Found
    found_with o = found_by_expiry (party_of journal) o

    edits_with : (o : Option Transfer) → pending_at journal pending ≡ o → edits journal expiry row.AccountSums ≡ option_map_or (expired_states (found_with o)) o []
    edits_with o is = ap (λ (x : Option Transfer). option_map_or (expired_states (found_with x)) x []) is

    expired_after : (id : ℕ) → accounts_after (found_for journal expiry) expiry (party_of journal) id ≡ party_of (journal ++ expiry ∷ []) id
    expired_after id = by_pending (pending_at journal pending) refl where
      by_pending : (o : Option Transfer) → pending_at journal pending ≡ o → accounts_after (found_with o) expiry (party_of journal) id ≡ party_of (journal ++ expiry ∷ []) id
      by_pending None is = none_after journal expiry sound grows refl (edits_with None is) id
      by_pending (Some p) is =
          sides_after journal expiry sound grows refl (found_with (Some p)) (λ side. state_settled side p 0) p.debit_account_id p.credit_account_id refl refl (edits_with (Some p) is) id

    expired_before : (id : ℕ) → accounts_before (formers_of (found_for journal expiry) expiry) (party_of (journal ++ expiry ∷ [])) id ≡ party_of journal id
    expired_before id = by_pending (pending_at journal pending) refl where
      by_pending : (o : Option Transfer) → pending_at journal pending ≡ o → accounts_before (formers_of (found_with o) expiry) (party_of (journal ++ expiry ∷ [])) id ≡ party_of journal id
      by_pending None is = sym (none_after journal expiry sound grows refl (edits_with None is) id)
      by_pending (Some p) is =
          sides_before journal expiry sound grows refl (found_with (Some p)) (λ side. state_settled side p 0) p.debit_account_id p.credit_account_id refl refl (edits_with (Some p) is) id

  -- any entry
  pub parties_after : (journal : List Entry) (e : Entry) → IsSound journal → CanGrow journal e → (id : ℕ) → accounts_after (found_for journal e) e (party_of journal) id ≡ party_of (journal ++ e ∷ []) id
  parties_after journal (entry.Account a) sound grows = new_after journal a sound grows
  parties_after journal (entry.Transfer t) sound grows =
      let found = found_for journal (entry.Transfer t) in
      sides_after journal (entry.Transfer t) sound grows refl found (λ side. state_after side t found.settled) t.debit_account_id t.credit_account_id refl refl refl
  parties_after journal (entry.Expiry timestamp pending) sound grows = expired_after journal timestamp pending sound grows
  parties_after journal (entry.Failed timestamp failed) sound grows = none_after journal (entry.Failed timestamp failed) sound grows refl refl

  pub parties_before : (journal : List Entry) (e : Entry) → IsSound journal → CanGrow journal e → (id : ℕ) → accounts_before (formers_of (found_for journal e) e) (party_of (journal ++ e ∷ [])) id ≡ party_of journal id
  parties_before journal (entry.Account a) sound grows id = new_before journal a sound grows id
  parties_before journal (entry.Transfer t) sound grows id =
      let found = found_for journal (entry.Transfer t) in
      sides_before journal (entry.Transfer t) sound grows refl found (λ side. state_after side t found.settled) t.debit_account_id t.credit_account_id refl refl refl id
  parties_before journal (entry.Expiry timestamp pending) sound grows id = expired_before journal timestamp pending sound grows id
  parties_before journal (entry.Failed timestamp failed) sound grows id = sym (none_after journal (entry.Failed timestamp failed) sound grows refl refl id)
