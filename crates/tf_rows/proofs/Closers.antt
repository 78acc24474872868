-- At most one open pending transfer closes an account, and none one that is closed by its own flag.
use Rattle.std.proofs.Common.{◌≡◌, ℕ, List, [], ◌∷◌, ◌++◌, Option, Some, Bool, true, false, not, ◌&&◌, ◌||◌, refl, ap, sym, ◌∙◌, subst, inl, inr}
use Rattle.std.specs.Prelude.{◌==◌, if◌then◌else◌}
use Rattle.std.specs.List.{list_any}
use Rattle.std.specs.Option.{option_map_or}
use Rattle.std.proofs.lemmas.Bool.{and_from, and_left, and_parts, and_right, both_ways, cases_Bool, eqb-true, false_from_ne_true, not_from_true, or_cases, or_parts}
use Rattle.std.proofs.lemmas.Option.{same_Some}
use Rattle.tf_records.specs.declared.account.Account.{Account}
use Rattle.tf_records.specs.declared.transfer.Transfer.{Transfer}
use Rattle.tf_journal.specs.declared.entry.Entry.{Entry}
use Rattle.tf_journal.specs.declared.entry.Entry.TheVariants as entry
use Rattle.tf_journal.specs.Closed.{closes, is_closed}
use Rattle.tf_journal.specs.Flags.{closes_credit, closes_debit, is_marked_closed, is_pending, is_settling}
use Rattle.tf_journal.specs.Journal.{accounts_of, transfer_in, transfers_of}
use Rattle.tf_journal.specs.Laws.{HasAccounts, settles}
use Rattle.tf_journal.specs.Lawful.{IsAdmitted, IsAdmittedTransfer, IsSound}
use Rattle.tf_journal.specs.Ledger.{CanGrow}
use Rattle.tf_journal.specs.Lookup.{account_with_id, is_closed_at, transfer_with_id}
use Rattle.tf_journal.specs.Status.{is_open}
use Rattle.tf_journal.specs.Stored.{settled, stamped}
use Rattle.tf_journal.specs.Verdict.{sides_faults}
use Rattle.tf_journal.proofs.Accepted.{no_line, transfer_new, transfer_passed}
use Rattle.tf_journal.proofs.Accounts.{account_stays, sound_has_accounts}
use Rattle.tf_journal.proofs.Lists.{find_passes}
use Rattle.tf_journal.proofs.Settling.{open_push}
use Rattle.tf_journal.proofs.Sound.{by_growth}
use Rattle.tf_manifest.proofs.Members.{Has, all_has, any_has, has_chosen}
use Rattle.tf_manifest.proofs.OneValue.{transfer_entry}
use Rattle.tf_rows.proofs.Settled.{Settles, open_stays, transfer_after}

-- whether a transfer's flags close the account with this id
abbrev pub closes_account : ℕ → Transfer → Bool
closes_account id t = (closes_debit t && t.debit_account_id == id) || (closes_credit t && t.credit_account_id == id)

-- the accounts of a transfer that is admitted and moves an amount are open
moved_open : (journal : List Entry) (t : Transfer) → IsAdmittedTransfer journal t → is_settling t ≡ false
    → (is_closed_at journal t.debit_account_id ≡ false) × (is_closed_at journal t.credit_account_id ≡ false)
moved_open journal t admitted moving =
    let e = admitted.event in
    let stored_as = λ (settling : Bool) (named : Option Transfer).
    if settling then option_map_or (λ pending. settled pending t.timestamp e) named (stamped t.timestamp e) else stamped t.timestamp e in
    elim (transfer_passed journal t.timestamp e admitted.accepted) [
      | inl passed ↦
          let chosen : stored_as true (Some passed.pending) ≡ stored_as (is_settling e) (transfer_with_id journal e.pending_id)
          = sym (ap (λ b. stored_as b (transfer_with_id journal e.pending_id)) passed.settling ∙ ap (λ o. stored_as true o) passed.named) in
          let wrong : is_settling t ≡ true = subst (λ u. is_settling u ≡ true) (chosen ∙ admitted.stored) passed.settling in
          absurd (both_ways (is_settling t) moving wrong)
      | inr passed ↦
          let chosen : stored_as false (transfer_with_id journal e.pending_id) ≡ stored_as (is_settling e) (transfer_with_id journal e.pending_id)
          = sym (ap (λ b. stored_as b (transfer_with_id journal e.pending_id)) passed.moving) in
          let lines = sides_faults journal t.timestamp e in
          subst (λ u. (is_closed_at journal u.debit_account_id ≡ false) × (is_closed_at journal u.credit_account_id ≡ false)) (chosen ∙ admitted.stored)
          (no_line lines 4 _ passed.sides_faults refl, no_line lines 5 _ passed.sides_faults refl)
    ]

-- what a new transfer closes was stored and open
record WasOpen (journal : List Entry) (id : ℕ) : Type 0 where
  pub account : Account
  pub stored : account_with_id journal id ≡ Some account
  pub marked : is_marked_closed account ≡ false
  pub closers : list_any (closes journal id) journal ≡ false

was_open_at : (journal : List Entry) (id at : ℕ) (account : Account) → at ≡ id → account_with_id journal at ≡ Some account → is_closed_at journal at ≡ false → WasOpen journal id
was_open_at journal id at account same stored closed =
    let none : is_closed journal account ≡ false = sym (ap (λ (o : Option Account). option_map_or (is_closed journal) o false) stored) ∙ closed in
    let parts = or_parts (is_marked_closed account) (list_any (closes journal account.id) journal) none in
    let own = eqb-true account.id at (find_passes (λ (a : Account). a.id == at) (accounts_of journal) account stored) in
    record {
      account = account;
      stored = subst (λ (n : ℕ). account_with_id journal n ≡ Some account) same stored;
      marked = parts.0;
      closers = subst (λ (n : ℕ). list_any (closes journal n) journal ≡ false) (own ∙ same) parts.1;
    }

closes_new : (journal : List Entry) (t : Transfer) (id : ℕ) → IsAdmittedTransfer journal t → is_pending t ≡ true → closes_account id t ≡ true → WasOpen journal id
closes_new journal t id admitted pending closing =
    elim (transfer_new journal t admitted) [
      | inl new ↦ absurd (both_ways (is_pending t) new.not_pending pending)
      | inr new ↦
          let opened = moved_open journal t admitted new.moving in
          elim (or_cases (closes_debit t && t.debit_account_id == id) (closes_credit t && t.credit_account_id == id) closing) [
            | inl debit ↦
                let at = eqb-true t.debit_account_id id (and_parts (closes_debit t) (t.debit_account_id == id) debit).1 in
                was_open_at journal id t.debit_account_id new.debit at new.debit_stored opened.0
            | inr credit ↦
                let at = eqb-true t.credit_account_id id (and_parts (closes_credit t) (t.credit_account_id == id) credit).1 in
                was_open_at journal id t.credit_account_id new.credit at new.credit_stored opened.1
          ]
    ]

-- the parts of a transfer that closes an account
pub record IsCloser (journal : List Entry) (id : ℕ) (t : Transfer) : Type 0 where
  pub pending : is_pending t ≡ true
  pub closing : closes_account id t ≡ true
  pub opens : is_open journal t ≡ true

pub closer : (journal : List Entry) (id : ℕ) (t : Transfer) → closes journal id (entry.Transfer t) ≡ true → IsCloser journal id t
closer journal id t is =
    let both = and_parts (is_pending t && closes_account id t) (is_open journal t) is in
    let first = and_parts (is_pending t) (closes_account id t) both.0 in
    record { pending = first.0; closing = first.1; opens = both.1 }

pub is_closer : (journal : List Entry) (id : ℕ) (t : Transfer) → IsCloser journal id t → closes journal id (entry.Transfer t) ≡ true
is_closer journal id t is = and_from (is_pending t && closes_account id t) (is_open journal t) (and_from (is_pending t) (closes_account id t) is.pending is.closing) is.opens

closer_back : (journal : List Entry) (e : Entry) (id : ℕ) (t : Transfer) → IsCloser (journal ++ e ∷ []) id t → IsCloser journal id t
closer_back journal e id t is = record {
  pending = is.pending;
  closing = is.closing;
  opens = (and_parts (is_open journal t) (not (settles t e)) (sym (open_push journal e t) ∙ is.opens)).0;
}

-- at most one transfer of a journal closes an account, and none one that is marked as closed
pub record ClosesOnce (journal : List Entry) : Type 0 where
  pub one : (id : ℕ) (t u : Transfer) → Has (transfers_of journal) t → Has (transfers_of journal) u → IsCloser journal id t → IsCloser journal id u → t ≡ u
  pub unmarked : (id : ℕ) (account : Account) → account_with_id journal id ≡ Some account → is_marked_closed account ≡ true
      → (t : Transfer) → Has (transfers_of journal) t → IsCloser journal id t → ⊥

no_old_closer : (journal : List Entry) (id : ℕ) (u : Transfer) → WasOpen journal id → Has (transfers_of journal) u → IsCloser journal id u → ⊥
no_old_closer journal id u was has is =
    both_ways (list_any (closes journal id) journal) was.closers
    (any_has (closes journal id) journal (entry.Transfer u) (transfer_entry journal u has) (is_closer journal id u is))

-- what a new entry closes was open
new_closer : (journal : List Entry) (e : Entry) (id : ℕ) (t : Transfer) → CanGrow journal e → e ≡ entry.Transfer t → IsCloser (journal ++ e ∷ []) id t → WasOpen journal id
new_closer journal e id t grows same is = closes_new journal t id (subst (IsAdmitted journal) same grows.admitted) is.pending is.closing

-- the account that an old transfer closes was stored
pub closed_stored : (journal : List Entry) (id : ℕ) (t : Transfer) → IsSound journal → Has (transfers_of journal) t → closes_account id t ≡ true
    → (account : Account) × (account_with_id journal id ≡ Some account)
closed_stored journal id t sound has closing =
    let accounts = all_has (HasAccounts journal) (transfers_of journal) t (sound_has_accounts journal sound) has in
    elim (or_cases (closes_debit t && t.debit_account_id == id) (closes_credit t && t.credit_account_id == id) closing) [
      | inl debit ↦ (accounts.debit, subst (λ (n : ℕ). account_with_id journal n ≡ Some accounts.debit) (eqb-true t.debit_account_id id (and_parts (closes_debit t) (t.debit_account_id == id) debit).1) accounts.debit_stored)
      | inr credit ↦ (accounts.credit, subst (λ (n : ℕ). account_with_id journal n ≡ Some accounts.credit) (eqb-true t.credit_account_id id (and_parts (closes_credit t) (t.credit_account_id == id) credit).1) accounts.credit_stored)
    ]

same_account : (journal : List Entry) (e : Entry) (id : ℕ) (account other : Account) → account_with_id journal id ≡ Some account → account_with_id (journal ++ e ∷ []) id ≡ Some other → account ≡ other
same_account journal e id account other before after = same_Some account other (sym (account_stays journal e id account before) ∙ after)

closes_once_push : (journal : List Entry) (e : Entry) → IsSound journal → CanGrow journal e → ClosesOnce journal → ClosesOnce (journal ++ e ∷ [])
closes_once_push journal e sound grows once = record {
  one = λ id t u ht hu ct cu. elim (transfer_after journal e t ht) [
    | inl old ↦ elim (transfer_after journal e u hu) [
      | inl also ↦ once.one id t u old also (closer_back journal e id t ct) (closer_back journal e id u cu)
      | inr new ↦ absurd (no_old_closer journal id t (new_closer journal e id u grows new cu) old (closer_back journal e id t ct))
    ]
    | inr new ↦ elim (transfer_after journal e u hu) [
      | inl old ↦ absurd (no_old_closer journal id u (new_closer journal e id t grows new ct) old (closer_back journal e id u cu))
      | inr also ↦ same_Some t u (ap transfer_in (sym new ∙ also))
    ]
  ];
  unmarked = λ id account stored marked t has is. elim (transfer_after journal e t has) [
    | inl old ↦
        let before = closed_stored journal id t sound old is.closing in
        let same = same_account journal e id before.0 account before.1 stored in
        once.unmarked id before.0 before.1 (subst (λ (a : Account). is_marked_closed a ≡ true) (sym same) marked) t old (closer_back journal e id t is)
    | inr new ↦
        let was = new_closer journal e id t grows new is in
        let same = same_account journal e id was.account account was.stored stored in
        both_ways (is_marked_closed account) (subst (λ (a : Account). is_marked_closed a ≡ false) same was.marked) marked
  ];
}

pub closes_once : (journal : List Entry) → IsSound journal → ClosesOnce journal
closes_once journal sound =
    by_growth ClosesOnce
    (record { one = λ id t u ht hu ct cu. absurd ht; unmarked = λ id account stored marked t has is. absurd has })
    closes_once_push journal sound

-- two tests that agree on each element
any_same : {X : Type 0} (p q : X → Bool) (xs : List X) → ((x : X) → Has xs x → p x ≡ q x) → list_any p xs ≡ list_any q xs
any_same p q [] same = refl
any_same p q (x ∷ xs) same =
    ap (λ (b : Bool). b || list_any p xs) (same x (inl refl)) ∙ ap (λ (b : Bool). q x || b) (any_same p q xs (λ y h. same y (inr h)))

pub any_nothing : {X : Type 0} (p : X → Bool) (xs : List X) → ((x : X) → Has xs x → p x ≡ false) → list_any p xs ≡ false
any_nothing p [] none = refl
any_nothing p (x ∷ xs) none =
    ap (λ (b : Bool). b || list_any p xs) (none x (inl refl)) ∙ any_nothing p xs (λ y h. none y (inr h))

-- an entry leaves what closes an account, unless it settles that
closes_kept : (journal : List Entry) (e : Entry) (id : ℕ) (t : Transfer) → (is_pending t ≡ true → closes_account id t ≡ true → settles t e ≡ false)
    → closes (journal ++ e ∷ []) id (entry.Transfer t) ≡ closes journal id (entry.Transfer t)
closes_kept journal e id t unsettled =
    elim (cases_Bool (is_pending t && closes_account id t)) [
      | inl closing ↦
          let parts = and_parts (is_pending t) (closes_account id t) closing in
          ap (λ (b : Bool). (is_pending t && closes_account id t) && b) (open_stays journal e t (unsettled parts.0 parts.1))
      | inr other ↦
          and_left (is_pending t && closes_account id t) (is_open (journal ++ e ∷ []) t) other
          ∙ sym (and_left (is_pending t && closes_account id t) (is_open journal t) other)
    ]

in_transfers : (journal : List Entry) (t : Transfer) → Has journal (entry.Transfer t) → Has (transfers_of journal) t
in_transfers journal t h = has_chosen transfer_in journal (entry.Transfer t) t h refl

pub closers_kept : (journal : List Entry) (e : Entry) (id : ℕ)
    → ((t : Transfer) → Has (transfers_of journal) t → is_pending t ≡ true → closes_account id t ≡ true → settles t e ≡ false)
    → list_any (closes (journal ++ e ∷ []) id) journal ≡ list_any (closes journal id) journal
closers_kept journal e id unsettled = any_same (closes (journal ++ e ∷ []) id) (closes journal id) journal each where
  each : (x : Entry) → Has journal x → closes (journal ++ e ∷ []) id x ≡ closes journal id x
  each (entry.Account a) h = refl
  each (entry.Transfer t) h = closes_kept journal e id t (unsettled t (in_transfers journal t h))
  each (entry.Expiry timestamp pending) h = refl
  each (entry.Failed timestamp failed) h = refl

-- the one that closed an account being settled, none does
pub closers_gone : (journal : List Entry) (e : Entry) (id : ℕ) (p : Transfer) → IsSound journal → Settles journal e p → closes_account id p ≡ true
    → list_any (closes (journal ++ e ∷ []) id) journal ≡ false
closers_gone journal e id p sound settled closing = any_nothing (closes (journal ++ e ∷ []) id) journal each where
  closed : is_open (journal ++ e ∷ []) p ≡ false
  closed = open_push journal e p ∙ and_right (is_open journal p) (not (settles p e)) (not_from_true (settles p e) settled.does)

  each : (x : Entry) → Has journal x → closes (journal ++ e ∷ []) id x ≡ false
  each (entry.Account a) h = refl
  each (entry.Transfer t) h = false_from_ne_true (closes (journal ++ e ∷ []) id (entry.Transfer t)) (λ yes.
      let is = closer (journal ++ e ∷ []) id t yes in
      let it : t ≡ p = (closes_once journal sound).one id t p (in_transfers journal t h) settled.has (closer_back journal e id t is) (record { pending = settled.pending; closing = closing; opens = settled.before }) in
      both_ways (is_open (journal ++ e ∷ []) t) (ap (is_open (journal ++ e ∷ [])) it ∙ closed) is.opens)
  each (entry.Expiry timestamp pending) h = refl
  each (entry.Failed timestamp failed) h = refl
