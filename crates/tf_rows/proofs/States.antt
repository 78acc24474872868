-- What an entry changes in the states of accounts: their balances, and whether they are closed.
use Rattle.std.proofs.Common.{◌≡◌, ◌≢◌, ℕ, ◌+◌, ◌-◌, List, [], ◌∷◌, ◌++◌, Some, None, Bool, true, false, not, ◌&&◌, ◌||◌, refl, ap, sym, ◌∙◌, subst, arith, inl, inr}
use Rattle.std.specs.Prelude.{◌==◌, if◌then◌else◌}
use Rattle.std.specs.List.{list_any}
use Rattle.std.proofs.lemmas.Bool.{and_left, and_right, both_ways, cases_Bool, eq-eqb, false_from_ne_true, ne_eqb, or_from}
use Rattle.std.proofs.Math.Bool.{or-false}
use Rattle.std.proofs.lemmas.Option.{none-some}
use Rattle.tf_records.specs.declared.account.Account.{Account}
use Rattle.tf_records.specs.declared.sums.Sums.{Sums}
use Rattle.tf_records.specs.declared.transfer.Transfer.{Transfer}
use Rattle.tf_journal.specs.declared.entry.Entry.{Entry}
use Rattle.tf_journal.specs.declared.entry.Entry.TheVariants as entry
use Rattle.tf_journal.specs.declared.side.Side.{Side}
use Rattle.tf_journal.specs.declared.side.Side.TheVariants.{Debit, Credit}
use Rattle.tf_journal.specs.Balances.{account_on, balances_of, pending_on, posted_amount, posted_by, posted_on}
use Rattle.tf_journal.specs.Closed.{closes, is_closed}
use Rattle.tf_journal.specs.Flags.{closes_credit, closes_debit, is_marked_closed, is_pending, is_void}
use Rattle.tf_journal.specs.Journal.{transfer_in}
use Rattle.tf_journal.specs.Laws.{settles}
use Rattle.tf_journal.specs.Lawful.{IsSound}
use Rattle.tf_journal.specs.Ledger.{CanGrow}
use Rattle.tf_journal.specs.Lookup.{account_with_id}
use Rattle.tf_journal.specs.Status.{is_open}
use Rattle.tf_journal.specs.Steps.{amount_on, released, set_aside}
use Rattle.tf_journal.proofs.Accepted.{account_is_new}
use Rattle.tf_journal.proofs.Limits.{unstored_is_zero}
use Rattle.tf_journal.proofs.Lists.{list_any_push}
use Rattle.tf_journal.proofs.Steps.{pending_push, posted_push}
use Rattle.tf_manifest.specs.declared.value.State.{State}
use Rattle.tf_manifest.specs.Rows.{state_of}
use Rattle.tf_manifest.proofs.Members.{Has, has_chosen}
use Rattle.tf_rows.specs.Edits.{closes_on, new_state, state_moved, state_pending, state_settled, with_pending, with_posted, without_pending}
use Rattle.tf_rows.proofs.Closers.{any_nothing, closed_stored, closer, closers_gone, closers_kept, closes_account, closes_once}
use Rattle.tf_rows.proofs.Settled.{Settles, SettlesNothing}

abbrev pub other : Side → Side
other Debit = Credit
other Credit = Debit

-- what is pending and posted on a side, and on the other one
abbrev on_side : Side → ℕ → ℕ → ℕ → ℕ → Sums
on_side Debit p q r s = record { debits_pending = p; debits_posted = q; credits_pending = r; credits_posted = s }
on_side Credit p q r s = record { debits_pending = r; debits_posted = s; credits_pending = p; credits_posted = q }

balances_on : (journal : List Entry) (side : Side) (id : ℕ)
    → balances_of journal id ≡ on_side side (pending_on journal side id) (posted_on journal side id) (pending_on journal (other side) id) (posted_on journal (other side) id)
balances_on journal Debit id = refl
balances_on journal Credit id = refl

on_same : (side : Side) (p q r s x y z w : ℕ) → p ≡ x → q ≡ y → r ≡ z → s ≡ w → on_side side p q r s ≡ on_side side x y z w
on_same side p q r s x y z w a b c d =
    ap (λ n. on_side side n q r s) a ∙ ap (λ n. on_side side x n r s) b ∙ ap (λ n. on_side side x y n s) c ∙ ap (λ n. on_side side x y z n) d

with_pending_on : (side : Side) (amount p q r s : ℕ) → with_pending side amount (on_side side p q r s) ≡ on_side side (p + amount) q r s
with_pending_on Debit amount p q r s = refl
with_pending_on Credit amount p q r s = refl

with_posted_on : (side : Side) (amount p q r s : ℕ) → with_posted side amount (on_side side p q r s) ≡ on_side side p (q + amount) r s
with_posted_on Debit amount p q r s = refl
with_posted_on Credit amount p q r s = refl

without_pending_on : (side : Side) (amount p q r s : ℕ) → without_pending side amount (on_side side p q r s) ≡ on_side side (p - amount) q r s
without_pending_on Debit amount p q r s = refl
without_pending_on Credit amount p q r s = refl

-- a change of one side of an account's sums
sums_after : (side : Side) (journal after : List Entry) (id : ℕ) (change : Sums → Sums) (pending posted : ℕ → ℕ)
    → ((p q r s : ℕ) → change (on_side side p q r s) ≡ on_side side (pending p) (posted q) r s)
    → pending (pending_on journal side id) ≡ pending_on after side id → posted (posted_on journal side id) ≡ posted_on after side id
    → pending_on journal (other side) id ≡ pending_on after (other side) id → posted_on journal (other side) id ≡ posted_on after (other side) id
    → balances_of after id ≡ change (balances_of journal id)
sums_after side journal after id change pending posted changes p q r s =
    balances_on after side id
    ∙ sym (on_same side (pending (pending_on journal side id)) (posted (posted_on journal side id)) (pending_on journal (other side) id) (posted_on journal (other side) id)
    (pending_on after side id) (posted_on after side id) (pending_on after (other side) id) (posted_on after (other side) id) p q r s)
    ∙ sym (changes (pending_on journal side id) (posted_on journal side id) (pending_on journal (other side) id) (posted_on journal (other side) id))
    ∙ ap change (sym (balances_on journal side id))

-- the amount of a transfer on a side
pub amount_here : (side : Side) (id : ℕ) (t : Transfer) → account_on side t ≡ id → amount_on side id t ≡ t.amount
amount_here side id t same = ap (λ (b : Bool). if b then t.amount else 0) (eq-eqb (account_on side t) id same)

pub amount_not : (side : Side) (id : ℕ) (t : Transfer) → account_on side t ≢ id → amount_on side id t ≡ 0
amount_not side id t differs = ap (λ (b : Bool). if b then t.amount else 0) (ne_eqb (account_on side t) id differs)

pub posts_here : (side : Side) (id : ℕ) (t : Transfer) → account_on side t ≡ id → posted_by side id (entry.Transfer t) ≡ posted_amount t
posts_here side id t same = ap (λ (b : Bool). if b then posted_amount t else 0) (eq-eqb (account_on side t) id same)

pub posts_not : (side : Side) (id : ℕ) (t : Transfer) → account_on side t ≢ id → posted_by side id (entry.Transfer t) ≡ 0
posts_not side id t differs = ap (λ (b : Bool). if b then posted_amount t else 0) (ne_eqb (account_on side t) id differs)

pub aside_is : (side : Side) (id : ℕ) (t : Transfer) (n : ℕ) → amount_on side id t ≡ n → is_pending t ≡ true → set_aside side id (entry.Transfer t) ≡ n
aside_is side id t n is pending = ap (λ (b : Bool). if b then amount_on side id t else 0) pending ∙ is

pub aside_not : (side : Side) (id : ℕ) (t : Transfer) → amount_on side id t ≡ 0 → set_aside side id (entry.Transfer t) ≡ 0
aside_not side id t is = elim (cases_Bool (is_pending t)) [
  | inl pending ↦ aside_is side id t 0 is pending
  | inr moved ↦ ap (λ (b : Bool). if b then amount_on side id t else 0) moved
]

-- the other account of a transfer
pub not_other : (side : Side) (id : ℕ) (t : Transfer) → account_on side t ≡ id → t.debit_account_id ≢ t.credit_account_id → account_on (other side) t ≢ id
not_other Debit id t same differ is = differ (same ∙ sym is)
not_other Credit id t same differ is = differ (is ∙ sym same)

-- the account that a transfer closes on a side
pub closes_here : (side : Side) (id : ℕ) (t : Transfer) → account_on side t ≡ id → t.debit_account_id ≢ t.credit_account_id → closes_account id t ≡ closes_on side t
closes_here Debit id t same differ =
    rw (eq-eqb t.debit_account_id id same, ne_eqb t.credit_account_id id (not_other Debit id t same differ)) (pick (closes_debit t) (closes_credit t)) where
      pick : (a b : Bool) → ((a && true) || (b && false)) ≡ a
      pick true b = refl
      pick false true = refl
      pick false false = refl
closes_here Credit id t same differ =
    rw (eq-eqb t.credit_account_id id same, ne_eqb t.debit_account_id id (not_other Credit id t same differ)) (pick (closes_debit t) (closes_credit t)) where
      pick : (a b : Bool) → ((a && false) || (b && true)) ≡ b
      pick true true = refl
      pick true false = refl
      pick false true = refl
      pick false false = refl

pub closes_not : (id : ℕ) (t : Transfer) → t.debit_account_id ≢ id → t.credit_account_id ≢ id → closes_account id t ≡ false
closes_not id t debit credit =
    or_from (closes_debit t && t.debit_account_id == id) (closes_credit t && t.credit_account_id == id)
    (and_right (closes_debit t) (t.debit_account_id == id) (ne_eqb t.debit_account_id id debit))
    (and_right (closes_credit t) (t.credit_account_id == id) (ne_eqb t.credit_account_id id credit))

abbrev make_state : Sums → Bool → State
make_state sums closed = record { sums = sums; closed = closed }

state_same : (sums others : Sums) (closed other_closed : Bool) → sums ≡ others → closed ≡ other_closed → make_state sums closed ≡ make_state others other_closed
state_same sums others closed other_closed s c = ap (λ (x : Sums). make_state x closed) s ∙ ap (λ (x : Bool). make_state others x) c

-- whether an account is closed after an entry
closed_pushed : (journal : List Entry) (e : Entry) (a : Account) (before own : Bool) → list_any (closes (journal ++ e ∷ []) a.id) journal ≡ before → closes (journal ++ e ∷ []) a.id e ≡ own
    → is_closed (journal ++ e ∷ []) a ≡ (is_marked_closed a || (before || own))
closed_pushed journal e a before own was is =
    ap (λ (b : Bool). is_marked_closed a || b)
    (list_any_push (closes (journal ++ e ∷ []) a.id) journal e ∙ ap (λ (b : Bool). b || closes (journal ++ e ∷ []) a.id e) was ∙ ap (λ (b : Bool). before || b) is)

closed_same : (journal : List Entry) (e : Entry) (a : Account) → list_any (closes (journal ++ e ∷ []) a.id) journal ≡ list_any (closes journal a.id) journal → closes (journal ++ e ∷ []) a.id e ≡ false
    → is_closed (journal ++ e ∷ []) a ≡ is_closed journal a
closed_same journal e a was is =
    closed_pushed journal e a (list_any (closes journal a.id) journal) false was is
    ∙ ap (λ (b : Bool). is_marked_closed a || b) (or-false (list_any (closes journal a.id) journal))

neither : (side : Side) (id : ℕ) (t : Transfer) → t.debit_account_id ≢ id → t.credit_account_id ≢ id → account_on side t ≢ id
neither Debit id t debit credit = debit
neither Credit id t debit credit = credit

or-grouped : (a b c : Bool) → (a || (b || c)) ≡ ((a || b) || c)
or-grouped true b c = refl
or-grouped false b c = refl

and-true : (b : Bool) → (b && true) ≡ b
and-true true = refl
and-true false = refl

module _ (journal : List Entry) (e : Entry) (sound : IsSound journal) (grows : CanGrow journal e) where
  pending_after : (side : Side) (id off aside : ℕ) → released journal side id e ≡ off → set_aside side id e ≡ aside
      → pending_on (journal ++ e ∷ []) side id + off ≡ pending_on journal side id + aside
  pending_after side id off aside o a =
      ap (λ n. pending_on (journal ++ e ∷ []) side id + n) (sym o) ∙ pending_push journal e side id sound grows ∙ ap (λ n. pending_on journal side id + n) a

  posted_after : (side : Side) (id more : ℕ) → posted_by side id e ≡ more → posted_on (journal ++ e ∷ []) side id ≡ posted_on journal side id + more
  posted_after side id more p = posted_push journal e side id ∙ ap (λ n. posted_on journal side id + n) p

  pending_stays : (side : Side) (id : ℕ) → released journal side id e ≡ 0 → set_aside side id e ≡ 0 → pending_on journal side id ≡ pending_on (journal ++ e ∷ []) side id
  pending_stays side id o a = omega (arith, pending_after side id 0 0 o a)

  posted_stays : (side : Side) (id : ℕ) → posted_by side id e ≡ 0 → posted_on journal side id ≡ posted_on (journal ++ e ∷ []) side id
  posted_stays side id p = omega (arith, posted_after side id 0 p)

  -- the state of an account that the entry doesn't touch
  pub state_stays : (a : Account) → ((side : Side) → released journal side a.id e ≡ 0) → ((side : Side) → set_aside side a.id e ≡ 0) → ((side : Side) → posted_by side a.id e ≡ 0)
      → list_any (closes (journal ++ e ∷ []) a.id) journal ≡ list_any (closes journal a.id) journal → closes (journal ++ e ∷ []) a.id e ≡ false
      → state_of (journal ++ e ∷ []) a ≡ state_of journal a
  state_stays a off aside posts closers own =
      state_same (balances_of (journal ++ e ∷ []) a.id) (balances_of journal a.id) (is_closed (journal ++ e ∷ []) a) (is_closed journal a)
      (sums_after Debit journal (journal ++ e ∷ []) a.id (λ (sums : Sums). sums) (λ (n : ℕ). n) (λ (n : ℕ). n) (λ p q r s. refl)
      (pending_stays Debit a.id (off Debit) (aside Debit)) (posted_stays Debit a.id (posts Debit)) (pending_stays Credit a.id (off Credit) (aside Credit)) (posted_stays Credit a.id (posts Credit)))
      (closed_same journal e a closers own)

  -- the state of an account of the pending transfer that the entry settles
  pub state_settles : (p : Transfer) (side : Side) (a : Account) (more : ℕ) → Settles journal e p → p.debit_account_id ≢ p.credit_account_id → account_on side p ≡ a.id → account_with_id journal a.id ≡ Some a
      → posted_by side a.id e ≡ more → posted_by (other side) a.id e ≡ 0 → closes (journal ++ e ∷ []) a.id e ≡ false
      → state_of (journal ++ e ∷ []) a ≡ state_settled side p more (state_of journal a)
  state_settles p side a more settled differ at stored posts posts_not_other own =
      let after = journal ++ e ∷ [] in
      let here = amount_here side a.id p at in
      let not_there = amount_not (other side) a.id p (not_other side a.id p at differ) in
      let pending = pending_after side a.id p.amount 0 (settled.off side a.id ∙ here) (settled.none_aside side a.id) in
      state_same (balances_of after a.id) (with_posted side more (without_pending side p.amount (balances_of journal a.id))) (is_closed after a) (is_closed journal a && not (closes_on side p))
      (sums_after side journal after a.id (λ (sums : Sums). with_posted side more (without_pending side p.amount sums)) (λ (n : ℕ). n - p.amount) (λ (n : ℕ). n + more)
      (λ x y z w. ap (with_posted side more) (without_pending_on side p.amount x y z w) ∙ with_posted_on side more (x - p.amount) y z w)
      (omega (arith, pending)) (sym (posted_after side a.id more posts))
      (pending_stays (other side) a.id (settled.off (other side) a.id ∙ not_there) (settled.none_aside (other side) a.id))
      (posted_stays (other side) a.id posts_not_other))
      closed where
        closed : is_closed (journal ++ e ∷ []) a ≡ (is_closed journal a && not (closes_on side p))
        closed = elim (cases_Bool (closes_on side p)) [
          | inl closing ↦
              let it = closes_here side a.id p at differ ∙ closing in
              let unmarked : is_marked_closed a ≡ false = false_from_ne_true (is_marked_closed a) (λ marked.
              (closes_once journal sound).unmarked a.id a stored marked p settled.has (record { pending = settled.pending; closing = it; opens = settled.before })) in
              closed_pushed journal e a false false (closers_gone journal e a.id p sound settled it) own
              ∙ or-false (is_marked_closed a) ∙ unmarked
              ∙ sym (and_right (is_closed journal a) (not (closes_on side p)) (ap not closing))
          | inr stays ↦
              let it = closes_here side a.id p at differ ∙ stays in
              closed_same journal e a
              (closers_kept journal e a.id (λ t has pending closing. false_from_ne_true (settles t e) (λ hit.
              both_ways (closes_account a.id t) (ap (closes_account a.id) (settled.only t has pending hit) ∙ it) closing))) own
              ∙ sym (ap (λ (b : Bool). is_closed journal a && not b) stays ∙ and-true (is_closed journal a))
        ]

  -- of an account of a new pending transfer
  pub state_opens : (t : Transfer) (side : Side) (a : Account) → e ≡ entry.Transfer t → SettlesNothing journal e → is_pending t ≡ true → is_open (journal ++ e ∷ []) t ≡ true
      → t.debit_account_id ≢ t.credit_account_id → account_on side t ≡ a.id → state_of (journal ++ e ∷ []) a ≡ state_pending side t (state_of journal a)
  state_opens t side a same nothing pending opens differ at =
      let after = journal ++ e ∷ [] in
      let here = aside_is side a.id t t.amount (amount_here side a.id t at) pending in
      let not_there = aside_not (other side) a.id t (amount_not (other side) a.id t (not_other side a.id t at differ)) in
      let none : posted_amount t ≡ 0 = ap (λ (b : Bool). if b then 0 else if is_void t then 0 else t.amount) pending in
      let own : closes after a.id e ≡ closes_on side t
      = ap (closes after a.id) same
      ∙ ap (λ (b : Bool). (b && closes_account a.id t) && is_open after t) pending ∙ ap (λ (b : Bool). closes_account a.id t && b) opens
      ∙ and-true (closes_account a.id t) ∙ closes_here side a.id t at differ in
      state_same (balances_of after a.id) (with_pending side t.amount (balances_of journal a.id)) (is_closed after a) (is_closed journal a || closes_on side t)
      (sums_after side journal after a.id (with_pending side t.amount) (λ (n : ℕ). n + t.amount) (λ (n : ℕ). n) (with_pending_on side t.amount)
      (omega (arith, pending_after side a.id 0 t.amount (nothing.off side a.id) (ap (set_aside side a.id) same ∙ here)))
      (posted_stays side a.id (ap (posted_by side a.id) same ∙ posts_here side a.id t at ∙ none))
      (pending_stays (other side) a.id (nothing.off (other side) a.id) (ap (set_aside (other side) a.id) same ∙ not_there))
      (posted_stays (other side) a.id (ap (posted_by (other side) a.id) same ∙ posts_not (other side) a.id t (not_other side a.id t at differ))))
      (closed_pushed journal e a (list_any (closes journal a.id) journal) (closes_on side t)
      (closers_kept journal e a.id (λ u has is closing. nothing.none u)) own
      ∙ or-grouped (is_marked_closed a) (list_any (closes journal a.id) journal) (closes_on side t))

  -- of an account of a transfer that is neither pending nor a post or void
  pub state_moves : (t : Transfer) (side : Side) (a : Account) → e ≡ entry.Transfer t → SettlesNothing journal e → is_pending t ≡ false → posted_amount t ≡ t.amount
      → t.debit_account_id ≢ t.credit_account_id → account_on side t ≡ a.id → state_of (journal ++ e ∷ []) a ≡ state_moved side t (state_of journal a)
  state_moves t side a same nothing moved whole differ at =
      let after = journal ++ e ∷ [] in
      let none_aside = λ (s : Side). ap (set_aside s a.id) same ∙ ap (λ (b : Bool). if b then amount_on s a.id t else 0) moved in
      let own : closes after a.id e ≡ false
      = ap (closes after a.id) same ∙ ap (λ (b : Bool). (b && closes_account a.id t) && is_open after t) moved in
      state_same (balances_of after a.id) (with_posted side t.amount (balances_of journal a.id)) (is_closed after a) (is_closed journal a)
      (sums_after side journal after a.id (with_posted side t.amount) (λ (n : ℕ). n) (λ (n : ℕ). n + t.amount) (with_posted_on side t.amount)
      (pending_stays side a.id (nothing.off side a.id) (none_aside side))
      (sym (posted_after side a.id t.amount (ap (posted_by side a.id) same ∙ posts_here side a.id t at ∙ whole)))
      (pending_stays (other side) a.id (nothing.off (other side) a.id) (none_aside (other side)))
      (posted_stays (other side) a.id (ap (posted_by (other side) a.id) same ∙ posts_not (other side) a.id t (not_other side a.id t at differ))))
      (closed_same journal e a (closers_kept journal e a.id (λ u has is closing. nothing.none u)) own)

  -- of an account that a transfer which settles nothing doesn't touch
  pub state_unmoved : (t : Transfer) (a : Account) → e ≡ entry.Transfer t → SettlesNothing journal e → t.debit_account_id ≢ a.id → t.credit_account_id ≢ a.id
      → state_of (journal ++ e ∷ []) a ≡ state_of journal a
  state_unmoved t a same nothing debit credit =
      let after = journal ++ e ∷ [] in
      state_stays a (λ side. nothing.off side a.id)
      (λ side. ap (set_aside side a.id) same ∙ aside_not side a.id t (amount_not side a.id t (neither side a.id t debit credit)))
      (λ side. ap (posted_by side a.id) same ∙ posts_not side a.id t (neither side a.id t debit credit))
      (closers_kept journal e a.id (λ u has is closing. nothing.none u))
      (ap (closes after a.id) same ∙ and_left (is_pending t && closes_account a.id t) (is_open after t) (and_right (is_pending t) (closes_account a.id t) (closes_not a.id t debit credit)))

  -- of an account that is none of the pending transfer that the entry settles
  pub state_unsettled : (p : Transfer) (a : Account) → Settles journal e p → p.debit_account_id ≢ a.id → p.credit_account_id ≢ a.id → ((side : Side) → posted_by side a.id e ≡ 0)
      → closes (journal ++ e ∷ []) a.id e ≡ false → state_of (journal ++ e ∷ []) a ≡ state_of journal a
  state_unsettled p a settled debit credit posts own =
      state_stays a (λ side. settled.off side a.id ∙ amount_not side a.id p (neither side a.id p debit credit)) (λ side. settled.none_aside side a.id) posts
      (closers_kept journal e a.id (λ t has pending closing. false_from_ne_true (settles t e) (λ hit.
      both_ways (closes_account a.id t) (ap (closes_account a.id) (settled.only t has pending hit) ∙ closes_not a.id p debit credit) closing)))
      own

-- nothing closes an account that isn't stored
closers_none : (journal : List Entry) (id : ℕ) → IsSound journal → account_with_id journal id ≡ None → list_any (closes journal id) journal ≡ false
closers_none journal id sound none = any_nothing (closes journal id) journal each where
  each : (x : Entry) → Has journal x → closes journal id x ≡ false
  each (entry.Account a) h = refl
  each (entry.Transfer t) h = false_from_ne_true (closes journal id (entry.Transfer t)) (λ hit.
      let stored = closed_stored journal id t sound (has_chosen transfer_in journal (entry.Transfer t) t h refl) (closer journal id t hit).closing in
      none-some stored.0 (sym none ∙ stored.1))
  each (entry.Expiry timestamp pending) h = refl
  each (entry.Failed timestamp failed) h = refl

-- the state of a new account
pub new_account : (journal : List Entry) (a : Account) → IsSound journal → CanGrow journal (entry.Account a) → state_of (journal ++ entry.Account a ∷ []) a ≡ new_state a
new_account journal a sound grows =
    let e = entry.Account a in
    let same : grows.admitted.event.id ≡ a.id = ap (λ (b : Account). b.id) grows.admitted.stored in
    let none = subst (λ (id : ℕ). account_with_id journal id ≡ None) same (account_is_new journal a.timestamp grows.admitted.event grows.admitted.accepted) in
    let zero = λ (side : Side). unstored_is_zero journal side a.id sound none in
    let stays = state_stays journal e sound grows a (λ side. refl) (λ side. refl) (λ side. refl) (closers_kept journal e a.id (λ t h is closing. refl)) refl in
    stays ∙ state_same (balances_of journal a.id) (new_state a).sums (is_closed journal a) (is_marked_closed a)
    (on_same Debit (pending_on journal Debit a.id) (posted_on journal Debit a.id) (pending_on journal Credit a.id) (posted_on journal Credit a.id) 0 0 0 0 (zero Debit).0 (zero Debit).1 (zero Credit).0 (zero Credit).1)
    (ap (λ (b : Bool). is_marked_closed a || b) (closers_none journal a.id sound none) ∙ or-false (is_marked_closed a))
