-- Sound journals are within limits.
use Rattle.std.proofs.Common.{◌≡◌, ◌≢◌, ℕ, ◌+◌, ◌≤◌, ◌<◌, length, Bool, true, false, List, [], ◌∷◌, ◌++◌, get_or, Option, Some, None, refl, ap, sym, ◌∙◌, subst, arith, ◌⊎◌, inl, inr}
use Rattle.std.specs.Prelude.{◌==◌, if◌then◌else◌}
use Rattle.std.specs.List.{find}
use Rattle.std.specs.Option.{option_map_or}
use Rattle.std.proofs.lemmas.Bool.{cases_eq, eq-eqb, ne_eqb}
use Rattle.std.proofs.lemmas.Option.{none-some, same_Some}
use Rattle.tf_records.specs.declared.account.Account.{Account}
use Rattle.tf_records.specs.declared.transfer.Transfer.{Transfer}
use Rattle.tf_journal.specs.declared.entry.Entry.{Entry}
use Rattle.tf_journal.specs.declared.entry.Entry.TheVariants as entry
use Rattle.tf_journal.specs.declared.side.Side.{Side}
use Rattle.tf_journal.specs.declared.side.Side.TheVariants.{Debit, Credit}
use Rattle.tf_journal.specs.Balances.{account_on, greatest_amount, pending_amount, pending_on, posted_amount, posted_by, posted_on}
use Rattle.tf_journal.specs.Flags.{is_pending, is_settling, is_void, limits_debits, limits_credits}
use Rattle.tf_journal.specs.Journal.{account_in, transfers_of}
use Rattle.tf_journal.specs.Laws.{IsWithinLimits}
use Rattle.tf_journal.specs.Lawful.{IsSound}
use Rattle.tf_journal.specs.Ledger.{CanGrow}
use Rattle.tf_journal.specs.Lookup.{account_with_id, transfer_with_id}
use Rattle.tf_journal.specs.Steps.{amount_on, released, set_aside}
use Rattle.tf_journal.proofs.Accepted.{IsNewMoving, IsNewSettling, transfer_new}
use Rattle.tf_journal.proofs.Accounts.{account_is_stored, account_stays, sound_has_accounts}
use Rattle.tf_journal.proofs.Lists.{sum_by_nothing}
use Rattle.tf_journal.proofs.Sound.{by_growth}
use Rattle.tf_journal.proofs.Steps.{pending_of, pending_push, pending_sum, posted_of, posted_push, posted_sum}
use Rattle.tf_journal.proofs.Unique.{accounts_kept}

-- nothing is pending or posted on an account that isn't stored
pub unstored_is_zero : (journal : List Entry) (side : Side) (id : ℕ) → IsSound journal → account_with_id journal id ≡ None
    → (pending_on journal side id ≡ 0) × (posted_on journal side id ≡ 0)
unstored_is_zero journal side id sound unstored =
    let transfers = transfers_of journal in
    let other : (k : ℕ) (d : Transfer) → k < length transfers → (account_on side (get_or transfers k d) == id) ≡ false
    = λ k d within. let transfer = get_or transfers k d in
    let account = account_is_stored journal side transfer (sound_has_accounts journal sound k d within) in
    ne_eqb (account_on side transfer) id (λ same.
    none-some account.0 (sym unstored ∙ ap (account_with_id journal) (sym same) ∙ account.1)) in
    let pending = sum_by_nothing (pending_of journal side id) transfers
    (λ k d within. ap (λ b. if b then pending_amount journal (get_or transfers k d) else 0) (other k d within)) in
    let posted = sum_by_nothing (posted_of side id) transfers
    (λ k d within. ap (λ b. if b then posted_amount (get_or transfers k d) else 0) (other k d within)) in
    (pending_sum journal journal side id ∙ pending, posted_sum journal side id ∙ posted)

-- what is pending and posted on a side of an account
abbrev total_on : List Entry → Side → ℕ → ℕ
total_on journal side id = pending_on journal side id + posted_on journal side id

-- an account is stored under the id, as before, or nothing was on either of its sides
abbrev IsOldOrZero : List Entry → List Entry → Type 0
IsOldOrZero journal after = (id : ℕ) (account : Account) → account_with_id after id ≡ Some account
    → (account_with_id journal id ≡ Some account) ⊎ ((side : Side) → total_on journal side id ≡ 0)

-- limits hold where no sum grew but what is posted
no_more_limited : (journal after : List Entry) → IsWithinLimits journal
    → ((side : Side) (id : ℕ) → (total_on after side id ≤ total_on journal side id) × (posted_on journal side id ≤ posted_on after side id))
    → IsOldOrZero journal after → IsWithinLimits after
no_more_limited journal after limited grew accounts = record {
  sums = λ side id. let no_more = grew side id in let before = limited.sums side id in omega arith;
  debits = λ id account stored has_limit. let own = grew Debit id in let other = grew Credit id in
      elim (accounts id account stored) [
        | inl old ↦ let before = limited.debits id account old has_limit in omega arith
        | inr zero ↦ let none = zero Debit in omega arith
      ];
  credits = λ id account stored has_limit. let own = grew Credit id in let other = grew Debit id in
      elim (accounts id account stored) [
        | inl old ↦ let before = limited.credits id account old has_limit in omega arith
        | inr zero ↦ let none = zero Credit in omega arith
      ];
}

-- an entry that adds no more than it releases
releases_limited : (journal : List Entry) (e : Entry) → IsSound journal → CanGrow journal e → IsWithinLimits journal
    → ((side : Side) (id : ℕ) → posted_by side id e + set_aside side id e ≤ released journal side id e)
    → IsOldOrZero journal (journal ++ e ∷ []) → IsWithinLimits (journal ++ e ∷ [])
releases_limited journal e sound grows limited no_more accounts =
    no_more_limited journal (journal ++ e ∷ []) limited
    (λ side id.
    let posted = posted_push journal e side id in
    let pending = pending_push journal e side id sound grows in
    let less = no_more side id in
    (omega arith, omega arith))
    accounts

-- no transfer adds more than its amount
adds_at_most : (transfer : Transfer) → posted_amount transfer + (if is_pending transfer then transfer.amount else 0) ≤ transfer.amount
adds_at_most transfer =
    let cases : (pending void : Bool) → (if pending then 0 else if void then 0 else transfer.amount) + (if pending then transfer.amount else 0) ≤ transfer.amount = elim [
      | true ↦ λ void. omega arith
      | false ↦ elim [ true ↦ omega arith | false ↦ omega arith ]
    ] in
    cases (is_pending transfer) (is_void transfer)

-- what a transfer adds to the account that it has on a side
adds_here : (side : Side) (id : ℕ) (transfer : Transfer) → account_on side transfer ≡ id
    → posted_by side id (entry.Transfer transfer) + set_aside side id (entry.Transfer transfer) ≤ transfer.amount
adds_here side id transfer here =
    let is = eq-eqb (account_on side transfer) id here in
    let posted : posted_by side id (entry.Transfer transfer) ≡ posted_amount transfer = ap (λ b. if b then posted_amount transfer else 0) is in
    let aside : set_aside side id (entry.Transfer transfer) ≡ (if is_pending transfer then transfer.amount else 0)
    = ap (λ b. if is_pending transfer then (if b then transfer.amount else 0) else 0) is in
    omega (arith, posted, aside, adds_at_most transfer)

-- a transfer adds nothing to other accounts
adds_nothing : (side : Side) (id : ℕ) (transfer : Transfer) → account_on side transfer ≢ id
    → posted_by side id (entry.Transfer transfer) + set_aside side id (entry.Transfer transfer) ≡ 0
adds_nothing side id transfer elsewhere =
    let is_not = ne_eqb (account_on side transfer) id elsewhere in
    let posted : posted_by side id (entry.Transfer transfer) ≡ 0 = ap (λ b. if b then posted_amount transfer else 0) is_not in
    let cases : (pending : Bool) → ◌≡◌ {A = ℕ} (if pending then 0 else 0) 0 = elim [ true ↦ refl | false ↦ refl ] in
    let aside : set_aside side id (entry.Transfer transfer) ≡ 0
    = ap (λ b. if is_pending transfer then (if b then transfer.amount else 0) else 0) is_not ∙ cases (is_pending transfer) in
    omega (arith, posted, aside)

other_accounts : (journal : List Entry) (e : Entry) → account_in e ≡ None → IsOldOrZero journal (journal ++ e ∷ [])
other_accounts journal e none id account stored =
    inl (sym (ap (λ accounts. find (λ a. a.id == id) accounts) (accounts_kept journal e none)) ∙ stored)

new_account : (journal : List Entry) (account : Account) → IsSound journal → IsOldOrZero journal (journal ++ entry.Account account ∷ [])
new_account journal account sound id found stored =
    let cases : (before : Option Account) → account_with_id journal id ≡ before → (account_with_id journal id ≡ Some found) ⊎ ((side : Side) → total_on journal side id ≡ 0)
    = elim [
      | None ↦ λ unstored. inr (λ side. let zero = unstored_is_zero journal side id sound unstored in omega (arith, zero.0, zero.1))
      | Some old ↦ λ is.
          let same : Some old ≡ Some found = sym (account_stays journal (entry.Account account) id old is) ∙ stored in
          inl (is ∙ same)
    ] in
    cases (account_with_id journal id) refl

same_account : (side : Side) (transfer pending : Transfer) → transfer.debit_account_id ≡ pending.debit_account_id → transfer.credit_account_id ≡ pending.credit_account_id
    → account_on side transfer ≡ account_on side pending
same_account Debit transfer pending debit credit = debit
same_account Credit transfer pending debit credit = credit

-- a post or void adds no more than it releases
settling_adds_no_more : (journal : List Entry) (transfer : Transfer) (side : Side) (id : ℕ) → IsNewSettling journal transfer
    → posted_by side id (entry.Transfer transfer) + set_aside side id (entry.Transfer transfer) ≤ released journal side id (entry.Transfer transfer)
settling_adds_no_more journal transfer side id new =
    let named = option_map_or (amount_on side id) (transfer_with_id journal transfer.pending_id) 0 in
    let account = same_account side transfer new.pending new.debit new.credit in
    let off : released journal side id (entry.Transfer transfer) ≡ amount_on side id new.pending
    = ap (λ b. if b then named else 0) new.settling ∙ ap (λ o. option_map_or (amount_on side id) o 0) new.named in
    elim (cases_eq (account_on side transfer) id) [
      | inl here ↦
          let is : amount_on side id new.pending ≡ new.pending.amount
          = ap (λ b. if b then new.pending.amount else 0) (eq-eqb (account_on side new.pending) id (sym account ∙ here)) in
          omega (arith, adds_here side id transfer here, new.amount, off, is)
      | inr elsewhere ↦ omega (arith, adds_nothing side id transfer elsewhere)
    ]

-- what any other transfer adds on a side of an account
record IsAdded (journal after : List Entry) (transfer : Transfer) (side : Side) (id : ℕ) : Type 0 where
  here : account_on side transfer ≡ id → total_on after side id ≤ total_on journal side id + transfer.amount
  elsewhere : account_on side transfer ≢ id → total_on after side id ≡ total_on journal side id
  more_posted : posted_on journal side id ≤ posted_on after side id

moving_adds : (journal : List Entry) (transfer : Transfer) → IsSound journal → CanGrow journal (entry.Transfer transfer) → is_settling transfer ≡ false
    → (side : Side) (id : ℕ) → IsAdded journal (journal ++ entry.Transfer transfer ∷ []) transfer side id
moving_adds journal transfer sound grows moving side id =
    let e = entry.Transfer transfer in
    let off : released journal side id e ≡ 0 = ap (λ b. if b then option_map_or (amount_on side id) (transfer_with_id journal transfer.pending_id) 0 else 0) moving in
    let posted = posted_push journal e side id in
    let pending = pending_push journal e side id sound grows in
    record {
      here = λ is. omega (arith, adds_here side id transfer is);
      elsewhere = λ is_not. omega (arith, adds_nothing side id transfer is_not);
      more_posted = omega arith;
    }

-- any other transfer fits, by what its verdict says of its accounts
moving_limited : (journal after : List Entry) (transfer : Transfer) → IsWithinLimits journal → IsNewMoving journal transfer
    → ((side : Side) (id : ℕ) → IsAdded journal after transfer side id)
    → ((id : ℕ) → account_with_id after id ≡ account_with_id journal id)
    → IsWithinLimits after
moving_limited journal after transfer limited new added accounts = record {
  sums = λ side id.
      let fits : (s : Side) → total_on journal s (account_on s transfer) + transfer.amount ≤ greatest_amount = elim [ Debit ↦ new.debits_fit | Credit ↦ new.credits_fit ] in
      elim (cases_eq (account_on side transfer) id) [
        | inl here ↦ let fit = subst (λ n. total_on journal side n + transfer.amount ≤ greatest_amount) here (fits side) in
            omega (arith, (added side id).here here)
        | inr elsewhere ↦ omega (arith, (added side id).elsewhere elsewhere, limited.sums side id)
      ];
  debits = λ id account stored limit.
      let before = sym (accounts id) ∙ stored in
      let other = (added Credit id).more_posted in
      elim (cases_eq transfer.debit_account_id id) [
        | inl here ↦
            let same = same_Some account new.debit (sym before ∙ ap (account_with_id journal) (sym here) ∙ new.debit_stored) in
            let fit = new.debits_limited (ap limits_debits (sym same) ∙ limit) in
            let fit_here = subst (λ n. total_on journal Debit n + transfer.amount ≤ posted_on journal Credit n) here fit in
            omega (arith, (added Debit id).here here)
        | inr elsewhere ↦ omega (arith, (added Debit id).elsewhere elsewhere, limited.debits id account before limit)
      ];
  credits = λ id account stored limit.
      let before = sym (accounts id) ∙ stored in
      let other = (added Debit id).more_posted in
      elim (cases_eq transfer.credit_account_id id) [
        | inl here ↦
            let same = same_Some account new.credit (sym before ∙ ap (account_with_id journal) (sym here) ∙ new.credit_stored) in
            let fit = new.credits_limited (ap limits_credits (sym same) ∙ limit) in
            let fit_here = subst (λ n. total_on journal Credit n + transfer.amount ≤ posted_on journal Debit n) here fit in
            omega (arith, (added Credit id).here here)
        | inr elsewhere ↦ omega (arith, (added Credit id).elsewhere elsewhere, limited.credits id account before limit)
      ];
}

limited_push : (journal : List Entry) (e : Entry) → IsSound journal → CanGrow journal e → IsWithinLimits journal → IsWithinLimits (journal ++ e ∷ [])
limited_push journal (entry.Account account) sound grows limited =
    releases_limited journal (entry.Account account) sound grows limited (λ side id. omega arith) (new_account journal account sound)
limited_push journal (entry.Transfer transfer) sound grows limited =
    elim (transfer_new journal transfer grows.admitted) [
      | inl new ↦ releases_limited journal (entry.Transfer transfer) sound grows limited (λ side id. settling_adds_no_more journal transfer side id new) (other_accounts journal (entry.Transfer transfer) refl)
      | inr new ↦ moving_limited journal (journal ++ entry.Transfer transfer ∷ []) transfer limited new (moving_adds journal transfer sound grows new.moving)
          (λ id. ap (λ accounts. find (λ (a : Account). a.id == id) accounts) (accounts_kept journal (entry.Transfer transfer) refl))
    ]
limited_push journal (entry.Expiry timestamp pending) sound grows limited =
    releases_limited journal (entry.Expiry timestamp pending) sound grows limited (λ side id. omega arith) (other_accounts journal (entry.Expiry timestamp pending) refl)
limited_push journal (entry.Failed timestamp id) sound grows limited =
    releases_limited journal (entry.Failed timestamp id) sound grows limited (λ side id. omega arith) (other_accounts journal (entry.Failed timestamp id) refl)

nothing_limited : IsWithinLimits []
nothing_limited = record {
  sums = λ side id. omega arith;
  debits = λ id account stored limit. omega arith;
  credits = λ id account stored limit. omega arith;
}

-- every sound journal is within limits
pub sound_limited : (journal : List Entry) → IsSound journal → IsWithinLimits journal
sound_limited journal sound = by_growth IsWithinLimits nothing_limited limited_push journal sound
