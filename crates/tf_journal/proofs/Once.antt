-- A pending transfer is settled once.
use Rattle.std.proofs.Common.{◌≡◌, ℕ, ◌<◌, ◌≤◌, Bool, true, false, ◌||◌, cond, List, [], ◌∷◌, ◌++◌, length, get_or, refl, ap, sym, ◌∙◌, subst, arith, inl, inr}
use Rattle.std.specs.Prelude.{◌==◌}
use Rattle.std.specs.List.{All, count_by, list_any}
use Rattle.std.proofs.lemmas.Bool.{and_from, both_ways, cases_Bool, cases_eq, eqb-true, eq-eqb, or_from}
use Rattle.std.proofs.lemmas.List.{get_or_default}
use Rattle.std.proofs.lemmas.List.Elements.{All-nil, All-push}
use Rattle.std.proofs.lemmas.List.Sums.{sum_by_push}
use Rattle.std.proofs.lemmas.Option.{same_Some}
use Rattle.tf_records.specs.declared.transfer.Transfer.{Transfer}
use Rattle.tf_journal.specs.declared.entry.Entry.{Entry}
use Rattle.tf_journal.specs.declared.entry.Entry.TheVariants as entry
use Rattle.tf_journal.specs.Flags.{is_pending}
use Rattle.tf_journal.specs.Journal.{transfers_of}
use Rattle.tf_journal.specs.Laws.{settles, SettlesOnce}
use Rattle.tf_journal.specs.Lawful.{IsAdmitted, IsSound}
use Rattle.tf_journal.specs.Ledger.{CanGrow}
use Rattle.tf_journal.specs.Status.{expires, is_open, is_open_status, posts, voids}
use Rattle.tf_journal.proofs.Accepted.{transfer_new}
use Rattle.tf_journal.proofs.Lists.{find_only, none_passes, sum_by_nothing}
use Rattle.tf_journal.proofs.Settling.{expiry_names, expiry_new, is_pending_at, moving_settles_nothing, pending_at_is_rare, settles_no_other, status_by}
use Rattle.tf_journal.proofs.Sound.{by_growth}
use Rattle.tf_journal.proofs.Steps.{has_id, has_id_is_rare, new_pending_open}
use Rattle.tf_journal.proofs.Unique.{transfers_kept, transfers_push}

open_parts : (posted voided expired : Bool) → is_open_status (status_by posted voided expired) ≡ true → (posted ≡ false) × (voided ≡ false) × (expired ≡ false)
open_parts true voided expired is = cc
open_parts false true expired is = cc
open_parts false false true is = cc
open_parts false false false is = (refl, refl, refl)

-- nothing settled a pending transfer that is open
pub open_is_unsettled : (journal : List Entry) (pending : Transfer) → is_open journal pending ≡ true → count_by (settles pending) journal ≡ 0
open_is_unsettled journal pending is =
    let none = open_parts (list_any (posts pending) journal) (list_any (voids pending) journal) (list_any (expires pending) journal) is in
    let posted = none_passes (posts pending) journal none.0 in
    let voided = none_passes (voids pending) journal none.1 in
    let expired = none_passes (expires pending) journal none.2 in
    sum_by_nothing (λ e. cond (settles pending e) 1 0) journal
    (λ k d within. let e = get_or journal k d in
    ap (λ b. cond b 1 0) (or_from (posts pending e || voids pending e) (expires pending e) (or_from (posts pending e) (voids pending e) (posted k d within) (voided k d within)) (expired k d within)))

-- an admitted entry settles an open pending transfer alone
pub settled_was_open : (journal : List Entry) (e : Entry) (pending : Transfer) (k : ℕ) → IsSound journal → IsAdmitted journal e
    → k < length (transfers_of journal) → get_or (transfers_of journal) k pending ≡ pending → is_pending pending ≡ true → settles pending e ≡ true → is_open journal pending ≡ true
settled_was_open journal (entry.Account account) pending k sound admitted within at is settled = cc
settled_was_open journal (entry.Transfer transfer) pending k sound admitted within at is settled =
    elim (transfer_new journal transfer admitted) [
      | inl new ↦ elim (cases_eq pending.id transfer.pending_id) [
        | inl own ↦
            let found = find_only (has_id transfer.pending_id) (transfers_of journal) pending k (has_id_is_rare journal transfer.pending_id sound) within at (eq-eqb pending.id transfer.pending_id own) in
            subst (λ t. is_open journal t ≡ true) (same_Some new.pending pending (sym new.named ∙ found)) new.pending_open
        | inr other ↦ absurd (both_ways (settles pending (entry.Transfer transfer)) (settles_no_other transfer pending other) settled)
      ]
      | inr new ↦ absurd (both_ways (settles pending (entry.Transfer transfer)) (moving_settles_nothing transfer pending new.moving) settled)
    ]
settled_was_open journal (entry.Expiry timestamp expired) pending k sound admitted within at is settled =
    let new = expiry_new journal timestamp expired admitted in
    let same : pending.timestamp ≡ expired = sym (eqb-true expired pending.timestamp settled) in
    let found = find_only (is_pending_at expired) (transfers_of journal) pending k (pending_at_is_rare journal expired sound) within at
    (and_from (is_pending pending) (pending.timestamp == expired) is (eq-eqb pending.timestamp expired same)) in
    subst (λ t. is_open journal t ≡ true) (same_Some new.transfer pending (sym (expiry_names journal timestamp expired sound new) ∙ found)) new.pending_open
settled_was_open journal (entry.Failed timestamp id) pending k sound admitted within at is settled = cc

-- a pending transfer is settled at most once
abbrev IsSettledOnce : List Entry → Transfer → Type 0
IsSettledOnce journal transfer = is_pending transfer ≡ true → count_by (settles transfer) journal ≤ 1

old_settles_once : (journal : List Entry) (e : Entry) → IsSound journal → IsAdmitted journal e → SettlesOnce journal → All (IsSettledOnce (journal ++ e ∷ [])) (transfers_of journal)
old_settles_once journal e sound admitted once k d within is =
    let pending = get_or (transfers_of journal) k d in
    let count = sum_by_push (λ x. cond (settles pending x) 1 0) journal e in
    elim (cases_Bool (settles pending e)) [
      | inl settled ↦
          let was_open = settled_was_open journal e pending k sound admitted within (get_or_default (transfers_of journal) k pending d within) is settled in
          let one : ◌≡◌ {A = ℕ} (cond (settles pending e) 1 0) 1 = ap (λ b. cond b 1 0) settled in
          omega (arith, count, open_is_unsettled journal pending was_open, one)
      | inr other ↦
          let none : ◌≡◌ {A = ℕ} (cond (settles pending e) 1 0) 0 = ap (λ b. cond b 1 0) other in
          omega (arith, count, once k d within is, none)
    ]

settles_once_push : (journal : List Entry) (e : Entry) → IsSound journal → CanGrow journal e → SettlesOnce journal → SettlesOnce (journal ++ e ∷ [])
settles_once_push journal (entry.Account account) sound grows once =
    let e = entry.Account account in
    subst (All (IsSettledOnce (journal ++ e ∷ []))) (sym (transfers_kept journal e refl)) (old_settles_once journal e sound grows.admitted once)
settles_once_push journal (entry.Transfer transfer) sound grows once =
    let e = entry.Transfer transfer in
    let after = journal ++ e ∷ [] in
    subst (All (IsSettledOnce after)) (sym (transfers_push journal transfer))
    (All-push (IsSettledOnce after) (transfers_of journal) transfer (old_settles_once journal e sound grows.admitted once)
    (λ is. let none = open_is_unsettled after transfer (new_pending_open journal transfer sound grows is) in omega arith))
settles_once_push journal (entry.Expiry timestamp pending) sound grows once =
    let e = entry.Expiry timestamp pending in
    subst (All (IsSettledOnce (journal ++ e ∷ []))) (sym (transfers_kept journal e refl)) (old_settles_once journal e sound grows.admitted once)
settles_once_push journal (entry.Failed timestamp id) sound grows once =
    let e = entry.Failed timestamp id in
    subst (All (IsSettledOnce (journal ++ e ∷ []))) (sym (transfers_kept journal e refl)) (old_settles_once journal e sound grows.admitted once)

-- in a sound journal a pending transfer is settled at most once
pub sound_settles_once : (journal : List Entry) → IsSound journal → SettlesOnce journal
sound_settles_once journal sound = by_growth SettlesOnce (All-nil (IsSettledOnce [])) settles_once_push journal sound
