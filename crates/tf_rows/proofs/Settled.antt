-- What an entry settles: one pending transfer, or nothing.
use Rattle.std.proofs.Common.{◌≡◌, ℕ, ◌==◌, List, [], ◌∷◌, ◌++◌, find, Some, Bool, true, false, ◌||◌, refl, ap, sym, ◌∙◌, inl, inr, ◌⊎◌}
use Rattle.std.specs.Prelude.{if◌then◌else◌}
use Rattle.std.specs.List.{list_any}
use Rattle.std.specs.Option.{option_map_or}
use Rattle.std.proofs.lemmas.Bool.{both_ways, cases_eq, eq-eqb, eqb-true, or_parts}
use Rattle.std.proofs.Math.Bool.{or-false}
use Rattle.std.proofs.lemmas.Option.{same_Some}
use Rattle.tf_records.specs.declared.account.Account.{Account}
use Rattle.tf_records.specs.declared.transfer.Transfer.{Transfer}
use Rattle.tf_journal.specs.declared.entry.Entry.{Entry}
use Rattle.tf_journal.specs.declared.entry.Entry.TheVariants as entry
use Rattle.tf_journal.specs.declared.side.Side.{Side}
use Rattle.tf_journal.specs.Flags.{is_pending, is_settling}
use Rattle.tf_journal.specs.Journal.{transfer_in, transfers_of}
use Rattle.tf_journal.specs.Laws.{settles}
use Rattle.tf_journal.specs.Lawful.{IsSound}
use Rattle.tf_journal.specs.Lookup.{transfer_with_id}
use Rattle.tf_journal.specs.Status.{expires, is_open, is_open_status, posts, status_of, voids}
use Rattle.tf_journal.specs.Steps.{amount_on, released, set_aside}
use Rattle.tf_journal.proofs.Accepted.{IsNewSettling}
use Rattle.tf_journal.proofs.Lists.{find_passes, list_any_push}
use Rattle.tf_journal.proofs.Settling.{IsNewExpiry, expiry_names, moving_settles_nothing, settles_its_own, settles_no_other, status_by}
use Rattle.tf_journal.proofs.Unique.{sound_unique, timestamps_differ}
use Rattle.tf_manifest.proofs.Members.{Has, has_chosen, has_either, has_left, has_right}
use Rattle.tf_manifest.proofs.OneValue.{has_at, pairs_once, transfer_entry}

-- an entry settles this pending transfer, and no other
pub record Settles (journal : List Entry) (e : Entry) (p : Transfer) : Type 0 where
  pub has : Has (transfers_of journal) p
  pub pending : is_pending p ≡ true
  pub before : is_open journal p ≡ true
  pub does : settles p e ≡ true
  pub only : (q : Transfer) → Has (transfers_of journal) q → is_pending q ≡ true → settles q e ≡ true → q ≡ p
  pub off : (side : Side) (id : ℕ) → released journal side id e ≡ amount_on side id p
  pub none_aside : (side : Side) (id : ℕ) → set_aside side id e ≡ 0
  pub not_pending : (q : Transfer) → e ≡ entry.Transfer q → is_pending q ≡ false

-- an entry settles nothing
pub record SettlesNothing (journal : List Entry) (e : Entry) : Type 0 where
  pub none : (q : Transfer) → settles q e ≡ false
  pub off : (side : Side) (id : ℕ) → released journal side id e ≡ 0

-- what is found is among the elements
pub found_has : {X : Type 0} (p : X → Bool) (xs : List X) (x : X) → find p xs ≡ Some x → Has xs x
found_has p [] x e = cc
found_has p (y ∷ xs) x e = by_test (p y) e (found_has p xs x) where
  by_test : (b : Bool) → (if b then Some y else find p xs) ≡ Some x → (find p xs ≡ Some x → Has xs x) → Has (y ∷ xs) x
  by_test true is rest = inl (same_Some y x is)
  by_test false is rest = inr (rest is)

pub account_settles_nothing : (journal : List Entry) (account : Account) → SettlesNothing journal (entry.Account account)
account_settles_nothing journal account = record { none = λ q. refl; off = λ side id. refl }

pub failed_settles_nothing : (journal : List Entry) (timestamp id : ℕ) → SettlesNothing journal (entry.Failed timestamp id)
failed_settles_nothing journal timestamp id = record { none = λ q. refl; off = λ side other. refl }

pub moving_nothing : (journal : List Entry) (transfer : Transfer) → is_settling transfer ≡ false → SettlesNothing journal (entry.Transfer transfer)
moving_nothing journal transfer moving = record {
  none = λ q. moving_settles_nothing transfer q moving;
  off = λ side id. ap (λ b. if b then option_map_or (amount_on side id) (transfer_with_id journal transfer.pending_id) 0 else 0) moving;
}

pub settling_one : (journal : List Entry) (transfer : Transfer) → IsSound journal → (new : IsNewSettling journal transfer) → Settles journal (entry.Transfer transfer) new.pending
settling_one journal transfer sound new =
    let p = new.pending in
    let own = eqb-true p.id transfer.pending_id (find_passes (λ t. t.id == transfer.pending_id) (transfers_of journal) p new.named) in
    let has = found_has (λ (t : Transfer). t.id == transfer.pending_id) (transfers_of journal) p new.named in
    record {
      has = has;
      pending = new.pending_is;
      before = new.pending_open;
      does = settles_its_own transfer p new.settling own;
      only = λ q has_q pending settled. elim (cases_eq q.id transfer.pending_id) [
        | inl same ↦ pairs_once (λ (t : Transfer). t.id) (transfers_of journal) (sound_unique journal sound).transfers q p has_q has (same ∙ sym own)
        | inr other ↦ absurd (both_ways (settles q (entry.Transfer transfer)) (settles_no_other transfer q other) settled)
      ];
      off = λ side id.
          ap (λ b. if b then option_map_or (amount_on side id) (transfer_with_id journal transfer.pending_id) 0 else 0) new.settling
          ∙ ap (λ o. option_map_or (amount_on side id) o 0) new.named;
      none_aside = λ side id. ap (λ b. if b then amount_on side id transfer else 0) new.not_pending;
      not_pending = λ q same. ap is_pending (sym (same_Some transfer q (ap transfer_in same))) ∙ new.not_pending;
    }

-- the pending transfer that an admitted expiry names
pub expiring_one : (journal : List Entry) (timestamp pending : ℕ) → IsSound journal → (new : IsNewExpiry journal timestamp pending) → Settles journal (entry.Expiry timestamp pending) new.transfer
expiring_one journal timestamp pending sound new =
    let p = new.transfer in
    let has = has_at (transfers_of journal) new.place p new.within new.there in
    record {
      has = has;
      pending = new.pending_is;
      before = new.pending_open;
      does = eq-eqb pending p.timestamp (sym new.at);
      only = λ q has_q is settled. pairs_once (λ (t : Transfer). t.timestamp) (transfers_of journal) (timestamps_differ journal sound) q p has_q has
          (sym (eqb-true pending q.timestamp settled) ∙ sym new.at);
      off = λ side id. ap (λ o. option_map_or (amount_on side id) o 0) (expiry_names journal timestamp pending sound new);
      none_aside = λ side id. refl;
      not_pending = λ q same. cc;
    }

-- the transfers after one more entry
pub transfer_before : (journal : List Entry) (e : Entry) (t : Transfer) → Has (transfers_of journal) t → Has (transfers_of (journal ++ e ∷ [])) t
transfer_before journal e t h =
    has_chosen transfer_in (journal ++ e ∷ []) (entry.Transfer t) t (has_left journal (e ∷ []) (entry.Transfer t) (transfer_entry journal t h)) refl

pub transfer_added : (journal : List Entry) (t : Transfer) → Has (transfers_of (journal ++ entry.Transfer t ∷ [])) t
transfer_added journal t =
    has_chosen transfer_in (journal ++ entry.Transfer t ∷ []) (entry.Transfer t) t (has_right journal (entry.Transfer t ∷ []) (entry.Transfer t) (inl refl)) refl

pub transfer_after : (journal : List Entry) (e : Entry) (t : Transfer) → Has (transfers_of (journal ++ e ∷ [])) t → Has (transfers_of journal) t ⊎ (e ≡ entry.Transfer t)
transfer_after journal e t h = elim (has_either journal (e ∷ []) (entry.Transfer t) (transfer_entry (journal ++ e ∷ []) t h)) [
  | inl old ↦ inl (has_chosen transfer_in journal (entry.Transfer t) t old refl)
  | inr (inl same) ↦ inr same
  | inr (inr none) ↦ absurd none
]

open_parts : (posted voided expired : Bool) → is_open_status (status_by posted voided expired) ≡ true → (posted ≡ false) × (voided ≡ false) × (expired ≡ false)
open_parts true voided expired is = cc
open_parts false true expired is = cc
open_parts false false true is = cc
open_parts false false false is = (refl, refl, refl)

-- the status after one more entry, by what it was told before
status_pushed : (journal : List Entry) (e : Entry) (p : Transfer)
    → status_of (journal ++ e ∷ []) p ≡ status_by (list_any (posts p) journal || posts p e) (list_any (voids p) journal || voids p e) (list_any (expires p) journal || expires p e)
status_pushed journal e p = rw (list_any_push (posts p) journal e, list_any_push (voids p) journal e, list_any_push (expires p) journal e) refl

-- an entry leaves the status of what it doesn't settle
pub status_stays : (journal : List Entry) (e : Entry) (p : Transfer) → settles p e ≡ false → status_of (journal ++ e ∷ []) p ≡ status_of journal p
status_stays journal e p not =
    let both = or_parts (posts p e || voids p e) (expires p e) not in
    let either = or_parts (posts p e) (voids p e) both.0 in
    status_pushed journal e p
    ∙ rw (either.0, either.1, both.1, or-false (list_any (posts p) journal), or-false (list_any (voids p) journal), or-false (list_any (expires p) journal)) refl

-- and gives an open one its own
pub status_told : (journal : List Entry) (e : Entry) (p : Transfer) → is_open journal p ≡ true → status_of (journal ++ e ∷ []) p ≡ status_by (posts p e) (voids p e) (expires p e)
status_told journal e p before =
    let none = open_parts (list_any (posts p) journal) (list_any (voids p) journal) (list_any (expires p) journal) before in
    status_pushed journal e p ∙ rw (none.0, none.1, none.2) refl

pub open_stays : (journal : List Entry) (e : Entry) (p : Transfer) → settles p e ≡ false → is_open (journal ++ e ∷ []) p ≡ is_open journal p
open_stays journal e p not = ap is_open_status (status_stays journal e p not)
