-- How one more entry changes the balances of an account.
use Rattle.std.proofs.Common.{◌≡◌, ℕ, ◌+◌, ◌<◌, ◌≤◌, length, take, get_or, ◌||◌, Bool, true, false, List, [], ◌∷◌, ◌++◌, refl, ap, sym, ◌∙◌, inl, inr, arith}
use Rattle.std.specs.Prelude.{◌==◌}
use Rattle.std.proofs.lemmas.Bool.{false≢true}
use Rattle.std.proofs.lemmas.List.{take_more}
use Rattle.std.proofs.Math.Bridge.{le_prop}
use Rattle.std.proofs.Math.Logic.{∥∥₁_elim, ∥∥₁_map}
use Rattle.std.proofs.Math.Nat.{ℕ_set}
use Rattle.tf_records.specs.declared.sums.Sums.{Sums}
use Rattle.tf_records.specs.declared.transfer.Transfer.{Transfer}
use Rattle.tf_journal.specs.declared.entry.Entry.{Entry}
use Rattle.tf_journal.specs.declared.entry.Entry.TheVariants as entry
use Rattle.tf_journal.specs.declared.side.Side.{Side}
use Rattle.tf_journal.specs.declared.side.Side.TheVariants.{Debit, Credit}
use Rattle.tf_journal.specs.Balances.{balances_of, greatest_amount, pending_on, posted_by, posted_on}
use Rattle.tf_journal.specs.Flags.{is_settling}
use Rattle.tf_journal.specs.Lawful.{IsAdmittedTransfer, IsSound}
use Rattle.tf_journal.specs.Ledger.{CanGrow}
use Rattle.tf_journal.specs.Steps.{amount_on, released, set_aside}
use Rattle.tf_journal.proofs.Accepted.{transfer_new}
use Rattle.tf_journal.proofs.Limits.{sound_limited}
use Rattle.tf_journal.proofs.Sound.{sound_grows, sound_push, sound_take}
use Rattle.tf_journal.proofs.Steps.{pending_push, posted_push}

-- what one more entry does to a side of an account
pub record IsStep (journal : List Entry) (e : Entry) (side : Side) (id : ℕ) : Type 0 where
  pub pending : pending_on (journal ++ e ∷ []) side id + released journal side id e ≡ pending_on journal side id + set_aside side id e
  pub posted : posted_on (journal ++ e ∷ []) side id ≡ posted_on journal side id + posted_by side id e
  pub limit : pending_on (journal ++ e ∷ []) side id + posted_on (journal ++ e ∷ []) side id ≤ greatest_amount

pub step_of : (journal : List Entry) (e : Entry) (side : Side) (id : ℕ) → ∥ IsSound journal ∥₁ → ∥ CanGrow journal e ∥₁ → IsStep journal e side id
step_of journal e side id sound grows = record {
  pending = ∥∥₁_elim sound (ℕ_set _ _) (λ h. ∥∥₁_elim grows (ℕ_set _ _) (λ k. pending_push journal e side id h k));
  posted = posted_push journal e side id;
  limit = ∥∥₁_elim sound le_prop (λ h. ∥∥₁_elim grows le_prop (λ k. (sound_limited (journal ++ e ∷ []) (sound_push journal e h k)).sums side id));
}

neither : (a b : Bool) → (a || b) ≡ false → (a ≡ false) × (b ≡ false)
neither true b h = absurd (false≢true (sym h))
neither false b h = (refl, h)

nothing_on : (side : Side) (id : ℕ) (transfer pending : Transfer) → transfer.debit_account_id ≡ pending.debit_account_id
    → transfer.credit_account_id ≡ pending.credit_account_id → (transfer.debit_account_id == id || transfer.credit_account_id == id) ≡ false
    → amount_on side id pending ≡ 0
nothing_on Debit id transfer pending debit credit none =
    let is = neither (transfer.debit_account_id == id) (transfer.credit_account_id == id) none in
    rw (← debit, is.0) refl
nothing_on Credit id transfer pending debit credit none =
    let is = neither (transfer.debit_account_id == id) (transfer.credit_account_id == id) none in
    rw (← credit, is.1) refl

admitted_keeps : (journal : List Entry) (transfer : Transfer) (id : ℕ) (side : Side) → IsAdmittedTransfer journal transfer
    → (transfer.debit_account_id == id || transfer.credit_account_id == id) ≡ false → released journal side id (entry.Transfer transfer) ≡ 0
admitted_keeps journal transfer id side admitted none =
    elim (transfer_new journal transfer admitted) [
      | inl new ↦ rw (new.settling, new.named) (nothing_on side id transfer new.pending new.debit new.credit none)
      | inr new ↦ rw new.moving refl
    ]

-- a post or void takes nothing off other accounts than its own
pub other_keeps : (journal : List Entry) (transfer : Transfer) (id : ℕ) (side : Side) → ∥ CanGrow journal (entry.Transfer transfer) ∥₁
    → (transfer.debit_account_id == id || transfer.credit_account_id == id) ≡ false → released journal side id (entry.Transfer transfer) ≡ 0
other_keeps journal transfer id side grows none =
    ∥∥₁_elim grows (ℕ_set _ _) (λ k. admitted_keeps journal transfer id side k.admitted none)

-- a transfer that neither posts nor voids takes nothing off
pub moving_keeps : (journal : List Entry) (transfer : Transfer) (id : ℕ) (side : Side) → is_settling transfer ≡ false → released journal side id (entry.Transfer transfer) ≡ 0
moving_keeps journal transfer id side moving = rw moving refl

-- a pending sum after one more entry
pub pending_is : (journal : List Entry) (e : Entry) (side : Side) (id sum more off after : ℕ) → IsStep journal e side id → sum ≡ pending_on journal side id
    → more ≡ set_aside side id e → off ≡ released journal side id e → after + off ≡ sum + more → after ≡ pending_on (journal ++ e ∷ []) side id
pending_is journal e side id sum more off after step before is_more is_off is = omega (arith, step.pending)

-- a posted sum after one more entry
pub posted_is : (journal : List Entry) (e : Entry) (side : Side) (id sum more : ℕ) → IsStep journal e side id → sum ≡ posted_on journal side id
    → more ≡ posted_by side id e → sum + more ≡ posted_on (journal ++ e ∷ []) side id
posted_is journal e side id sum more step before is_more = omega (arith, step.posted)

abbrev sums_of : (debits_pending debits_posted credits_pending credits_posted : ℕ) → Sums
sums_of a b c d = record { debits_pending = a; debits_posted = b; credits_pending = c; credits_posted = d }

pub all_four : (a b c d x y z w : ℕ) → a ≡ x → b ≡ y → c ≡ z → d ≡ w → sums_of a b c d ≡ sums_of x y z w
all_four a b c d x y z w p q r s = cc

-- the running sums after one more entry of a list
pub balances_more : (journal : List Entry) (i id : ℕ) (d : Entry) (sums : Sums) → i < length journal
    → sums ≡ balances_of (take i journal ++ get_or journal i d ∷ []) id → sums ≡ balances_of (take (i + 1) journal) id
balances_more journal i id d sums within is = is ∙ ap (λ j. balances_of j id) (sym (take_more journal i d within))

-- a beginning of a sound journal is sound, and grows by the next entry
pub sound_part : (journal : List Entry) (i : ℕ) → ∥ IsSound journal ∥₁ → ∥ IsSound (take i journal) ∥₁
sound_part journal i sound = ∥∥₁_map sound (sound_take i journal)

pub grows_on : (journal : List Entry) (i : ℕ) (d : Entry) → ∥ IsSound journal ∥₁ → i < length journal → ∥ CanGrow (take i journal) (get_or journal i d) ∥₁
grows_on journal i d sound within = ∥∥₁_map sound (λ h. sound_grows i journal d h within)
