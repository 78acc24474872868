-- An id that no entry of a journal uses is free in it.
use Rattle.std.proofs.Common.{◌≡◌, ◌∙◌, ℕ, List, [], ◌∷◌, Option, Some, None, false, cond, ◌||◌, refl, ap, subst}
use Rattle.std.specs.Prelude.{◌==◌}
use Rattle.std.specs.Option.{option_map_or}
use Rattle.std.proofs.lemmas.Bool.{ne_eqb}
use Rattle.std.proofs.lemmas.List.Elements.{All-head, All-tail}
use Rattle.tf_records.specs.declared.transfer.Transfer.{Transfer}
use Rattle.tf_journal.specs.declared.entry.Entry.{Entry}
use Rattle.tf_journal.specs.declared.entry.Entry.TheVariants as entry
use Rattle.tf_journal.specs.declared.id_use.IdUse.TheVariants.{Free, Stored}
use Rattle.tf_journal.specs.Journal.{is_failed}
use Rattle.tf_journal.specs.Lookup.{id_use_of, transfer_with_id, unstored_use}
use Rattle.tf_table.specs.GrowingFilter.{Knows}
use Rattle.tf_forest.specs.UsedIds.{AreKnown, IsKnown}

module _ (parts : List (List ℕ)) (id : ℕ) (unknown : Knows parts id → ⊥) where
  other : (used : ℕ) → Knows parts used → (used == id) ≡ false
  other used known = ne_eqb used id (λ same. unknown (subst (Knows parts) same known))

  none_stored : (journal : List Entry) → AreKnown parts journal → transfer_with_id journal id ≡ None
  none_stored [] known = refl
  none_stored (entry.Account account ∷ journal) known = none_stored journal (All-tail (IsKnown parts) (entry.Account account) journal known)
  none_stored (entry.Transfer transfer ∷ journal) known =
      ap (λ b. cond b (Some transfer) (transfer_with_id journal id)) (other transfer.id (All-head (IsKnown parts) (entry.Transfer transfer) journal known))
      ∙ none_stored journal (All-tail (IsKnown parts) (entry.Transfer transfer) journal known)
  none_stored (entry.Expiry timestamp pending ∷ journal) known = none_stored journal (All-tail (IsKnown parts) (entry.Expiry timestamp pending) journal known)
  none_stored (entry.Failed timestamp failed ∷ journal) known = none_stored journal (All-tail (IsKnown parts) (entry.Failed timestamp failed) journal known)

  none_failed : (journal : List Entry) → AreKnown parts journal → is_failed journal id ≡ false
  none_failed [] known = refl
  none_failed (entry.Account account ∷ journal) known = none_failed journal (All-tail (IsKnown parts) (entry.Account account) journal known)
  none_failed (entry.Transfer transfer ∷ journal) known = none_failed journal (All-tail (IsKnown parts) (entry.Transfer transfer) journal known)
  none_failed (entry.Expiry timestamp pending ∷ journal) known = none_failed journal (All-tail (IsKnown parts) (entry.Expiry timestamp pending) journal known)
  none_failed (entry.Failed timestamp failed ∷ journal) known =
      ap (λ b. b || is_failed journal id) (other failed (All-head (IsKnown parts) (entry.Failed timestamp failed) journal known))
      ∙ none_failed journal (All-tail (IsKnown parts) (entry.Failed timestamp failed) journal known)

  pub unknown_free : (journal : List Entry) → AreKnown parts journal → id_use_of journal id ≡ Free
  unknown_free journal known =
      ap (λ (stored : Option Transfer). option_map_or Stored stored (unstored_use (is_failed journal id))) (none_stored journal known)
      ∙ ap unstored_use (none_failed journal known)
