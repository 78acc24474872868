use Rattle.std.proofs.Common.{◌≡◌, ◌∙◌, ℕ, List, Option, Some, None, Bool, true, false, refl, sym, ap, inl, inr}
use Rattle.std.specs.Option.{option_map_or}
use Rattle.std.proofs.lemmas.Option.{none-some}
use Rattle.tf_records.specs.declared.transfer.Transfer.{Transfer}
use Rattle.tf_journal.specs.declared.entry.Entry.{Entry}
use Rattle.tf_journal.specs.declared.id_use.IdUse.{IdUse}
use Rattle.tf_journal.specs.declared.id_use.IdUse.TheVariants.{Failed, Stored}
use Rattle.tf_journal.specs.Journal.{is_failed}
use Rattle.tf_journal.specs.Laws.{HasUniqueIds}
use Rattle.tf_journal.specs.Lookup.{id_use_of, transfer_with_id, unstored_use}
use Rattle.tf_forest.proofs.forest.Forest.failed.Goals as goal

abbrev says_failed : IdUse → Bool
says_failed Failed = true
says_failed _ = false

-- no id that failed is stored, so its use tells
use_told : (stored : Option Transfer) (failed : Bool) → (failed ≡ true → stored ≡ None) → says_failed (option_map_or Stored stored (unstored_use failed)) ≡ failed
use_told None true h = refl
use_told None false h = refl
use_told (Some t) true h = absurd (none-some t (sym (h refl)))
use_told (Some t) false h = refl

told : (journal : List Entry) (id : ℕ) → HasUniqueIds journal → says_failed (id_use_of journal id) ≡ is_failed journal id
told journal id unique = use_told (transfer_with_id journal id) (is_failed journal id) (unique.stored_or_failed id)

pub returns-in-Failed : goal.returns-in-Failed
returns-in-Failed g c =
    let journal = c.args.self.now.journal in
    ap says_failed (sym c.in-Failed.is ∙ c.id_use.ensures) ∙ told journal c.args.id (c.ids_are_unique.ensures journal c.facts.ensures.sound)

pub returns-in-Free : goal.returns-in-Free
returns-in-Free g c =
    let journal = c.args.self.now.journal in
    let other : says_failed c.id_use.result ≡ false = elim c.in-Free.is [
      | inl free ↦ ap says_failed free
      | inr stored ↦ ap says_failed stored.1
    ] in
    sym other ∙ ap says_failed c.id_use.ensures ∙ told journal c.args.id (c.ids_are_unique.ensures journal c.facts.ensures.sound)
