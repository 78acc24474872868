-- Keys of expiry that have no value: what an entry and an undo leave of that.
use Rattle.std.proofs.Common.{◌≡◌, ℕ, ◌+◌, ◌≤◌, List, [], ◌∷◌, ◌++◌, length, take, Option, Some, None, true, false, refl, sym, ◌∙◌, ap, subst, inl, inr, arith}
use Rattle.std.specs.Prelude.{◌==◌}
use Rattle.std.specs.Option.{option_map_or, unwrap_or}
use Rattle.std.proofs.lemmas.Bool.{cases_lt}
use Rattle.std.proofs.lemmas.List.{length-append, length-take, take-append-le, take-take, take_all}
use Rattle.std.proofs.lemmas.Option.{none-some}
use Rattle.tf_records.specs.declared.transfer.Transfer.{Transfer}
use Rattle.tf_journal.specs.declared.entry.Entry.{Entry}
use Rattle.tf_journal.specs.Flags.{is_pending}
use Rattle.tf_journal.specs.Lawful.{IsSound}
use Rattle.tf_journal.specs.Ledger.{CanGrow}
use Rattle.tf_table.specs.declared.key.Key.{Key}
use Rattle.tf_table.specs.Content.{entry_at}
use Rattle.tf_manifest.specs.declared.row.Row.{Row}
use Rattle.tf_manifest.specs.declared.row.Row.TheVariants as row
use Rattle.tf_manifest.specs.declared.value.Value.{Value}
use Rattle.tf_manifest.specs.declared.value.Value.TheVariants as value
use Rattle.tf_manifest.specs.Shows.{value_of}
use Rattle.tf_manifest.proofs.Members.{Has, chosen}
use Rattle.tf_manifest.proofs.Pairs.{value_from}
use Rattle.tf_rows.specs.Edits.{Edit, edited, edits, expiry_edit, expiry_edits, expiry_key, gone, put}

-- what is known of the rows of a growing journal
abbrev pub RowsChangeByEdits : Type 0
RowsChangeByEdits = (journal : List Entry) (e : Entry) → IsSound journal → CanGrow journal e → (r : Row) (key : Key) → value_of (journal ++ e ∷ []) r key ≡ edited (edits journal e r) (value_of journal r) key

module _ (Outside : Key → Type 0) where
  -- none of these keys has a value
  abbrev pub HaveNone : List Entry → Type 0
  HaveNone journal = (key : Key) → Outside key → value_of journal row.Expiry key ≡ None

  -- edits put none of these keys
  abbrev pub PutNone : List Edit → Type 0
  PutNone changes = (key : Key) (v : Value) → Has changes (key, Some v) → Outside key → ⊥

  pub nothing_put : PutNone []
  nothing_put = λ key v has. absurd has

  gone_put : (pending : Transfer) → PutNone (expiry_edit gone pending)
  gone_put pending = chosen PutNone (pending.timeout == 0) [] (gone (expiry_key pending) ∷ [])
      (λ _. nothing_put)
      (λ _ key v has. elim has [
        | inl same ↦ absurd (none-some v (ap (λ (edit : Edit). edit.1) same))
        | inr none ↦ absurd none
      ])

  own_put : (pending : Transfer) → ((pending.timeout == 0) ≡ false → Outside (expiry_key pending) → ⊥) → PutNone (expiry_edit (λ key. put key value.Unit) pending)
  own_put pending inside = chosen PutNone (pending.timeout == 0) [] (put (expiry_key pending) value.Unit ∷ [])
      (λ _. nothing_put)
      (λ timed key v has. elim has [
        | inl same ↦ subst (λ (edit : Edit). Outside edit.0 → ⊥) same (inside timed)
        | inr none ↦ absurd none
      ])

  pub transfer_put : (transfer : Transfer) (settled : Option Transfer) → (is_pending transfer ≡ true → (transfer.timeout == 0) ≡ false → Outside (expiry_key transfer) → ⊥)
      → PutNone (expiry_edits transfer settled)
  transfer_put transfer (Some pending) inside = gone_put pending
  transfer_put transfer None inside = chosen PutNone (is_pending transfer) (expiry_edit (λ key. put key value.Unit) transfer) []
      (λ pending. own_put transfer (inside pending))
      (λ _. nothing_put)

  pub expired_put : (settled : Option Transfer) → PutNone (option_map_or (expiry_edit gone) settled [])
  expired_put None = nothing_put
  expired_put (Some pending) = gone_put pending

  -- of each journal that an undo can leave
  abbrev pub HaveNoneFrom : ℕ → List Entry → Type 0
  HaveNoneFrom kept journal = (n : ℕ) → kept ≤ n → HaveNone (take n journal)

  -- so of the journal itself
  pub none_now : (kept : ℕ) (journal : List Entry) → HaveNoneFrom kept journal → HaveNone journal
  none_now kept journal none = subst HaveNone (take_all (kept + length journal) journal (omega arith)) (none (kept + length journal) (omega arith))

  -- where all entries stand for good an undo leaves them all
  pub none_for_good : (journal : List Entry) → HaveNone journal → HaveNoneFrom (length journal) journal
  none_for_good journal none = λ n more. subst HaveNone (sym (take_all n journal more)) none

  -- after an undo
  pub none_back : (kept n : ℕ) (journal : List Entry) → kept ≤ n → HaveNoneFrom kept journal → HaveNoneFrom kept (take n journal)
  none_back kept n journal more none = λ m enough. elim (cases_lt n m) [
    | inl later ↦ subst HaveNone (sym (take_all m (take n journal) (omega (arith, length-take n journal)))) (none n more)
    | inr within ↦ subst HaveNone (sym (take-take m n journal within)) (none m enough)
  ]

  module _ (change : RowsChangeByEdits) (journal : List Entry) (e : Entry) (sound : IsSound journal) (grows : CanGrow journal e) (inside : PutNone (edits journal e row.Expiry)) where
    -- keys stay without a value after edits that put none of them
    pub none_grows : HaveNone journal → HaveNone (journal ++ e ∷ [])
    none_grows is = λ key out. change journal e sound grows row.Expiry key ∙ by_edit key out (entry_at key (edits journal e row.Expiry)) refl where
      by_edit : (key : Key) → Outside key → (o : Option (Option Value)) → entry_at key (edits journal e row.Expiry) ≡ o → unwrap_or o (value_of journal row.Expiry key) ≡ None
      by_edit key out None own = is key out
      by_edit key out (Some None) own = refl
      by_edit key out (Some (Some v)) own = absurd (inside key v (value_from (edits journal e row.Expiry) key (Some v) own) out)

    pub none_grows_from : (kept : ℕ) → HaveNoneFrom kept journal → HaveNoneFrom kept (journal ++ e ∷ [])
    none_grows_from kept is n more = elim (cases_lt (length journal) n) [
      | inl all ↦
          let long = length-append journal (e ∷ []) in
          subst HaveNone (sym (take_all n (journal ++ e ∷ []) (omega arith))) (none_grows (none_now kept journal is))
      | inr part ↦ subst HaveNone (sym (take-append-le n journal (e ∷ []) part)) (is n more)
    ]
