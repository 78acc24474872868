-- Rows that show a journal show it with its next entry after the changes of the entry.
use Rattle.std.proofs.Common.{◌≡◌, ◌≢◌, List, [], ◌∷◌, map, Option, Some, None, Bool, true, false, cond, refl, sym, ◌∙◌, ap, subst, inl, inr}
use Rattle.std.specs.Prelude.{◌==◌}
use Rattle.std.specs.List.{All, flat_map}
use Rattle.std.specs.Option.{option_flatten, unwrap_or}
use Rattle.std.proofs.lemmas.Bool.{both_ways, eq-eqb, eqb-true}
use Rattle.tf_table.specs.declared.key.Key.{Key}
use Rattle.tf_table.specs.Content.{entry_at, entry_of, first_some}
use Rattle.tf_manifest.specs.declared.row.Row.{Row}
use Rattle.tf_manifest.specs.declared.row.Row.TheVariants as row
use Rattle.tf_manifest.specs.declared.value.Value.{Value}
use Rattle.tf_manifest.specs.RowNames.{rows_in_order}
use Rattle.tf_manifest.specs.Shows.{Content}
use Rattle.tf_manifest.proofs.Entries.{by_key, with_row-here, with_row-there}
use Rattle.tf_manifest.proofs.Members.{Has, all_has, has_either, has_left, has_made, has_map, has_right}
use Rattle.tf_manifest.proofs.Pairs.{value_from}
use Rattle.tf_rows.specs.declared.change.Change.{Change}
use Rattle.tf_rows.specs.Changes.{all_changed, changed}
use Rattle.tf_rows.specs.Edits.{Edit, edited}
use Rattle.tf_rows.specs.Next.{change_of, content_in}
use Rattle.tf_rows.specs.Parts.{Part, Parts, place_of, value_of_part, with_entry}
use Rattle.tf_rows.proofs.Stepping.{place_exact}

value_put : (part : Part) (key : Key) (entry : Option Value) → value_of_part (with_entry key entry part) key ≡ entry
value_put part key entry = ap (λ (x : Option (Option Value)). option_flatten (first_some x (entry_of key part.below))) (with_row-here key entry part.fresh)

value_kept : (part : Part) (key : Key) (entry : Option Value) (k : Key) → k ≢ key → value_of_part (with_entry key entry part) k ≡ value_of_part part k
value_kept part key entry k other = ap (λ (x : Option (Option Value)). option_flatten (first_some x (entry_of k part.below))) (with_row-there key k entry part.fresh other)

-- rows are the same or not
pub by_row : (P : Type 0) (r s : Row) → (r ≡ s → P) → ((place_of r == place_of s) ≡ false → P) → P
by_row P r s same other = by_test (place_of r == place_of s) refl where
  by_test : (b : Bool) → (place_of r == place_of s) ≡ b → P
  by_test true e = same (place_exact r s (eqb-true (place_of r) (place_of s) e))
  by_test false e = other e

module _ (change : Change) (parts : Parts) where
  own : (place_of change.row == place_of change.row) ≡ true
  own = eq-eqb (place_of change.row) (place_of change.row) refl

  changed-here : content_in (changed change parts) change.row change.key ≡ change.value
  changed-here =
      ap (λ (b : Bool). value_of_part (cond b (with_entry change.key change.value (parts change.row)) (parts change.row)) change.key) own
      ∙ value_put (parts change.row) change.key change.value

  changed-beside : (k : Key) → k ≢ change.key → content_in (changed change parts) change.row k ≡ content_in parts change.row k
  changed-beside k n =
      ap (λ (b : Bool). value_of_part (cond b (with_entry change.key change.value (parts change.row)) (parts change.row)) k) own
      ∙ value_kept (parts change.row) change.key change.value k n

  changed-there : (r : Row) (k : Key) → (change.row ≡ r → change.key ≡ k → ⊥) → content_in (changed change parts) r k ≡ content_in parts r k
  changed-there r k other = by_row (content_in (changed change parts) r k ≡ content_in parts r k) r change.row
      (λ (s : r ≡ change.row). subst (λ (q : Row). content_in (changed change parts) q k ≡ content_in parts q k) (sym s)
      (changed-beside k (λ (e : k ≡ change.key). other (sym s) (sym e))))
      (λ (n : (place_of r == place_of change.row) ≡ false).
      ap (λ (b : Bool). value_of_part (cond b (with_entry change.key change.value (parts change.row)) (parts r)) k) n)

-- no change has this key of this row
abbrev AreElsewhere : List Change → Row → Key → Type 0
AreElsewhere changes r k = (c : Change) → Has changes c → c.row ≡ r → c.key ≡ k → ⊥

-- the rows have after changes what each of them says, where one says something, and else what they had
changed-content : (new : Content) (changes : List Change) (parts : Parts)
    → ((c : Change) → Has changes c → new c.row c.key ≡ c.value)
    → (r : Row) (k : Key) → (AreElsewhere changes r k → content_in parts r k ≡ new r k) → content_in (all_changed changes parts) r k ≡ new r k
changed-content new [] parts right r k kept = kept (λ c h. absurd h)
changed-content new (change ∷ changes) parts right r k kept =
    changed-content new changes (changed change parts) (λ c h. right c (inr h)) r k next where
      elsewhere : AreElsewhere changes r k → (change.row ≡ r → change.key ≡ k → ⊥) → content_in (changed change parts) r k ≡ new r k
      elsewhere none other = changed-there change parts r k other ∙ kept apart where
        apart : AreElsewhere (change ∷ changes) r k
        apart c h s q = elim h [
          | inl e ↦ other (ap (λ (x : Change). x.row) e ∙ s) (ap (λ (x : Change). x.key) e ∙ q)
          | inr rest ↦ none c rest s q
        ]

      next : AreElsewhere changes r k → content_in (changed change parts) r k ≡ new r k
      next none = by_row (content_in (changed change parts) r k ≡ new r k) change.row r
          (λ (s : change.row ≡ r). by_key (content_in (changed change parts) r k ≡ new r k) change.key k
          (λ (e : change.key ≡ k).
          subst (λ (q : Row). content_in (changed change parts) q k ≡ new q k) s
          (subst (λ (q : Key). content_in (changed change parts) change.row q ≡ new change.row q) e
          (changed-here change parts ∙ sym (right change (inl refl)))))
          (λ (n : change.key ≢ k). elsewhere none (λ s e. n e)))
          (λ (n : (place_of change.row == place_of r) ≡ false). elsewhere none (λ s e. both_ways (place_of change.row == place_of r) n (eq-eqb (place_of change.row) (place_of r) (ap place_of s))))

module _ (edits : Row → List Edit) where
  abbrev of_row : Row → List Change
  of_row r = map (change_of r) (edits r)

  -- each change comes from an edit of its row
  pub from_edit : (rows : List Row) (c : Change) → Has (flat_map of_row rows) c → Has (edits c.row) (c.key, c.value)
  from_edit [] c h = absurd h
  from_edit (r ∷ rows) c h = elim (has_either (of_row r) (flat_map of_row rows) c h) [
    | inl own ↦
        let made = has_made (change_of r) (edits r) c own in
        subst (λ (x : Change). Has (edits x.row) (x.key, x.value)) made.is made.has
    | inr rest ↦ from_edit rows c rest
  ]

  -- and each edit of a listed row is a change
  into_change : (rows : List Row) (r : Row) (edit : Edit) → Has rows r → Has (edits r) edit → Has (flat_map of_row rows) (change_of r edit)
  into_change [] r edit h has = absurd h
  into_change (s ∷ rows) r edit h has = elim h [
    | inl e ↦ has_left (of_row s) (flat_map of_row rows) (change_of r edit) (subst (λ (q : Row). Has (of_row q) (change_of r edit)) (sym e) (has_map (change_of r) (edits r) edit has))
    | inr rest ↦ has_right (of_row s) (flat_map of_row rows) (change_of r edit) (into_change rows r edit rest has)
  ]

  pub edits-shown : (old new : Content) (parts : Parts) → ((r : Row) → Has rows_in_order r)
      → ((r : Row) (k : Key) → content_in parts r k ≡ old r k)
      → ((r : Row) (k : Key) → new r k ≡ edited (edits r) (old r) k)
      → ((r : Row) → All (λ edit. new r edit.0 ≡ edit.1) (edits r))
      → (r : Row) (k : Key) → content_in (all_changed (flat_map of_row rows_in_order) parts) r k ≡ new r k
  edits-shown old new parts listed shows rows agree r k =
      changed-content new (flat_map of_row rows_in_order) parts right r k kept where
        right : (c : Change) → Has (flat_map of_row rows_in_order) c → new c.row c.key ≡ c.value
        right c h = all_has (λ (edit : Edit). new c.row edit.0 ≡ edit.1) (edits c.row) (c.key, c.value) (agree c.row) (from_edit rows_in_order c h)

        by_entry : (o : Option (Option Value)) → entry_at k (edits r) ≡ o → AreElsewhere (flat_map of_row rows_in_order) r k → old r k ≡ unwrap_or (entry_at k (edits r)) (old r k)
        by_entry None e none = sym (ap (λ (x : Option (Option Value)). unwrap_or x (old r k)) e)
        by_entry (Some v) e none =
            let edit : Edit = (k, v) in
            absurd (none (change_of r (k, v)) (into_change rows_in_order r (k, v) (listed r) (value_from (edits r) k v e)) refl refl)

        kept : AreElsewhere (flat_map of_row rows_in_order) r k → content_in parts r k ≡ new r k
        kept none = shows r k ∙ by_entry (entry_at k (edits r)) refl none ∙ sym (rows r k)

pub each_listed : (r : Row) → Has rows_in_order r
each_listed row.AccountObjects = inl refl
each_listed row.AccountIds = inr (inl refl)
each_listed row.AccountUserData128 = inr (inr (inl refl))
each_listed row.AccountUserData64 = inr (inr (inr (inl refl)))
each_listed row.AccountUserData32 = inr (inr (inr (inr (inl refl))))
each_listed row.AccountLedger = inr (inr (inr (inr (inr (inl refl)))))
each_listed row.AccountCode = inr (inr (inr (inr (inr (inr (inl refl))))))
each_listed row.AccountSums = inr (inr (inr (inr (inr (inr (inr (inl refl)))))))
each_listed row.TransferObjects = inr (inr (inr (inr (inr (inr (inr (inr (inl refl))))))))
each_listed row.TransferIds = inr (inr (inr (inr (inr (inr (inr (inr (inr (inl refl)))))))))
each_listed row.TransferDebit = inr (inr (inr (inr (inr (inr (inr (inr (inr (inr (inl refl))))))))))
each_listed row.TransferCredit = inr (inr (inr (inr (inr (inr (inr (inr (inr (inr (inr (inl refl)))))))))))
each_listed row.TransferUserData128 = inr (inr (inr (inr (inr (inr (inr (inr (inr (inr (inr (inr (inl refl))))))))))))
each_listed row.TransferUserData64 = inr (inr (inr (inr (inr (inr (inr (inr (inr (inr (inr (inr (inr (inl refl)))))))))))))
each_listed row.TransferUserData32 = inr (inr (inr (inr (inr (inr (inr (inr (inr (inr (inr (inr (inr (inr (inl refl))))))))))))))
each_listed row.TransferLedger = inr (inr (inr (inr (inr (inr (inr (inr (inr (inr (inr (inr (inr (inr (inr (inl refl)))))))))))))))
each_listed row.TransferCode = inr (inr (inr (inr (inr (inr (inr (inr (inr (inr (inr (inr (inr (inr (inr (inr (inl refl))))))))))))))))
each_listed row.PendingStatus = inr (inr (inr (inr (inr (inr (inr (inr (inr (inr (inr (inr (inr (inr (inr (inr (inr (inl refl)))))))))))))))))
each_listed row.Expiry = inr (inr (inr (inr (inr (inr (inr (inr (inr (inr (inr (inr (inr (inr (inr (inr (inr (inr (inl refl))))))))))))))))))
each_listed row.ExpiryEntries = inr (inr (inr (inr (inr (inr (inr (inr (inr (inr (inr (inr (inr (inr (inr (inr (inr (inr (inr (inl refl)))))))))))))))))))
each_listed row.History = inr (inr (inr (inr (inr (inr (inr (inr (inr (inr (inr (inr (inr (inr (inr (inr (inr (inr (inr (inr (inl refl))))))))))))))))))))
