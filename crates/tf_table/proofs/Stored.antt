-- Entries that are stored once, and those that are stored one by one: some of these are values.
use Rattle.std.proofs.Common.{◌≡◌, ℕ, zero, suc, ◌<◌, List, [], ◌∷◌, ◌++◌, length, replicate, get_or, Option, None, ap, sym, ◌∙◌, arith}
use Rattle.std.proofs.lemmas.List.{get_or-replicate}
use Rattle.std.proofs.lemmas.List.Elements.{All-contains, Contains-push}
use Rattle.tf_table.specs.declared.key.Key.{Key}
use Rattle.tf_table.specs.declared.entries.Entries.{Entries}
use Rattle.tf_table.specs.declared.entries.Entries.TheVariants.{Same}
use Rattle.tf_table.specs.Content.{AreTombstones, HaveOneEntry}
use Rattle.tf_table.specs.Entries.{entries_of, HaveNoValue}
use Rattle.tf_table.specs.Rows.{rows_of, IsPaired}
use Rattle.tf_table.proofs.LaidOut.{length-rows_of, entry_there}

-- entries that were the same, and one that doesn't repeat them
pub spread_has_value : {V : Type 0} (rows : ℕ) (same last : Option V) → 0 < rows → (same ≡ None → last ≡ None → ⊥) → HaveNoValue (replicate rows same ++ last ∷ []) → ⊥
spread_has_value zero same last some n h = absurd (omega arith)
spread_has_value {V} (suc rows) same last some n h =
    n (h 0 same (omega arith)) (All-contains (λ (entry : Option V). entry ≡ None) (replicate (suc rows) same ++ last ∷ []) last h (Contains-push (replicate (suc rows) same) last))

-- rows of one entry
pub one_of_same : {V A : Type 0} (ks : List Key) (es : Entries V A) (entry : Option V) → es ≡ Same entry → IsPaired ks es → HaveOneEntry (rows_of ks es)
one_of_same ks es entry is paired = (
  entry,
  λ k d l.
      let within : k < length ks = omega (arith, length-rows_of ks es paired) in
      entry_there ks es k d paired within ∙ ap (λ x. get_or (entries_of (length ks) x) k d.1) is ∙ get_or-replicate (length ks) k entry d.1 within,
)

-- entries of rows that are tombstones
pub none_of_rows : {V A : Type 0} (ks : List Key) (es : Entries V A) → IsPaired ks es → AreTombstones (rows_of ks es) → HaveNoValue (entries_of (length ks) es)
none_of_rows ks es paired h k d l =
    let least : Key = record { value = 0; timestamp = 0 } in
    sym (entry_there ks es k (least, d) paired (omega (arith, paired))) ∙ h k (least, d) (omega (arith, paired, length-rows_of ks es paired))
