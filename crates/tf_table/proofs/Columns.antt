-- Rows side by side, as a run of keys and one of entries.
use Rattle.std.proofs.Common.{◌≡◌, ℕ, zero, suc, ◌-◌, ◌≤◌, List, [], ◌∷◌, length, take, drop, refl, sym, ◌∙◌, ap, subst, arith}
use Rattle.std.specs.List.{zip}
use Rattle.std.proofs.lemmas.List.{length-take-le, length-drop, take-append-drop}
use Rattle.tf_sorted.specs.Rows.{IsRising}
use Rattle.tf_sorted.proofs.Order.{IsRising-left, IsRising-right}
use Rattle.tf_table.specs.Key.{key_cmp}
use Rattle.tf_table.specs.declared.key.Key.{Key}
use Rattle.tf_table.specs.declared.entries.Entries.{Entries}
use Rattle.tf_table.specs.declared.column.Column.{Column}
use Rattle.tf_table.specs.Column.{column_of, AreRuns}
use Rattle.tf_table.specs.Entries.{entries_of, HasEntries}
use Rattle.tf_table.specs.declared.entries.Entries.TheVariants.{Same, Each}
use Rattle.tf_table.specs.Rows.{rows_of, IsPaired}
use Rattle.tf_table.proofs.LaidOut.{length-rows_of}
use Rattle.tf_table.proofs.Spans.{span}

zip-take : {K E : Type 0} (n : ℕ) (ks : List K) (es : List E) → zip (take n ks) (take n es) ≡ take n (zip ks es)
zip-take zero ks es = refl
zip-take (suc n) [] es = refl
zip-take (suc n) (k ∷ ks) [] = refl
zip-take {K} {E} (suc n) (k ∷ ks) (e ∷ es) = ap (λ (rows : List (K × E)). (k, e) ∷ rows) (zip-take n ks es)

zip-drop : {K E : Type 0} (n : ℕ) (ks : List K) (es : List E) → length es ≡ length ks → zip (drop n ks) (drop n es) ≡ drop n (zip ks es)
zip-drop zero ks es h = refl
zip-drop (suc n) [] es h = refl
zip-drop (suc n) (k ∷ ks) [] h = absurd (omega arith)
zip-drop (suc n) (k ∷ ks) (e ∷ es) h = zip-drop n ks es (omega arith)

span-long : {X : Type 0} (from to : ℕ) (xs : List X) → to ≤ length xs → length (span from to xs) ≡ to - from
span-long from to xs l = length-take-le (to - from) (drop from xs) (omega (arith, length-drop from xs))

pub has-entries : {V A : Type 0} (keys : List Key) (es : Entries V A) (to : ℕ) → IsPaired keys es → to ≤ length keys → HasEntries to es
has-entries keys (Same entry) to h l = tt
has-entries keys (Each entries) to h l = omega arith

module _ {V A : Type 0} (keys : List Key) (es : Entries V A) (h : IsPaired keys es) (from to : ℕ) where
  -- the rows from one place up to another
  pub runs-span : from ≤ to → to ≤ length keys → (part : List Key) (entries : Column V) → part ≡ span from to keys → column_of (to - from) entries ≡ span from to (entries_of (length keys) es) → AreRuns part entries (span from to (rows_of keys es))
  runs-span o l part entries e f =
      let many : length part ≡ to - from = ap length e ∙ span-long from to keys l in
      let all = span-long from to (rows_of keys es) (omega (arith, l, length-rows_of keys es h)) in
      record {
        together =
            ap (λ (ks : List Key). zip ks (column_of (length part) entries)) e
            ∙ ap (λ n. zip (span from to keys) (column_of n entries)) many
            ∙ ap (zip (span from to keys)) f
            ∙ zip-take (to - from) (drop from keys) (drop from (entries_of (length keys) es))
            ∙ ap (take (to - from)) (zip-drop from keys (entries_of (length keys) es) h);
        as_many_keys = many ∙ sym all;
        as_many_entries = ap (λ n. length (column_of n entries)) many ∙ ap length f ∙ span-long from to (entries_of (length keys) es) (omega (arith, l, h)) ∙ sym all;
      }

pub rising-span : {E : Type 0} (from to : ℕ) (rows : List (Key × E)) → IsRising key_cmp rows → IsRising key_cmp (span from to rows)
rising-span {E} from to rows h =
    let count = to - from in
    let behind = IsRising-right key_cmp (take from rows) (drop from rows) (subst (λ (rs : List (Key × E)). IsRising key_cmp rs) (sym (take-append-drop from rows)) h) in
    IsRising-left key_cmp (take count (drop from rows)) (drop count (drop from rows)) (subst (λ (rs : List (Key × E)). IsRising key_cmp rs) (sym (take-append-drop count (drop from rows))) behind)
