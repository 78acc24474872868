-- Searches among rows that lie side by side.
use Rattle.std.proofs.Common.{◌≡◌, ℕ, zero, suc, ◌+◌, ◌-◌, ◌<◌, ◌≤◌, List, [], ◌∷◌, length, take, drop, get_or, Option, true, false, sym, ◌∙◌, ap, subst, arith}
use Rattle.std.specs.Ordering.{is_lt, is_gt}
use Rattle.std.proofs.lemmas.List.{get_or-take, get_or-drop, drop-drop, drop-take, take-take, length-take-le, length-drop}
use Rattle.std.specs.declared.cmp.Ordering.{Ordering}
use Rattle.tf_sorted.specs.Rows.{AllAfter, IsRising, rows_from, rows_upto}
use Rattle.tf_table.specs.declared.key.Key.{Key}
use Rattle.tf_table.specs.declared.entries.Entries.{Entries}
use Rattle.tf_table.specs.declared.span.Span.{Span}
use Rattle.tf_table.specs.Key.{key_cmp}
use Rattle.tf_table.specs.Rows.{rows_of, IsLaidOut}
use Rattle.tf_table.proofs.Keys.{keys_total}
use Rattle.tf_table.proofs.LaidOut.{length-rows_of, key_there}
use Rattle.tf_table.proofs.Rising.{IsRising-drop}
use Rattle.tf_table.proofs.Places.{before_all, rows_from-place, rows_upto-place}
use Rattle.tf_table.proofs.Spans.{span}

module _ {K E : Type 0} (cmp : K → K → Ordering) where
  AllAfter-take : (k : K) (n : ℕ) (rows : List (K × E)) → AllAfter cmp k rows → AllAfter cmp k (take n rows)
  AllAfter-take k zero rows a = tt
  AllAfter-take k (suc n) [] a = tt
  AllAfter-take k (suc n) (r ∷ rows) a = (a.0, AllAfter-take k n rows a.1)

  IsRising-take : (n : ℕ) (rows : List (K × E)) → IsRising cmp rows → IsRising cmp (take n rows)
  IsRising-take zero rows a = tt
  IsRising-take (suc n) [] a = tt
  IsRising-take (suc n) (r ∷ rows) a = (AllAfter-take r.0 n rows a.0, IsRising-take n rows a.1)

pub length-span : {X : Type 0} (from to : ℕ) (xs : List X) → from ≤ to → to ≤ length xs → length (span from to xs) ≡ to - from
length-span from to xs o l = length-take-le (to - from) (drop from xs) (omega (arith, length-drop from xs))

get_or-span : {X : Type 0} (from to : ℕ) (xs : List X) (q : ℕ) (d : X) → q < to - from → get_or (span from to xs) q d ≡ get_or xs (from + q) d
get_or-span from to xs q d l = get_or-take (to - from) (drop from xs) q d l ∙ get_or-drop from xs q d

drop-span : {X : Type 0} (from to p : ℕ) (xs : List X) → p ≤ to - from → drop p (span from to xs) ≡ span (from + p) to xs
drop-span from to p xs l =
    let n : to - from ≡ p + (to - (from + p)) = omega arith in
    ap (λ m. drop p (take m (drop from xs))) n ∙ drop-take p (to - (from + p)) (drop from xs) ∙ ap (take (to - (from + p))) (drop-drop p from xs)

take-span : {X : Type 0} (from to p : ℕ) (xs : List X) → p ≤ to - from → take p (span from to xs) ≡ span from (from + p) xs
take-span from to p xs l =
    let n : p ≡ (from + p) - from = omega arith in
    take-take p (to - from) (drop from xs) l ∙ ap (λ m. take m (drop from xs)) n

-- with `keys` for those of the rows from one place up to another
module _ {V A : Type 0} {times : Option Span} (least greatest : Key) (ks : List Key) (es : Entries V A) (laid : IsLaidOut least greatest times ks es) (from to : ℕ) (ordered : from ≤ to) (within : to ≤ length ks) (keys : List Key) (are : keys ≡ span from to ks) where
  abbrev pub rows : List (Key × Option V)
  rows = rows_of ks es

  length-rows : length rows ≡ length ks
  length-rows = length-rows_of ks es laid.paired

  abbrev pub some : List (Key × Option V)
  some = span from to rows

  length-some : length some ≡ length keys
  length-some = length-span from to rows ordered (omega (arith, length-rows)) ∙ sym (length-span from to ks ordered within) ∙ sym (ap length are)

  length-keys : length keys ≡ to - from
  length-keys = ap length are ∙ length-span from to ks ordered within

  rising-some : IsRising key_cmp some
  rising-some = IsRising-take key_cmp (to - from) (drop from rows) (IsRising-drop key_cmp keys_total from rows laid.rising)

  -- these are the keys of the rows there
  key_within : (q : ℕ) (d : Key × Option V) → q < length keys → (get_or some q d).0 ≡ get_or keys q d.0
  key_within q d l =
      let there : q < to - from = omega (arith, length-keys) in
      ap (λ (r : Key × Option V). r.0) (get_or-span from to rows q d there) ∙ key_there ks es (from + q) d laid.paired (omega arith)
      ∙ sym (get_or-span from to ks q d.0 there) ∙ ap (λ (found : List Key). get_or found q d.0) (sym are)

  pub some_from : (key : Key) (p : ℕ) → p ≤ length keys → ((q : ℕ) (d : Key) → q + 1 ≡ p → is_lt (key_cmp (get_or keys q d) key) ≡ true) → ((d : Key) → p < length keys → is_lt (key_cmp (get_or keys p d) key) ≡ false)
      → span (from + p) to rows ≡ rows_from key_cmp key (span from to rows)
  some_from key p l before after =
      sym (rows_from-place key_cmp keys_total key some p rising-some
      (before_all key_cmp keys_total key some p rising-some (omega (arith, length-some)) (λ q d e. subst (λ k. is_lt (key_cmp k key) ≡ true) (sym (key_within q d (omega arith))) (before q d.0 e)))
      (λ d h. let there : p < length keys = omega (arith, length-some) in subst (λ k. is_lt (key_cmp k key) ≡ false) (sym (key_within p d there)) (after d.0 there))
      ∙ drop-span from to p rows (omega (arith, length-keys)))

  pub some_upto : (key : Key) (p : ℕ) → p ≤ length keys → ((q : ℕ) (d : Key) → q + 1 ≡ p → is_gt (key_cmp (get_or keys q d) key) ≡ false) → ((d : Key) → p < length keys → is_gt (key_cmp (get_or keys p d) key) ≡ true)
      → span from (from + p) rows ≡ rows_upto key_cmp key (span from to rows)
  some_upto key p l before after =
      sym (rows_upto-place key_cmp keys_total key some p rising-some (omega (arith, length-some))
      (λ q d e. subst (λ k. is_gt (key_cmp k key) ≡ false) (sym (key_within q d (omega arith))) (before q d.0 e))
      (λ d h. let there : p < length keys = omega (arith, length-some) in subst (λ k. is_gt (key_cmp k key) ≡ true) (sym (key_within p d there)) (after d.0 there))
      ∙ take-span from to p rows (omega (arith, length-keys)))
