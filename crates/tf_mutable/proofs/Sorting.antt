-- A stable sort by key, and a search among keys that rise.
use Rattle.std.proofs.Common.{◌≡◌, ◌⊎◌, inl, inr, ℕ, zero, suc, ◌+◌, ◌-◌, ◌<◌, ◌≤◌, List, [], ◌∷◌, ◌++◌, length, get_or, Some, None, Result, Ok, Err, IfSome, IfNone, Bool, true, false, not, ◌&&◌, cond, refl, sym, ◌∙◌, ap, subst, arith}
use Rattle.std.specs.Cmp.{IsTotalOrder}
use Rattle.std.specs.List.{filter, slice_get}
use Rattle.std.specs.List.Sorted.{ties, IsSortedBy, IsStableBy, IsBinarySearchResult, IsSearchInRange}
use Rattle.std.specs.Option.{option_map}
use Rattle.std.specs.Result.{result_ok}
use Rattle.std.specs.Ordering.{is_lt, is_eq}
use Rattle.std.specs.declared.cmp.Ordering.{Ordering}
use Rattle.std.specs.declared.cmp.Ordering.TheVariants.{Less, Equal, Greater}
use Rattle.std.proofs.lemmas.Bool.{cond-true, cases_lt}
use Rattle.std.proofs.lemmas.Cmp.{tied_itself}
use Rattle.std.proofs.lemmas.List.{take_all}
use Rattle.std.proofs.lemmas.Map.Lookups.{CmpEqualImpliesEq}
use Rattle.std.proofs.lemmas.Option.{slice_get-get_or}
use Rattle.tf_sorted.specs.Rows.{IsRising, value_at}
use Rattle.tf_table.proofs.Rising.{AllBefore, IsRising-push, greater_back, less_back, value_at-there, AllAfter-before, is_lt-not, not_less_from}
use Rattle.tf_table.proofs.Determined.{ordering_cases}
use Rattle.tf_table.proofs.Searching.{next, searchable}
use Rattle.tf_mutable.proofs.Logged.{of_key, Once, once-rest}
use Rattle.tf_table.proofs.Places.{before_place}

filter_same : {X : Type 0} (p q : X → Bool) → ((x : X) → p x ≡ q x) → (xs : List X) → filter p xs ≡ filter q xs
filter_same p q h [] = refl
filter_same {X} p q h (x ∷ xs) =
    ap (λ b. cond b (x ∷ filter p xs) (filter p xs)) (h x) ∙ ap (λ (ys : List X). cond (q x) (x ∷ ys) ys) (filter_same p q h xs)

module _ {K E : Type 0} (cmp : K → K → Ordering) (o : IsTotalOrder cmp) (exact : CmpEqualImpliesEq cmp) where
  -- the test of a sort by key
  abbrev pub is_below : K × E → K × E → Bool
  is_below r s = is_lt (cmp r.0 s.0)

  ties-key : (key : K) (e : E) (r : K × E) → ties is_below (key, e) r ≡ is_eq (cmp r.0 key)
  ties-key key e r = ordering_cases (cmp r.0 key)
      (λ l. ap (λ a. not (is_lt a) && not (is_lt (cmp r.0 key))) (greater_back cmp o r.0 key l) ∙ ap (λ a. not (is_lt a)) l ∙ sym (ap is_eq l))
      (λ q. ap (λ k. not (is_lt (cmp k r.0)) && not (is_lt (cmp r.0 k))) (sym (exact r.0 key q)) ∙ ap (λ a. not (is_lt a) && not (is_lt a)) (tied_itself o r.0) ∙ sym (ap is_eq q))
      (λ g. ap (λ a. not (is_lt a) && not (is_lt (cmp r.0 key))) (less_back cmp o r.0 key g) ∙ sym (ap is_eq g))

  -- a stable sort keeps the rows of each key
  pub of_key-stable : (xs ys : List (K × E)) (e : E) → IsStableBy is_below xs ys → (key : K) → of_key cmp o exact key ys ≡ of_key cmp o exact key xs
  of_key-stable xs ys e stable key =
      filter_same (λ (r : K × E). is_eq (cmp r.0 key)) (ties is_below (key, e)) (λ r. sym (ties-key key e r)) ys ∙ stable (key, e)
      ∙ filter_same (ties is_below (key, e)) (λ (r : K × E). is_eq (cmp r.0 key)) (ties-key key e) xs

  pub once-stable : (xs ys : List (K × E)) (e : E) → IsStableBy is_below xs ys → Once cmp o exact xs → Once cmp o exact ys
  once-stable xs ys e stable once key = omega (arith, ap length (of_key-stable xs ys e stable key), once key)

  -- rows that don't fall rise where no key comes twice
  not_twice : (r s : K × E) (rows : List (K × E)) → Once cmp o exact (r ∷ s ∷ rows) → ¬ (cmp r.0 s.0 ≡ Equal)
  not_twice r s rows once e =
      let first : is_eq (cmp r.0 r.0) ≡ true = ap is_eq (tied_itself o r.0) in
      let second : is_eq (cmp s.0 r.0) ≡ true = ap (λ k. is_eq (cmp s.0 k)) (exact r.0 s.0 e) ∙ ap is_eq (tied_itself o s.0) in
      let rest = of_key cmp o exact r.0 rows in
      let two : of_key cmp o exact r.0 (r ∷ s ∷ rows) ≡ r ∷ s ∷ rest = cond-true (is_eq (cmp r.0 r.0)) _ _ first ∙ ap (λ (rs : List (K × E)). r ∷ rs) (cond-true (is_eq (cmp s.0 r.0)) (s ∷ rest) rest second) in
      omega (arith, ap length two, once r.0)

  pub rising-sorted : (rows : List (K × E)) → IsSortedBy is_below rows → Once cmp o exact rows → IsRising cmp rows
  rising-sorted [] sorted once = tt
  rising-sorted (r ∷ []) sorted once = (tt, tt)
  rising-sorted (r ∷ s ∷ rows) sorted once =
      let rest = rising-sorted (s ∷ rows) (λ k d l h. subst (λ m. is_lt (cmp (get_or (r ∷ s ∷ rows) m d).0 (get_or (s ∷ rows) k d).0) ≡ false) (next k) (sorted (suc k) d (omega arith) (omega arith))) (once-rest cmp o exact r (s ∷ rows) once) in
      let step : cmp r.0 s.0 ≡ Less = ordering_cases (cmp r.0 s.0) (λ l. l) (λ e. absurd (not_twice r s rows once e))
      (λ g. absurd (not_less_from (cmp s.0 r.0) (sorted 0 r (omega arith) (omega arith)) (less_back cmp o r.0 s.0 g))) in
      ((step, AllAfter-before cmp o r.0 s.0 rows step rest.0), rest)

  -- a key that no place has
  pub value_at-nowhere : (key : K) (rows : List (K × E)) → ((p : ℕ) (d : K × E) → p < length rows → is_eq (cmp (get_or rows p d).0 key) ≡ false) → value_at cmp key rows ≡ None
  value_at-nowhere key [] h = refl
  value_at-nowhere key (r ∷ rows) h =
      value_at-there cmp o key r rows (h 0 r (omega arith)) ∙ value_at-nowhere key rows (λ p d l. h (suc p) d (omega arith))

  -- what a binary search by key answers
  pub search_found : (rows : List (K × E)) (key : K) (r : Result ℕ ℕ) → IsSearchInRange r (length rows) → IsBinarySearchResult (λ (s : K × E). cmp s.0 key) rows r → IfSome (result_ok r) (λ p. option_map (λ (s : K × E). s.0) (slice_get rows p) ≡ Some key)
  search_found [] key (Ok p) l h = absurd (omega arith)
  search_found (s ∷ rows) key (Ok p) l h =
      ap (option_map (λ (t : K × E). t.0)) (slice_get-get_or (s ∷ rows) p s l) ∙ ap Some (exact (get_or (s ∷ rows) p s).0 key (h s))
  search_found rows key (Err p) l h = tt

  pub search_missing : (rows : List (K × E)) (key : K) (r : Result ℕ ℕ) → IsRising cmp rows → IsBinarySearchResult (λ (s : K × E). cmp s.0 key) rows r → IfNone (result_ok r) (value_at cmp key rows ≡ None)
  search_missing rows key (Ok p) rising h = tt
  search_missing rows key (Err p) rising h =
      let parts = h (searchable cmp o exact rows key rising) in
      value_at-nowhere key rows (λ q d l. elsewhere q d l (parts.0 q d) (parts.1 q d) (cases_lt q p)) where
        elsewhere : (q : ℕ) (d : K × E) → q < length rows → (0 ≤ q → q < p → cmp (get_or rows q d).0 key ≡ Less) → (p ≤ q → q < length rows → cmp (get_or rows q d).0 key ≡ Greater) → (q < p) ⊎ (p ≤ q) → is_eq (cmp (get_or rows q d).0 key) ≡ false
        elsewhere q d l below above (inr b) = ap is_eq (above b l)
        elsewhere q d l below above (inl a) = ap is_eq (below (omega arith) a)

  -- one more row behind the last
  pub rising-push : (rows : List (K × E)) (r : K × E) → IsRising cmp rows → ((d : K × E) → 0 < length rows → is_lt (cmp (get_or rows (length rows - 1) d).0 r.0) ≡ true) → IsRising cmp (rows ++ r ∷ [])
  rising-push [] r rising h = (tt, tt)
  rising-push (s ∷ rows) r rising h =
      let n : suc (length rows) - 1 ≡ length rows = omega arith in
      let e = subst (λ m. is_lt (cmp (get_or (s ∷ rows) m s).0 r.0) ≡ true) n (h s (omega arith)) in
      let b = before_place cmp o r.0 (s ∷ rows) (length rows) s rising (omega arith) e in
      IsRising-push cmp o (s ∷ rows) r rising (subst (AllBefore cmp o r.0) (take_all (suc (length rows)) (s ∷ rows) (omega arith)) b)
