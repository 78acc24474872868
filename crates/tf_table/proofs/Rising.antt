-- Rows whose keys rise, in any total order of the keys.
use Rattle.std.proofs.Common.{◌≡◌, ℕ, zero, suc, List, [], ◌∷◌, ◌++◌, drop, Option, Some, None, Bool, true, false, not, refl, sym, ◌∙◌, ap}
use Rattle.std.specs.Option.{option_map}
use Rattle.std.specs.Cmp.{IsTotalOrder}
use Rattle.std.specs.Ordering.{is_lt, is_eq, is_gt, ordering_reverse}
use Rattle.std.specs.declared.cmp.Ordering.{Ordering}
use Rattle.std.specs.declared.cmp.Ordering.TheVariants.{Less, Equal, Greater}
use Rattle.std.proofs.lemmas.Bool.{false≢true, cond-true, cond-false}
use Rattle.tf_sorted.specs.Rows.{AllAfter, IsRising, rows_from, value_at}
use Rattle.tf_table.specs.Content.{first_some}

-- tests of an order
is_gt-reverse : (o : Ordering) → is_gt (ordering_reverse o) ≡ is_lt o
is_gt-reverse Less = refl
is_gt-reverse Equal = refl
is_gt-reverse Greater = refl

pub is_lt-not : (o : Ordering) → ¬ (o ≡ Less) → is_lt o ≡ false
is_lt-not Less n = absurd (n refl)
is_lt-not Equal n = refl
is_lt-not Greater n = refl

pub is_eq-not : (o : Ordering) → ¬ (o ≡ Equal) → is_eq o ≡ false
is_eq-not Less n = refl
is_eq-not Equal n = absurd (n refl)
is_eq-not Greater n = refl

pub is_gt-not : (o : Ordering) → ¬ (o ≡ Greater) → is_gt o ≡ false
is_gt-not Less n = refl
is_gt-not Equal n = refl
is_gt-not Greater n = absurd (n refl)

pub greater_from : (o : Ordering) → is_gt o ≡ true → o ≡ Greater
greater_from Less e = absurd (false≢true e)
greater_from Equal e = absurd (false≢true e)
greater_from Greater e = refl

pub less_from : (o : Ordering) → is_lt o ≡ true → o ≡ Less
less_from Less e = refl
less_from Equal e = absurd (false≢true e)
less_from Greater e = absurd (false≢true e)

pub equal_from : (o : Ordering) → is_eq o ≡ true → o ≡ Equal
equal_from Less e = absurd (false≢true e)
equal_from Equal e = refl
equal_from Greater e = absurd (false≢true e)

pub not_less_from : (o : Ordering) → is_lt o ≡ false → o ≡ Less → ⊥
not_less_from o n e = cc

pub not_equal_from : (o : Ordering) → is_eq o ≡ false → o ≡ Equal → ⊥
not_equal_from o n e = cc

module _ {K : Type 0} (cmp : K → K → Ordering) (o : IsTotalOrder cmp) where
  pub is_gt_is : (a b : K) → is_gt (cmp a b) ≡ is_lt (cmp b a)
  is_gt_is a b = ap is_gt (o.antisymm a b) ∙ is_gt-reverse (cmp b a)

  pub greater_back : (a b : K) → cmp a b ≡ Less → cmp b a ≡ Greater
  greater_back a b h = o.antisymm b a ∙ ap ordering_reverse h

  pub less_back : (a b : K) → cmp a b ≡ Greater → cmp b a ≡ Less
  less_back a b h = o.antisymm b a ∙ ap ordering_reverse h

  -- above what is not below stays so
  pub not_below_more : (j k key : K) → cmp j k ≡ Less → is_lt (cmp j key) ≡ false → is_lt (cmp k key) ≡ false
  not_below_more j k key h n = is_lt-not (cmp k key) (λ e. not_less_from (cmp j key) n (o.trans j k key h e))

  pub not_equal_more : (j k key : K) → cmp j k ≡ Less → is_lt (cmp j key) ≡ false → is_eq (cmp k key) ≡ false
  not_equal_more j k key h n =
      is_eq-not (cmp k key) (λ e. not_less_from (cmp j key) n (less_back key j (sym (o.congr k key j e) ∙ greater_back j k h)))

module _ {K E : Type 0} (cmp : K → K → Ordering) (o : IsTotalOrder cmp) where
  pub AllAfter-before : (j k : K) (rows : List (K × E)) → cmp j k ≡ Less → AllAfter cmp k rows → AllAfter cmp j rows
  AllAfter-before j k [] h a = tt
  AllAfter-before j k (r ∷ rows) h a = (o.trans j k r.0 h a.0, AllAfter-before j k rows h a.1)

  -- the rows from a key on: all of those behind a key that is not below it
  pub rows_from-after : (key k : K) (rows : List (K × E)) → is_lt (cmp k key) ≡ false → AllAfter cmp k rows → rows_from cmp key rows ≡ rows
  rows_from-after key k [] n a = refl
  rows_from-after key k (r ∷ rows) n a =
      cond-true (not (is_lt (cmp r.0 key))) _ _ (ap not (not_below_more cmp o k r.0 key a.0 n)) ∙ ap (λ (rs : List (K × E)). r ∷ rs) (rows_from-after key k rows n a.1)

  pub rows_from-at : (key : K) (r : K × E) (rows : List (K × E)) → is_lt (cmp r.0 key) ≡ false → IsRising cmp (r ∷ rows) → rows_from cmp key (r ∷ rows) ≡ r ∷ rows
  rows_from-at key r rows n rising =
      cond-true (not (is_lt (cmp r.0 key))) _ _ (ap not n) ∙ ap (λ (rs : List (K × E)). r ∷ rs) (rows_from-after key r.0 rows n rising.0)

  pub rows_from-below : (key : K) (r : K × E) (rows : List (K × E)) → is_lt (cmp r.0 key) ≡ true → rows_from cmp key (r ∷ rows) ≡ rows_from cmp key rows
  rows_from-below key r rows e = cond-false (not (is_lt (cmp r.0 key))) _ _ (ap not e)

  -- what a key has
  pub value_at-here : (key : K) (r : K × E) (rows : List (K × E)) → is_eq (cmp r.0 key) ≡ true → value_at cmp key (r ∷ rows) ≡ Some r.1
  value_at-here key r rows e = ap (option_map (λ (s : K × E). s.1)) (cond-true (is_eq (cmp r.0 key)) _ _ e)

  pub value_at-there : (key : K) (r : K × E) (rows : List (K × E)) → is_eq (cmp r.0 key) ≡ false → value_at cmp key (r ∷ rows) ≡ value_at cmp key rows
  value_at-there key r rows e = ap (option_map (λ (s : K × E). s.1)) (cond-false (is_eq (cmp r.0 key)) _ _ e)

  pub value_at-after : (key k : K) (rows : List (K × E)) → is_lt (cmp k key) ≡ false → AllAfter cmp k rows → value_at cmp key rows ≡ None
  value_at-after key k [] n a = refl
  value_at-after key k (r ∷ rows) n a =
      value_at-there key r rows (not_equal_more cmp o k r.0 key a.0 n) ∙ value_at-after key k rows n a.1

  value_at-append_cases : (key : K) (r : K × E) (xs ys : List (K × E)) (b : Bool) → is_eq (cmp r.0 key) ≡ b → value_at cmp key (xs ++ ys) ≡ first_some (value_at cmp key xs) (value_at cmp key ys)
      → value_at cmp key (r ∷ (xs ++ ys)) ≡ first_some (value_at cmp key (r ∷ xs)) (value_at cmp key ys)
  value_at-append_cases key r xs ys true e ih =
      value_at-here key r (xs ++ ys) e ∙ sym (ap (λ (v : Option E). first_some v (value_at cmp key ys)) (value_at-here key r xs e))
  value_at-append_cases key r xs ys false e ih =
      value_at-there key r (xs ++ ys) e ∙ ih ∙ sym (ap (λ (v : Option E). first_some v (value_at cmp key ys)) (value_at-there key r xs e))

  pub value_at-append : (key : K) (xs ys : List (K × E)) → value_at cmp key (xs ++ ys) ≡ first_some (value_at cmp key xs) (value_at cmp key ys)
  value_at-append key [] ys = refl
  value_at-append key (r ∷ xs) ys = value_at-append_cases key r xs ys (is_eq (cmp r.0 key)) refl (value_at-append key xs ys)

  -- each of these rows has a lesser key than k
  abbrev pub AllBefore : K → List (K × E) → Type 0
  AllBefore k [] = Unit {0}
  AllBefore k (r ∷ rows) = (cmp r.0 k ≡ Less) × AllBefore k rows

  pub value_at-before : (key : K) (rows : List (K × E)) → AllBefore key rows → value_at cmp key rows ≡ None
  value_at-before key [] a = refl
  value_at-before key (r ∷ rows) a =
      value_at-there key r rows (is_eq-not (cmp r.0 key) (λ e. let l = a.0 in cc)) ∙ value_at-before key rows a.1

  pub AllBefore-drop : (key : K) (n : ℕ) (rows : List (K × E)) → AllBefore key rows → AllBefore key (drop n rows)
  AllBefore-drop key zero rows a = a
  AllBefore-drop key (suc n) [] a = tt
  AllBefore-drop key (suc n) (r ∷ rows) a = AllBefore-drop key n rows a.1

  -- the rows behind a place
  pub AllAfter-drop : (k : K) (n : ℕ) (rows : List (K × E)) → AllAfter cmp k rows → AllAfter cmp k (drop n rows)
  AllAfter-drop k zero rows a = a
  AllAfter-drop k (suc n) [] a = tt
  AllAfter-drop k (suc n) (r ∷ rows) a = AllAfter-drop k n rows a.1

  pub IsRising-drop : (n : ℕ) (rows : List (K × E)) → IsRising cmp rows → IsRising cmp (drop n rows)
  IsRising-drop zero rows a = a
  IsRising-drop (suc n) [] a = tt
  IsRising-drop (suc n) (r ∷ rows) a = IsRising-drop n rows a.1

  -- one more row at the end
  AllAfter-push : (k : K) (rows : List (K × E)) (r : K × E) → AllAfter cmp k rows → cmp k r.0 ≡ Less → AllAfter cmp k (rows ++ r ∷ [])
  AllAfter-push k [] r a h = (h, tt)
  AllAfter-push k (s ∷ rows) r a h = (a.0, AllAfter-push k rows r a.1 h)

  pub IsRising-push : (rows : List (K × E)) (r : K × E) → IsRising cmp rows → AllBefore r.0 rows → IsRising cmp (rows ++ r ∷ [])
  IsRising-push [] r rising b = (tt, tt)
  IsRising-push (s ∷ rows) r rising b = (AllAfter-push s.0 rows r rising.0 b.0, IsRising-push rows r rising.1 b.1)
