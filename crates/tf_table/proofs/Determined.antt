-- Rows that rise are determined by what each key has; so is what tables say together.
use Rattle.std.proofs.Common.{◌≡◌, List, [], ◌∷◌, ◌++◌, Option, Some, None, Bool, true, false, cond, refl, sym, ◌∙◌, ap, subst}
use Rattle.std.specs.Cmp.{IsTotalOrder}
use Rattle.std.specs.List.{filter}
use Rattle.std.specs.Option.{option_flatten}
use Rattle.std.specs.Ordering.{is_lt, is_eq, is_gt}
use Rattle.std.specs.declared.cmp.Ordering.{Ordering}
use Rattle.std.specs.declared.cmp.Ordering.TheVariants.{Less, Equal, Greater}
use Rattle.std.proofs.lemmas.Bool.{cond-true, cond-false}
use Rattle.std.proofs.lemmas.Cmp.{tied_itself}
use Rattle.std.proofs.lemmas.Map.Lookups.{CmpEqualImpliesEq}
use Rattle.std.proofs.lemmas.Option.{same_Some, none-some}
use Rattle.tf_sorted.specs.Rows.{AllAfter, IsRising, rows_below, rows_above, with_row, value_at}
use Rattle.tf_table.specs.Content.{first_some, first_at, overlaid, combined, values_of, rows_with, value_only}
use Rattle.tf_table.proofs.Rising.{AllBefore, AllAfter-before, equal_from, less_from, greater_from, less_back, greater_back, value_at-here, value_at-there, value_at-after, value_at-append, is_lt-not}

pub first_some-none : {X : Type 0} (x : Option X) → first_some x None ≡ x
first_some-none None = refl
first_some-none (Some x) = refl

pub ordering_cases : {P : Type 0} (x : Ordering) → (x ≡ Less → P) → (x ≡ Equal → P) → (x ≡ Greater → P) → P
ordering_cases Less l e g = l refl
ordering_cases Equal l e g = e refl
ordering_cases Greater l e g = g refl

pub bool_cases : {P : Type 0} (b : Bool) → (b ≡ true → P) → (b ≡ false → P) → P
bool_cases true t f = t refl
bool_cases false t f = f refl

module _ {K E : Type 0} (cmp : K → K → Ordering) (o : IsTotalOrder cmp) (exact : CmpEqualImpliesEq cmp) where
  here : (r : K × E) (rows : List (K × E)) → value_at cmp r.0 (r ∷ rows) ≡ Some r.1
  here r rows = value_at-here cmp o r.0 r rows (ap is_eq (tied_itself o r.0))

  -- no row behind the first has its key, or a lesser one
  missing : (k : K) (r : K × E) (rows : List (K × E)) → cmp k r.0 ≡ Less → IsRising cmp (r ∷ rows) → value_at cmp k (r ∷ rows) ≡ None
  missing k r rows l rising =
      let g = greater_back cmp o k r.0 l in
      value_at-there cmp o k r rows (ap is_eq g) ∙ value_at-after cmp o k r.0 rows (ap is_lt g) rising.0

  rest_same : (x y : K × E) (xs ys : List (K × E)) → x ≡ y → IsRising cmp (x ∷ xs) → IsRising cmp (y ∷ ys) → ((k : K) → value_at cmp k (x ∷ xs) ≡ value_at cmp k (y ∷ ys)) → (k : K) → value_at cmp k xs ≡ value_at cmp k ys
  rest_same x y xs ys e risingx risingy h k = bool_cases (is_eq (cmp x.0 k))
      (λ t.
      let same : x.0 ≡ k = exact x.0 k (equal_from _ t) in
      let none : value_at cmp x.0 xs ≡ None = value_at-after cmp o x.0 x.0 xs (ap is_lt (tied_itself o x.0)) risingx.0 in
      let nony : value_at cmp y.0 ys ≡ None = value_at-after cmp o y.0 y.0 ys (ap is_lt (tied_itself o y.0)) risingy.0 in
      subst (λ q. value_at cmp q xs ≡ value_at cmp q ys) same (none ∙ sym (ap (λ (r : K × E). value_at cmp r.0 ys) e ∙ nony)))
      (λ f. sym (value_at-there cmp o k x xs f) ∙ h k ∙ value_at-there cmp o k y ys (ap (λ (r : K × E). is_eq (cmp r.0 k)) (sym e) ∙ f))

  pub rows_ext : (xs ys : List (K × E)) → IsRising cmp xs → IsRising cmp ys → ((k : K) → value_at cmp k xs ≡ value_at cmp k ys) → xs ≡ ys
  rows_ext [] [] risingx risingy h = refl
  rows_ext [] (y ∷ ys) risingx risingy h = absurd (none-some y.1 (h y.0 ∙ here y ys))
  rows_ext (x ∷ xs) [] risingx risingy h = absurd (none-some x.1 (sym (h x.0) ∙ here x xs))
  rows_ext (x ∷ xs) (y ∷ ys) risingx risingy h = ordering_cases (cmp x.0 y.0)
      (λ l. absurd (none-some x.1 (sym (missing x.0 y ys l risingy) ∙ sym (h x.0) ∙ here x xs)))
      (λ e.
      let k : x.0 ≡ y.0 = exact x.0 y.0 e in
      let v : x.1 ≡ y.1 = same_Some x.1 y.1 (sym (here x xs) ∙ h x.0 ∙ ap (λ q. value_at cmp q (y ∷ ys)) k ∙ here y ys) in
      let r : x ≡ y = ap (λ q. (q, x.1)) k ∙ ap (λ w. (y.0, w)) v in
      ap (λ (q : K × E). q ∷ xs) r ∙ ap (λ (rs : List (K × E)). y ∷ rs) (rows_ext xs ys risingx.1 risingy.1 (rest_same x y xs ys r risingx risingy h)))
      (λ g. absurd (none-some y.1 (sym (missing y.0 x xs (less_back cmp o x.0 y.0 g) risingx) ∙ h y.0 ∙ here y ys)))

  -- the rows whose key passes a test
  filter_step : (f : K → Bool) (q : K) (r : K × E) (rows : List (K × E)) (b t : Bool) → f r.0 ≡ b → is_eq (cmp r.0 q) ≡ t
      → value_at cmp q (filter (λ (s : K × E). f s.0) rows) ≡ cond (f q) (value_at cmp q rows) None
      → value_at cmp q (cond b (r ∷ filter (λ (s : K × E). f s.0) rows) (filter (λ (s : K × E). f s.0) rows)) ≡ cond (f q) (value_at cmp q (r ∷ rows)) None
  filter_step f q r rows true true fb et ih =
      let fq : f q ≡ true = ap f (sym (exact r.0 q (equal_from _ et))) ∙ fb in
      value_at-here cmp o q r (filter (λ (s : K × E). f s.0) rows) et ∙ sym (cond-true (f q) _ _ fq ∙ value_at-here cmp o q r rows et)
  filter_step f q r rows true false fb et ih =
      value_at-there cmp o q r (filter (λ (s : K × E). f s.0) rows) et ∙ ih ∙ ap (λ v. cond (f q) v None) (sym (value_at-there cmp o q r rows et))
  filter_step f q r rows false true fb et ih =
      let fq : f q ≡ false = ap f (sym (exact r.0 q (equal_from _ et))) ∙ fb in
      ih ∙ cond-false (f q) _ _ fq ∙ sym (cond-false (f q) _ _ fq)
  filter_step f q r rows false false fb et ih = ih ∙ ap (λ v. cond (f q) v None) (sym (value_at-there cmp o q r rows et))

  pub value_at-filter : (f : K → Bool) (q : K) (rows : List (K × E)) → value_at cmp q (filter (λ (s : K × E). f s.0) rows) ≡ cond (f q) (value_at cmp q rows) None
  value_at-filter f q [] = bool_cases (f q) (λ t. sym (cond-true (f q) _ _ t)) (λ n. sym (cond-false (f q) _ _ n))
  value_at-filter f q (r ∷ rows) = filter_step f q r rows (f r.0) (is_eq (cmp r.0 q)) refl refl (value_at-filter f q rows)

  -- a row put among others
  pub value_at-with_row : (k : K) (v : E) (q : K) (rows : List (K × E)) → value_at cmp q (with_row cmp k v rows) ≡ cond (is_eq (cmp k q)) (Some v) (value_at cmp q rows)
  value_at-with_row k v q rows =
      let below = rows_below cmp k rows in
      let above = rows_above cmp k rows in
      let split = value_at-append cmp o q below ((k, v) ∷ above) in
      let first = value_at-filter (λ x. is_lt (cmp x k)) q rows in
      let last = value_at-filter (λ x. is_gt (cmp x k)) q rows in
      ordering_cases (cmp q k)
      (λ l.
      let n : is_eq (cmp k q) ≡ false = ap is_eq (greater_back cmp o q k l) in
      let a : value_at cmp q below ≡ value_at cmp q rows = first ∙ cond-true (is_lt (cmp q k)) _ _ (ap is_lt l) in
      let b : value_at cmp q ((k, v) ∷ above) ≡ None = value_at-there cmp o q (k, v) above n ∙ last ∙ cond-false (is_gt (cmp q k)) _ _ (ap is_gt l) in
      split ∙ ap (first_some (value_at cmp q below)) b ∙ first_some-none _ ∙ a ∙ sym (cond-false (is_eq (cmp k q)) _ _ n))
      (λ e.
      let t : is_eq (cmp k q) ≡ true = ap (λ x. is_eq (cmp k x)) (exact q k e) ∙ ap is_eq (tied_itself o k) in
      let a : value_at cmp q below ≡ None = first ∙ cond-false (is_lt (cmp q k)) _ _ (ap is_lt e) in
      split ∙ ap (λ (w : Option E). first_some w (value_at cmp q ((k, v) ∷ above))) a ∙ value_at-here cmp o q (k, v) above t ∙ sym (cond-true (is_eq (cmp k q)) _ _ t))
      (λ g.
      let n : is_eq (cmp k q) ≡ false = ap is_eq (less_back cmp o q k g) in
      let a : value_at cmp q below ≡ None = first ∙ cond-false (is_lt (cmp q k)) _ _ (ap is_lt g) in
      let b : value_at cmp q ((k, v) ∷ above) ≡ value_at cmp q rows = value_at-there cmp o q (k, v) above n ∙ last ∙ cond-true (is_gt (cmp q k)) _ _ (ap is_gt g) in
      split ∙ ap (λ (w : Option E). first_some w (value_at cmp q ((k, v) ∷ above))) a ∙ b ∙ sym (cond-false (is_eq (cmp k q)) _ _ n))

  filter_cases : (f : K × E → Bool) (r : K × E) (rows : List (K × E)) (P : List (K × E) → Type 0) → (f r ≡ true → P (r ∷ rows)) → (f r ≡ false → P rows) → P (cond (f r) (r ∷ rows) rows)
  filter_cases f r rows P t n = by_test (f r) refl where
    by_test : (b : Bool) → f r ≡ b → P (cond b (r ∷ rows) rows)
    by_test true e = t e
    by_test false e = n e

  AllAfter-filter : (f : K × E → Bool) (k : K) (rows : List (K × E)) → AllAfter cmp k rows → AllAfter cmp k (filter f rows)
  AllAfter-filter f k [] a = tt
  AllAfter-filter f k (r ∷ rows) a = filter_cases f r (filter f rows) (AllAfter cmp k) (λ _. (a.0, AllAfter-filter f k rows a.1)) (λ _. AllAfter-filter f k rows a.1)

  pub IsRising-filter : (f : K × E → Bool) (rows : List (K × E)) → IsRising cmp rows → IsRising cmp (filter f rows)
  IsRising-filter f [] rising = tt
  IsRising-filter f (r ∷ rows) rising = filter_cases f r (filter f rows) (IsRising cmp) (λ _. (AllAfter-filter f r.0 rows rising.0, IsRising-filter f rows rising.1)) (λ _. IsRising-filter f rows rising.1)

  AllBefore-below : (k : K) (rows : List (K × E)) → AllBefore cmp o k (rows_below cmp k rows)
  AllBefore-below k [] = tt
  AllBefore-below k (r ∷ rows) = filter_cases (λ s. is_lt (cmp s.0 k)) r (rows_below cmp k rows) (AllBefore cmp o k) (λ t. (less_from _ t, AllBefore-below k rows)) (λ _. AllBefore-below k rows)

  AllAfter-above : (k : K) (rows : List (K × E)) → AllAfter cmp k (rows_above cmp k rows)
  AllAfter-above k [] = tt
  AllAfter-above k (r ∷ rows) = filter_cases (λ s. is_gt (cmp s.0 k)) r (rows_above cmp k rows) (AllAfter cmp k) (λ t. (less_back cmp o r.0 k (greater_from _ t), AllAfter-above k rows)) (λ _. AllAfter-above k rows)

  AllAfter-join : (j : K) (xs : List (K × E)) (r : K × E) (ys : List (K × E)) → AllAfter cmp j xs → cmp j r.0 ≡ Less → AllAfter cmp r.0 ys → AllAfter cmp j (xs ++ r ∷ ys)
  AllAfter-join j [] r ys a l b = (l, AllAfter-before cmp o j r.0 ys l b)
  AllAfter-join j (x ∷ xs) r ys a l b = (a.0, AllAfter-join j xs r ys a.1 l b)

  IsRising-join : (xs : List (K × E)) (r : K × E) (ys : List (K × E)) → IsRising cmp xs → AllBefore cmp o r.0 xs → AllAfter cmp r.0 ys → IsRising cmp ys → IsRising cmp (xs ++ r ∷ ys)
  IsRising-join [] r ys rising before after rest = (after, rest)
  IsRising-join (x ∷ xs) r ys rising before after rest = (AllAfter-join x.0 xs r ys rising.0 before.0 after, IsRising-join xs r ys rising.1 before.1 after rest)

  pub IsRising-with_row : (k : K) (v : E) (rows : List (K × E)) → IsRising cmp rows → IsRising cmp (with_row cmp k v rows)
  IsRising-with_row k v rows rising =
      IsRising-join (rows_below cmp k rows) (k, v) (rows_above cmp k rows) (IsRising-filter (λ s. is_lt (cmp s.0 k)) rows rising) (AllBefore-below k rows) (AllAfter-above k rows) (IsRising-filter (λ s. is_gt (cmp s.0 k)) rows rising)

  -- newer rows put among older ones
  overlaid_cases : (q : K) (r : K × E) (newer older : List (K × E)) (t : Bool) → is_eq (cmp r.0 q) ≡ t → value_at cmp q (overlaid cmp newer older) ≡ first_some (value_at cmp q newer) (value_at cmp q older)
      → cond (is_eq (cmp r.0 q)) (Some r.1) (value_at cmp q (overlaid cmp newer older)) ≡ first_some (value_at cmp q (r ∷ newer)) (value_at cmp q older)
  overlaid_cases q r newer older true e ih = cond-true (is_eq (cmp r.0 q)) _ _ e ∙ sym (ap (λ (w : Option E). first_some w (value_at cmp q older)) (value_at-here cmp o q r newer e))
  overlaid_cases q r newer older false e ih = cond-false (is_eq (cmp r.0 q)) _ _ e ∙ ih ∙ sym (ap (λ (w : Option E). first_some w (value_at cmp q older)) (value_at-there cmp o q r newer e))

  pub value_at-overlaid : (q : K) (newer older : List (K × E)) → value_at cmp q (overlaid cmp newer older) ≡ first_some (value_at cmp q newer) (value_at cmp q older)
  value_at-overlaid q [] older = refl
  value_at-overlaid q (r ∷ newer) older =
      value_at-with_row r.0 r.1 q (overlaid cmp newer older) ∙ overlaid_cases q r newer older (is_eq (cmp r.0 q)) refl (value_at-overlaid q newer older)

  pub IsRising-overlaid : (newer older : List (K × E)) → IsRising cmp older → IsRising cmp (overlaid cmp newer older)
  IsRising-overlaid [] older rising = rising
  IsRising-overlaid (r ∷ newer) older rising = IsRising-with_row r.0 r.1 (overlaid cmp newer older) (IsRising-overlaid newer older rising)

  pub value_at-combined : (q : K) (lists : List (List (K × E))) → value_at cmp q (combined cmp lists) ≡ first_at cmp q lists
  value_at-combined q [] = refl
  value_at-combined q (rows ∷ lists) = value_at-overlaid q rows (combined cmp lists) ∙ ap (first_some (value_at cmp q rows)) (value_at-combined q lists)

  pub IsRising-combined : (lists : List (List (K × E))) → IsRising cmp (combined cmp lists)
  IsRising-combined [] = tt
  IsRising-combined (rows ∷ lists) = IsRising-overlaid rows (combined cmp lists) (IsRising-combined lists)

module _ {K V : Type 0} (cmp : K → K → Ordering) (o : IsTotalOrder cmp) (exact : CmpEqualImpliesEq cmp) where
  -- the rows with a value, as rows again
  AllAfter-values : (k : K) (rows : List (K × Option V)) → AllAfter cmp k rows → AllAfter cmp k (rows_with (values_of rows))
  AllAfter-values k [] a = tt
  AllAfter-values k ((j, Some v) ∷ rows) a = (a.0, AllAfter-values k rows a.1)
  AllAfter-values k ((j, None) ∷ rows) a = AllAfter-values k rows a.1

  pub IsRising-values : (rows : List (K × Option V)) → IsRising cmp rows → IsRising cmp (rows_with (values_of rows))
  IsRising-values [] rising = tt
  IsRising-values ((j, Some v) ∷ rows) rising = (AllAfter-values j rows rising.0, IsRising-values rows rising.1)
  IsRising-values ((j, None) ∷ rows) rising = IsRising-values rows rising.1

  value_cases : (q : K) (j : K) (v : V) (rows : List (K × Option V)) (t : Bool) → is_eq (cmp j q) ≡ t → value_at cmp q (rows_with (values_of rows)) ≡ value_only (value_at cmp q rows)
      → value_at cmp q ((j, Some v) ∷ rows_with (values_of rows)) ≡ value_only (value_at cmp q ((j, Some v) ∷ rows))
  value_cases q j v rows true e ih = value_at-here cmp o q (j, Some v) (rows_with (values_of rows)) e ∙ sym (ap value_only (value_at-here cmp o q (j, Some v) rows e))
  value_cases q j v rows false e ih = value_at-there cmp o q (j, Some v) (rows_with (values_of rows)) e ∙ ih ∙ sym (ap value_only (value_at-there cmp o q (j, Some v) rows e))

  tombstone_cases : (q : K) (j : K) (rows : List (K × Option V)) (t : Bool) → is_eq (cmp j q) ≡ t → AllAfter cmp j rows → value_at cmp q (rows_with (values_of rows)) ≡ value_only (value_at cmp q rows)
      → value_at cmp q (rows_with (values_of rows)) ≡ value_only (value_at cmp q ((j, None) ∷ rows))
  tombstone_cases q j rows true e a ih =
      let none : value_at cmp q rows ≡ None = value_at-after cmp o q j rows (is_lt-not (cmp j q) (λ l. let q' = equal_from _ e in cc)) a in
      ih ∙ ap value_only none ∙ sym (ap value_only (value_at-here cmp o q (j, None) rows e))
  tombstone_cases q j rows false e a ih = ih ∙ sym (ap value_only (value_at-there cmp o q (j, None) rows e))

  pub value_at-values : (q : K) (rows : List (K × Option V)) → IsRising cmp rows → value_at cmp q (rows_with (values_of rows)) ≡ value_only (value_at cmp q rows)
  value_at-values q [] rising = refl
  value_at-values q ((j, Some v) ∷ rows) rising = value_cases q j v rows (is_eq (cmp j q)) refl (value_at-values q rows rising.1)
  value_at-values q ((j, None) ∷ rows) rising = tombstone_cases q j rows (is_eq (cmp j q)) refl rising.0 (value_at-values q rows rising.1)

  -- what says of each key what the tables say, is what they say together
  pub is_combined : (lists : List (List (K × Option V))) (out : List (K × Option V)) → IsRising cmp out → ((k : K) → value_at cmp k out ≡ first_at cmp k lists) → out ≡ combined cmp lists
  is_combined lists out rising h = rows_ext cmp o exact out (combined cmp lists) rising (IsRising-combined cmp o exact lists) (λ k. h k ∙ sym (value_at-combined cmp o exact k lists))

  pub is_content : (lists : List (List (K × Option V))) (out : List (K × Option V)) → IsRising cmp out → ((k : K) → value_at cmp k out ≡ value_only (first_at cmp k lists)) → out ≡ rows_with (values_of (combined cmp lists))
  is_content lists out rising h =
      rows_ext cmp o exact out (rows_with (values_of (combined cmp lists))) rising (IsRising-values (combined cmp lists) (IsRising-combined cmp o exact lists))
      (λ k. h k ∙ sym (value_at-values k (combined cmp lists) (IsRising-combined cmp o exact lists) ∙ ap value_only (value_at-combined cmp o exact k lists)))

  -- pairs and the rows that they are
  AllAfter-pairs : (k : K) (pairs : List (K × V)) → AllAfter cmp k (rows_with pairs) → AllAfter cmp k pairs
  AllAfter-pairs k [] a = tt
  AllAfter-pairs k ((j, v) ∷ pairs) a = (a.0, AllAfter-pairs k pairs a.1)

  IsRising-pairs : (pairs : List (K × V)) → IsRising cmp (rows_with pairs) → IsRising cmp pairs
  IsRising-pairs [] rising = tt
  IsRising-pairs ((j, v) ∷ pairs) rising = (AllAfter-pairs j pairs rising.0, IsRising-pairs pairs rising.1)

  pair_cases : (q j : K) (v : V) (pairs : List (K × V)) (t : Bool) → is_eq (cmp j q) ≡ t → option_flatten (value_at cmp q (rows_with pairs)) ≡ value_at cmp q pairs
      → option_flatten (value_at cmp q ((j, Some v) ∷ rows_with pairs)) ≡ value_at cmp q ((j, v) ∷ pairs)
  pair_cases q j v pairs true e ih = ap option_flatten (value_at-here cmp o q (j, Some v) (rows_with pairs) e) ∙ sym (value_at-here cmp o q (j, v) pairs e)
  pair_cases q j v pairs false e ih = ap option_flatten (value_at-there cmp o q (j, Some v) (rows_with pairs) e) ∙ ih ∙ sym (value_at-there cmp o q (j, v) pairs e)

  value_at-pairs : (q : K) (pairs : List (K × V)) → option_flatten (value_at cmp q (rows_with pairs)) ≡ value_at cmp q pairs
  value_at-pairs q [] = refl
  value_at-pairs q ((j, v) ∷ pairs) = pair_cases q j v pairs (is_eq (cmp j q)) refl (value_at-pairs q pairs)

  flatten-value_only : (entry : Option (Option V)) → option_flatten (value_only entry) ≡ option_flatten entry
  flatten-value_only None = refl
  flatten-value_only (Some None) = refl
  flatten-value_only (Some (Some v)) = refl

  -- what tables say together, as pairs
  pub content_rises : (lists : List (List (K × Option V))) → IsRising cmp (values_of (combined cmp lists))
  content_rises lists = IsRising-pairs (values_of (combined cmp lists)) (IsRising-values (combined cmp lists) (IsRising-combined cmp o exact lists))

  pub content_has : (lists : List (List (K × Option V))) (q : K) → value_at cmp q (values_of (combined cmp lists)) ≡ option_flatten (first_at cmp q lists)
  content_has lists q =
      sym (value_at-pairs q (values_of (combined cmp lists)))
      ∙ ap option_flatten (value_at-values q (combined cmp lists) (IsRising-combined cmp o exact lists))
      ∙ flatten-value_only (value_at cmp q (combined cmp lists))
      ∙ ap option_flatten (value_at-combined cmp o exact q lists)
