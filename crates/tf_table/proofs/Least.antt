-- The row that a merge takes next, and what is left behind it.
use Rattle.std.proofs.Common.{◌≡◌, ℕ, zero, suc, ◌+◌, ◌<◌, ◌≤◌, List, [], ◌∷◌, length, drop, Option, Some, None, Bool, true, false, cond, refl, sym, ◌∙◌, ap, subst, arith}
use Rattle.std.specs.Cmp.{IsTotalOrder}
use Rattle.std.specs.List.{slice_get}
use Rattle.std.specs.Ordering.{is_lt, is_eq}
use Rattle.std.specs.declared.cmp.Ordering.{Ordering}
use Rattle.std.specs.declared.cmp.Ordering.TheVariants.{Less, Equal, Greater}
use Rattle.std.proofs.lemmas.Cmp.{tied_itself, alike_right}
use Rattle.std.proofs.lemmas.List.{drop-drop}
use Rattle.std.proofs.lemmas.Option.{same_Some, none-some}
use Rattle.tf_sorted.specs.Rows.{AllAfter, IsRising, value_at}
use Rattle.tf_table.specs.Content.{first_some, first_at}
use Rattle.tf_table.specs.Merge.{EachList, lesser, least_at, has_key, passed}
use Rattle.tf_table.proofs.Rising.{AllAfter-before, is_lt-not, less_from, equal_from, not_less_from, not_equal_from, greater_back, less_back, value_at-here, value_at-there, value_at-after}

-- the rows from each place on
abbrev pub left_of : {X : Type 0} → List (List X) → List ℕ → List (List X)
left_of [] places = []
left_of (rows ∷ lists) [] = []
left_of (rows ∷ lists) (place ∷ places) = drop place rows ∷ left_of lists places

pub EachList-map : {X : Type 0} (P Q : List X → Type 0) → ((rows : List X) → P rows → Q rows) → (lists : List (List X)) → EachList P lists → EachList Q lists
EachList-map P Q f [] a = tt
EachList-map P Q f (rows ∷ lists) a = (f rows a.0, EachList-map P Q f lists a.1)

slice_get-drop : {X : Type 0} (p : ℕ) (xs : List X) → slice_get (drop p xs) 0 ≡ slice_get xs p
slice_get-drop zero [] = refl
slice_get-drop zero (x ∷ xs) = refl
slice_get-drop (suc p) [] = refl
slice_get-drop (suc p) (x ∷ xs) = slice_get-drop p xs

-- the three ways of an order, as two of not below
by_order : {P : Type 0} (x : Ordering) → (x ≡ Less → P) → (x ≡ Equal → P) → (x ≡ Greater → P) → P
by_order Less l e g = l refl
by_order Equal l e g = e refl
by_order Greater l e g = g refl

module _ {K : Type 0} (cmp : K → K → Ordering) (o : IsTotalOrder cmp) where
  not_below_trans : (x y z : K) → is_lt (cmp x y) ≡ false → is_lt (cmp y z) ≡ false → is_lt (cmp x z) ≡ false
  not_below_trans x y z a b = is_lt-not (cmp x z) (λ less. by_order (cmp y z)
      (λ l. not_less_from (cmp y z) b l)
      (λ e. not_less_from (cmp x y) a (alike_right o y z x e ∙ less))
      (λ g. not_less_from (cmp x y) a (o.trans x z y less (less_back cmp o y z g))))

  tied_not_below : (x : K) → is_lt (cmp x x) ≡ false
  tied_not_below x = ap is_lt (tied_itself o x)

module _ {K E : Type 0} (cmp : K → K → Ordering) (o : IsTotalOrder cmp) where
  -- the row that comes first in the lists
  abbrev pub least_row : List (List (K × E)) → Option (K × E)
  least_row [] = None
  least_row (rows ∷ lists) = lesser cmp (slice_get rows 0) (least_row lists)

  pub least_at-row : (lists : List (List (K × E))) (places : List ℕ) → least_at cmp lists places ≡ least_row (left_of lists places)
  least_at-row [] places = refl
  least_at-row (rows ∷ lists) [] = refl
  least_at-row (rows ∷ lists) (place ∷ places) =
      ap (λ (r : Option (K × E)). lesser cmp r (least_at cmp lists places)) (sym (slice_get-drop place rows))
      ∙ ap (lesser cmp (slice_get (drop place rows) 0)) (least_at-row lists places)

  -- no row has a key below this one
  abbrev pub IsFrom : K → List (K × E) → Type 0
  IsFrom key [] = Unit {0}
  IsFrom key (r ∷ rows) = is_lt (cmp r.0 key) ≡ false

  IsFrom-below : (x y : K) → is_lt (cmp x y) ≡ false → (rows : List (K × E)) → IsFrom x rows → IsFrom y rows
  IsFrom-below x y n [] a = tt
  IsFrom-below x y n (r ∷ rows) a = not_below_trans cmp o r.0 x y a n

  -- nothing is left
  least_cons_some : (x : K × E) (older : Option (K × E)) → lesser cmp (Some x) older ≡ None → ⊥
  least_cons_some x None e = none-some x (sym e)
  least_cons_some x (Some s) e = least_cons_cond (is_lt (cmp s.0 x.0)) e where
    least_cons_cond : (b : Bool) → cond b (Some s) (Some x) ≡ None → ⊥
    least_cons_cond true e = none-some s (sym e)
    least_cons_cond false e = none-some x (sym e)

  pub least_none : (lists : List (List (K × E))) → least_row lists ≡ None → EachList (λ rows. rows ≡ []) lists
  least_none [] e = tt
  least_none ([] ∷ lists) e = (refl, least_none lists e)
  least_none ((x ∷ xs) ∷ lists) e = absurd (least_cons_some x (least_row lists) e)

  pub first_at-empty : (key : K) (lists : List (List (K × E))) → EachList (λ rows. rows ≡ []) lists → first_at cmp key lists ≡ None
  first_at-empty key [] a = refl
  first_at-empty key (rows ∷ lists) a = ap (λ (rs : List (K × E)). first_some (value_at cmp key rs) (first_at cmp key lists)) a.0 ∙ first_at-empty key lists a.1

  -- what the choice between two rows gives
  lesser_cases : (x : K × E) (older : Option (K × E)) (r : K × E) → lesser cmp (Some x) older ≡ Some r → (P : K × E → Type 0)
      → (older ≡ None → P x) → ((s : K × E) → older ≡ Some s → cmp s.0 x.0 ≡ Less → P s) → ((s : K × E) → older ≡ Some s → is_lt (cmp s.0 x.0) ≡ false → P x) → P r
  lesser_cases x None r e P none less more = subst P (same_Some x r e) (none refl)
  lesser_cases x (Some s) r e P none less more = by_test (is_lt (cmp s.0 x.0)) refl e where
    by_test : (b : Bool) → is_lt (cmp s.0 x.0) ≡ b → cond b (Some s) (Some x) ≡ Some r → P r
    by_test true t e = subst P (same_Some s r e) (less s refl (less_from _ t))
    by_test false t e = subst P (same_Some x r e) (more s refl t)

  -- no row is below the least one
  pub least_from : (lists : List (List (K × E))) (r : K × E) → least_row lists ≡ Some r → EachList (IsFrom r.0) lists
  least_from [] r e = tt
  least_from ([] ∷ lists) r e = (tt, least_from lists r e)
  least_from ((x ∷ xs) ∷ lists) r e =
      lesser_cases x (least_row lists) r e (λ q. (is_lt (cmp x.0 q.0) ≡ false) × EachList (IsFrom q.0) lists)
      (λ n. (tied_not_below cmp o x.0, EachList-map (λ rows. rows ≡ []) (IsFrom x.0) (λ rows empty. subst (IsFrom x.0) (sym empty) tt) lists (least_none lists n)))
      (λ s n l. (ap is_lt (greater_back cmp o s.0 x.0 l), least_from lists s n))
      (λ s n b. (tied_not_below cmp o x.0, EachList-map (IsFrom s.0) (IsFrom x.0) (IsFrom-below s.0 x.0 b) lists (least_from lists s n)))

  -- its entry is what the newest list has at its key
  pub least_entry : (lists : List (List (K × E))) (r : K × E) → EachList (IsRising cmp) lists → least_row lists ≡ Some r → first_at cmp r.0 lists ≡ Some r.1
  least_entry [] r rising e = absurd (none-some r e)
  least_entry ([] ∷ lists) r rising e = least_entry lists r rising.1 e
  least_entry ((x ∷ xs) ∷ lists) r rising e =
      let here : first_at cmp x.0 ((x ∷ xs) ∷ lists) ≡ Some x.1 = ap (λ (v : Option E). first_some v (first_at cmp x.0 lists)) (value_at-here cmp o x.0 x xs (ap is_eq (tied_itself o x.0))) in
      lesser_cases x (least_row lists) r e (λ q. first_at cmp q.0 ((x ∷ xs) ∷ lists) ≡ Some q.1)
      (λ n. here)
      (λ s n l.
      let g = greater_back cmp o s.0 x.0 l in
      let none = value_at-there cmp o s.0 x xs (ap is_eq g) ∙ value_at-after cmp o s.0 x.0 xs (ap is_lt g) rising.0.0 in
      ap (λ (v : Option E). first_some v (first_at cmp s.0 lists)) none ∙ least_entry lists s rising.1 n)
      (λ s n b. here)

  -- what is above all rows is above it
  pub least_after : (k : K) (lists : List (List (K × E))) (r : K × E) → EachList (AllAfter cmp k) lists → least_row lists ≡ Some r → cmp k r.0 ≡ Less
  least_after k [] r a e = absurd (none-some r e)
  least_after k ([] ∷ lists) r a e = least_after k lists r a.1 e
  least_after k ((x ∷ xs) ∷ lists) r a e =
      lesser_cases x (least_row lists) r e (λ q. cmp k q.0 ≡ Less) (λ n. a.0.0) (λ s n l. least_after k lists s a.1 n) (λ s n b. a.0.0)

  -- a list behind its first row, if that has the key
  abbrev pub behind : K → List (K × E) → List (K × E)
  behind key rows = cond (has_key cmp key (slice_get rows 0)) (drop 1 rows) rows

  abbrev pub behind_each : K → List (List (K × E)) → List (List (K × E))
  behind_each key [] = []
  behind_each key (rows ∷ lists) = behind key rows ∷ behind_each key lists

  drop-passed : (b : Bool) (place : ℕ) (rows : List (K × E)) → drop (cond b (place + 1) place) rows ≡ cond b (drop 1 (drop place rows)) (drop place rows)
  drop-passed true place rows = sym (drop-drop 1 place rows)
  drop-passed false place rows = refl

  pub left_of-passed : (key : K) (lists : List (List (K × E))) (places : List ℕ) → left_of lists (passed cmp key lists places) ≡ behind_each key (left_of lists places)
  left_of-passed key [] places = refl
  left_of-passed key (rows ∷ lists) [] = refl
  left_of-passed key (rows ∷ lists) (place ∷ places) =
      let first : drop (cond (has_key cmp key (slice_get rows place)) (place + 1) place) rows ≡ behind key (drop place rows) =
      drop-passed (has_key cmp key (slice_get rows place)) place rows
      ∙ ap (λ (r : Option (K × E)). cond (has_key cmp key r) (drop 1 (drop place rows)) (drop place rows)) (sym (slice_get-drop place rows)) in
      ap (λ (rs : List (K × E)). rs ∷ left_of lists (passed cmp key lists places)) first ∙ ap (λ (ls : List (List (K × E))). behind key (drop place rows) ∷ ls) (left_of-passed key lists places)

  -- by whether the first row has the key
  behind_cases : (key : K) (r : K × E) (rows : List (K × E)) (P : List (K × E) → Type 0) → (cmp r.0 key ≡ Equal → P rows) → (is_eq (cmp r.0 key) ≡ false → P (r ∷ rows)) → P (behind key (r ∷ rows))
  behind_cases key r rows P same other = by_test (is_eq (cmp r.0 key)) refl where
    by_test : (b : Bool) → is_eq (cmp r.0 key) ≡ b → P (cond b rows (r ∷ rows))
    by_test true t = same (equal_from _ t)
    by_test false t = other t

  AllAfter-alike : (x y : K) (rows : List (K × E)) → cmp x y ≡ Equal → AllAfter cmp x rows → AllAfter cmp y rows
  AllAfter-alike x y [] e a = tt
  AllAfter-alike x y (r ∷ rows) e a = (sym (o.congr x y r.0 e) ∙ a.0, AllAfter-alike x y rows e a.1)

  pub behind_after : (key : K) (rows : List (K × E)) → IsRising cmp rows → IsFrom key rows → AllAfter cmp key (behind key rows)
  behind_after key [] rising from = tt
  behind_after key (r ∷ rows) rising from =
      behind_cases key r rows (AllAfter cmp key)
      (λ e. AllAfter-alike r.0 key rows e rising.0)
      (λ n.
      let less : cmp key r.0 ≡ Less = by_order (cmp r.0 key) (λ l. absurd (not_less_from (cmp r.0 key) from l)) (λ e. absurd (not_equal_from (cmp r.0 key) n e)) (λ g. less_back cmp o r.0 key g) in
      (less, AllAfter-before cmp o key r.0 rows less rising.0))

  pub behind_value : (key k : K) (rows : List (K × E)) → is_eq (cmp key k) ≡ false → value_at cmp k (behind key rows) ≡ value_at cmp k rows
  behind_value key k [] n = refl
  behind_value key k (r ∷ rows) n =
      behind_cases key r rows (λ rs. value_at cmp k rs ≡ value_at cmp k (r ∷ rows))
      (λ e. sym (value_at-there cmp o k r rows (ap is_eq (o.congr r.0 key k e) ∙ n)))
      (λ _. refl)

  pub behind_rising : (key : K) (rows : List (K × E)) → IsRising cmp rows → IsRising cmp (behind key rows)
  behind_rising key [] rising = tt
  behind_rising key (r ∷ rows) rising = behind_cases key r rows (IsRising cmp) (λ _. rising.1) (λ _. rising)

  pub behind_still_after : (key k : K) (rows : List (K × E)) → AllAfter cmp k rows → AllAfter cmp k (behind key rows)
  behind_still_after key k [] a = tt
  behind_still_after key k (r ∷ rows) a = behind_cases key r rows (AllAfter cmp k) (λ _. a.1) (λ _. a)

  -- all lists, behind the key
  pub EachList-behind : (P Q : List (K × E) → Type 0) (key : K) → ((rows : List (K × E)) → P rows → Q (behind key rows)) → (lists : List (List (K × E))) → EachList P lists → EachList Q (behind_each key lists)
  EachList-behind P Q key f [] a = tt
  EachList-behind P Q key f (rows ∷ lists) a = (f rows a.0, EachList-behind P Q key f lists a.1)

  pub each_behind_after : (key : K) (lists : List (List (K × E))) → EachList (IsRising cmp) lists → EachList (IsFrom key) lists → EachList (AllAfter cmp key) (behind_each key lists)
  each_behind_after key [] rising from = tt
  each_behind_after key (rows ∷ lists) rising from = (behind_after key rows rising.0 from.0, each_behind_after key lists rising.1 from.1)

  pub first_at-after : (key : K) (lists : List (List (K × E))) → EachList (AllAfter cmp key) lists → first_at cmp key lists ≡ None
  first_at-after key [] a = refl
  first_at-after key (rows ∷ lists) a =
      ap (λ (v : Option E). first_some v (first_at cmp key lists)) (value_at-after cmp o key key rows (tied_not_below cmp o key) a.0) ∙ first_at-after key lists a.1

  pub first_at-behind : (key k : K) (lists : List (List (K × E))) → is_eq (cmp key k) ≡ false → first_at cmp k (behind_each key lists) ≡ first_at cmp k lists
  first_at-behind key k [] n = refl
  first_at-behind key k (rows ∷ lists) n =
      ap (λ (v : Option E). first_some v (first_at cmp k (behind_each key lists))) (behind_value key k rows n) ∙ ap (first_some (value_at cmp k rows)) (first_at-behind key k lists n)

  -- how many rows are left
  abbrev pub rows_left : List (List (K × E)) → ℕ
  rows_left [] = 0
  rows_left (rows ∷ lists) = length rows + rows_left lists

  behind_shorter : (key : K) (rows : List (K × E)) → length (behind key rows) ≤ length rows
  behind_shorter key [] = omega arith
  behind_shorter key (r ∷ rows) = behind_cases key r rows (λ rs. length rs ≤ suc (length rows)) (λ _. omega arith) (λ _. omega arith)

  behind_same_shorter : (r : K × E) (rows : List (K × E)) → length (behind r.0 (r ∷ rows)) < suc (length rows)
  behind_same_shorter r rows = behind_cases r.0 r rows (λ rs. length rs < suc (length rows)) (λ _. omega arith) (λ n. absurd (not_equal_from _ n (tied_itself o r.0)))

  rows_left-behind : (key : K) (lists : List (List (K × E))) → rows_left (behind_each key lists) ≤ rows_left lists
  rows_left-behind key [] = omega arith
  rows_left-behind key (rows ∷ lists) = omega (arith, behind_shorter key rows, rows_left-behind key lists)

  pub rows_left_fewer : (lists : List (List (K × E))) (r : K × E) → least_row lists ≡ Some r → rows_left (behind_each r.0 lists) < rows_left lists
  rows_left_fewer [] r e = absurd (none-some r e)
  rows_left_fewer ([] ∷ lists) r e = omega (arith, rows_left_fewer lists r e)
  rows_left_fewer ((x ∷ xs) ∷ lists) r e =
      lesser_cases x (least_row lists) r e (λ q. length (behind q.0 (x ∷ xs)) + rows_left (behind_each q.0 lists) < suc (length xs) + rows_left lists)
      (λ n. omega (arith, behind_same_shorter x xs, rows_left-behind x.0 lists))
      (λ s n l. omega (arith, behind_shorter s.0 (x ∷ xs), rows_left_fewer lists s n))
      (λ s n b. omega (arith, behind_same_shorter x xs, rows_left-behind x.0 lists))
