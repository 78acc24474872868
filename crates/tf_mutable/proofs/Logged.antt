-- Rows that came in any order, with no key twice, and what they mean in key order.
use Rattle.std.proofs.Common.{◌≡◌, ℕ, zero, suc, ◌+◌, ◌<◌, ◌≤◌, List, [], ◌∷◌, ◌++◌, length, take, drop, get_or, set, length-append, Option, Some, None, Bool, true, false, cond, refl, sym, ◌∙◌, ap, subst, arith}
use Rattle.std.specs.Cmp.{IsTotalOrder}
use Rattle.std.specs.List.{filter, slice_get}
use Rattle.std.specs.Option.{option_map}
use Rattle.std.specs.Ordering.{is_lt, is_eq, is_gt}
use Rattle.std.specs.declared.cmp.Ordering.{Ordering}
use Rattle.std.specs.declared.cmp.Ordering.TheVariants.{Less, Equal, Greater}
use Rattle.std.proofs.lemmas.Bool.{cond-true, cond-false}
use Rattle.std.proofs.lemmas.Cmp.{tied_itself}
use Rattle.std.proofs.lemmas.List.{set_split, take-append-drop, drop_more}
use Rattle.std.proofs.lemmas.List.Elements.{filter-append}
use Rattle.std.proofs.lemmas.Map.Lookups.{CmpEqualImpliesEq}
use Rattle.std.proofs.lemmas.Option.{none-some, same_Some}
use Rattle.tf_sorted.specs.Rows.{AllAfter, IsRising, rows_below, rows_above, with_row, without_row, value_at}
use Rattle.tf_table.specs.Content.{first_some, overlaid}
use Rattle.tf_table.specs.declared.key.Key.{Key}
use Rattle.tf_table.specs.Key.{key_cmp}
use Rattle.tf_table.specs.First.{IsFirstAbove}
use Rattle.tf_table.proofs.First.{first_same}
use Rattle.tf_mutable.specs.Mutable.{given_back, in_order}
use Rattle.tf_table.proofs.Keys.{keys_total, exact_keys}
use Rattle.tf_table.proofs.Rising.{equal_from, greater_back, less_back, value_at-here, value_at-there, value_at-append}
use Rattle.tf_table.proofs.Determined.{first_some-none, ordering_cases, rows_ext, value_at-filter, value_at-with_row, IsRising-with_row, value_at-overlaid, IsRising-overlaid}

-- the first element
abbrev first_of : {X : Type 0} → List X → Option X
first_of [] = None
first_of (x ∷ xs) = Some x

none_from_short : {X : Type 0} (xs : List X) → length xs ≤ 0 → xs ≡ []
none_from_short [] l = refl
none_from_short (x ∷ xs) l = absurd (omega arith)

cut_cases : (a : Ordering) (n l e g : ℕ) → l + e + g ≡ n → cond (is_lt a) (suc l) l + cond (is_eq a) (suc e) e + cond (is_gt a) (suc g) g ≡ suc n
cut_cases Less n l e g h = omega arith
cut_cases Equal n l e g h = omega arith
cut_cases Greater n l e g h = omega arith

-- a list to which one is pushed has one
pub some_pushed : {X : Type 0} (xs : List X) (x : X) → xs ++ x ∷ [] ≡ [] → ⊥
some_pushed xs x e = let n : length xs + 1 ≡ 0 = sym (length-append xs (x ∷ [])) ∙ ap length e in omega (arith, n)

-- and so has one in which an element is set
pub some_put : {X : Type 0} (xs : List X) (i : ℕ) (x : X) → i < length xs → set xs i x ≡ [] → ⊥
some_put [] i x l e = omega (arith, l)
some_put (y ∷ xs) zero x l e = let n : length (x ∷ xs) ≡ 0 = ap length e in omega (arith, n)
some_put (y ∷ xs) (suc i) x l e = let n : length (y ∷ set xs i x) ≡ 0 = ap length e in omega (arith, n)

-- a list round one of its elements
pub round : {X : Type 0} (xs : List X) (i : ℕ) (d : X) → i < length xs → xs ≡ take i xs ++ get_or xs i d ∷ drop (i + 1) xs
round xs i d l = sym (take-append-drop i xs) ∙ ap (λ ys. take i xs ++ ys) (drop_more xs i d l)

module _ {K E : Type 0} (cmp : K → K → Ordering) (o : IsTotalOrder cmp) (exact : CmpEqualImpliesEq cmp) where
  abbrev pub of_key : K → List (K × E) → List (K × E)
  of_key key rows = filter (λ (r : K × E). is_eq (cmp r.0 key)) rows

  -- no key comes twice
  abbrev pub Once : List (K × E) → Type 0
  Once rows = (key : K) → length (of_key key rows) ≤ 1

  value_at-of_key_cases : (key : K) (r : K × E) (rows : List (K × E)) (b : Bool) → is_eq (cmp r.0 key) ≡ b → value_at cmp key rows ≡ option_map (λ (s : K × E). s.1) (first_of (of_key key rows))
      → value_at cmp key (r ∷ rows) ≡ option_map (λ (s : K × E). s.1) (first_of (cond b (r ∷ of_key key rows) (of_key key rows)))
  value_at-of_key_cases key r rows true e ih = value_at-here cmp o key r rows e
  value_at-of_key_cases key r rows false e ih = value_at-there cmp o key r rows e ∙ ih

  -- the entry of a key is that of the first row that has it
  value_at-of_key : (key : K) (rows : List (K × E)) → value_at cmp key rows ≡ option_map (λ (s : K × E). s.1) (first_of (of_key key rows))
  value_at-of_key key [] = refl
  value_at-of_key key (r ∷ rows) =
      value_at-of_key_cases key r rows (is_eq (cmp r.0 key)) refl (value_at-of_key key rows)

  pub same_values : (xs ys : List (K × E)) (key : K) → of_key key xs ≡ of_key key ys → value_at cmp key xs ≡ value_at cmp key ys
  same_values xs ys key e = value_at-of_key key xs ∙ ap (λ (rs : List (K × E)). option_map (λ (s : K × E). s.1) (first_of rs)) e ∙ sym (value_at-of_key key ys)

  of_key-none : (key : K) (rows : List (K × E)) → value_at cmp key rows ≡ None → of_key key rows ≡ []
  of_key-none key rows e = none_from (of_key key rows) (sym (value_at-of_key key rows) ∙ e) where
    none_from : (rs : List (K × E)) → option_map (λ (s : K × E). s.1) (first_of rs) ≡ None → rs ≡ []
    none_from [] e = refl
    none_from (r ∷ rs) e = absurd (none-some r.1 (sym e))

  pub value_at-none : (key : K) (rows : List (K × E)) → of_key key rows ≡ [] → value_at cmp key rows ≡ None
  value_at-none key rows e = same_values rows [] key e

  -- rows in key order
  pub value_at-in_order : (key : K) (rows : List (K × E)) → value_at cmp key (overlaid cmp rows []) ≡ value_at cmp key rows
  value_at-in_order key rows = value_at-overlaid cmp o exact key rows [] ∙ first_some-none (value_at cmp key rows)

  pub rising-in_order : (rows : List (K × E)) → IsRising cmp (overlaid cmp rows [])
  rising-in_order rows = IsRising-overlaid cmp o exact rows [] tt

  -- what rises and has the same entries
  pub in_order-is : (rows ys : List (K × E)) → IsRising cmp ys → ((key : K) → value_at cmp key ys ≡ value_at cmp key rows) → overlaid cmp rows [] ≡ ys
  in_order-is rows ys rising h = rows_ext cmp o exact (overlaid cmp rows []) ys (rising-in_order rows) rising (λ key. value_at-in_order key rows ∙ sym (h key))

  pub in_order-rising : (rows : List (K × E)) → IsRising cmp rows → overlaid cmp rows [] ≡ rows
  in_order-rising rows rising = in_order-is rows rows rising (λ key. refl)

  -- a list with fewer rows of a key
  head_cases : (key : K) (r : K × E) (rows : List (K × E)) (P : List (K × E) → Type 0) → (is_eq (cmp r.0 key) ≡ true → P (r ∷ of_key key rows)) → (is_eq (cmp r.0 key) ≡ false → P (of_key key rows)) → P (of_key key (r ∷ rows))
  head_cases key r rows P t f = by_test (is_eq (cmp r.0 key)) refl where
    by_test : (b : Bool) → is_eq (cmp r.0 key) ≡ b → P (cond b (r ∷ of_key key rows) (of_key key rows))
    by_test true e = t e
    by_test false e = f e

  of_key-own : (r : K × E) (rows : List (K × E)) → of_key r.0 (r ∷ rows) ≡ r ∷ of_key r.0 rows
  of_key-own r rows = cond-true (is_eq (cmp r.0 r.0)) _ _ (ap is_eq (tied_itself o r.0))

  pub once-rest : (r : K × E) (rows : List (K × E)) → Once (r ∷ rows) → Once rows
  once-rest r rows once key =
      let more : length (of_key key rows) ≤ length (of_key key (r ∷ rows)) = head_cases key r rows (λ rs. length (of_key key rows) ≤ length rs) (λ _. omega arith) (λ _. omega arith) in
      omega (arith, more, once key)

  pub once-first : (r : K × E) (rows : List (K × E)) → Once (r ∷ rows) → of_key r.0 rows ≡ []
  once-first r rows once = none_from_short (of_key r.0 rows) (omega (arith, ap length (of_key-own r rows), once r.0))

  -- how many rows a key cuts apart
  length-cond : (b : Bool) (r : K × E) (rows : List (K × E)) → length (cond b (r ∷ rows) rows) ≡ cond b (suc (length rows)) (length rows)
  length-cond true r rows = refl
  length-cond false r rows = refl

  length-cut : (key : K) (rows : List (K × E)) → length (rows_below cmp key rows) + length (of_key key rows) + length (rows_above cmp key rows) ≡ length rows
  length-cut key [] = refl
  length-cut key (r ∷ rows) =
      let l = length-cond (is_lt (cmp r.0 key)) r (rows_below cmp key rows) in
      let e = length-cond (is_eq (cmp r.0 key)) r (of_key key rows) in
      let g = length-cond (is_gt (cmp r.0 key)) r (rows_above cmp key rows) in
      let all = cut_cases (cmp r.0 key) (length rows) (length (rows_below cmp key rows)) (length (of_key key rows)) (length (rows_above cmp key rows)) (length-cut key rows) in
      omega (arith, l, e, g, all)

  length-with_row : (key : K) (entry : E) (rows : List (K × E)) → value_at cmp key rows ≡ None → length (with_row cmp key entry rows) ≡ suc (length rows)
  length-with_row key entry rows e =
      omega (arith, length-append (rows_below cmp key rows) ((key, entry) ∷ rows_above cmp key rows), length-cut key rows, ap length (of_key-none key rows e))

  pub length-in_order : (rows : List (K × E)) → Once rows → length (overlaid cmp rows []) ≡ length rows
  length-in_order [] once = refl
  length-in_order (r ∷ rows) once =
      length-with_row r.0 r.1 (overlaid cmp rows []) (value_at-in_order r.0 rows ∙ value_at-none r.0 rows (once-first r rows once)) ∙ ap suc (length-in_order rows (once-rest r rows once))

  -- one more row at the end
  value_at-one_cases : (key q : K) (entry : E) (rows : List (K × E)) (b : Bool) → is_eq (cmp key q) ≡ b → value_at cmp key rows ≡ None
      → cond (is_eq (cmp key q)) (Some entry) (value_at cmp q rows) ≡ first_some (value_at cmp q rows) (value_at cmp q ((key, entry) ∷ []))
  value_at-one_cases key q entry rows true e absent =
      let same : key ≡ q = exact key q (equal_from _ e) in
      let none : value_at cmp q rows ≡ None = ap (λ k. value_at cmp k rows) (sym same) ∙ absent in
      cond-true (is_eq (cmp key q)) _ _ e ∙ sym (ap (λ (v : Option E). first_some v (value_at cmp q ((key, entry) ∷ []))) none ∙ value_at-here cmp o q (key, entry) [] e)
  value_at-one_cases key q entry rows false e absent =
      cond-false (is_eq (cmp key q)) _ _ e ∙ sym (ap (first_some (value_at cmp q rows)) (value_at-there cmp o q (key, entry) [] e) ∙ first_some-none (value_at cmp q rows))

  pub in_order-push : (rows : List (K × E)) (key : K) (entry : E) → value_at cmp key rows ≡ None → overlaid cmp (rows ++ (key, entry) ∷ []) [] ≡ with_row cmp key entry (overlaid cmp rows [])
  in_order-push rows key entry absent =
      in_order-is (rows ++ (key, entry) ∷ []) (with_row cmp key entry (overlaid cmp rows [])) (IsRising-with_row cmp o exact key entry (overlaid cmp rows []) (rising-in_order rows))
      (λ q. value_at-with_row cmp o exact key entry q (overlaid cmp rows []) ∙ ap (cond (is_eq (cmp key q)) (Some entry)) (value_at-in_order q rows)
      ∙ value_at-one_cases key q entry rows (is_eq (cmp key q)) refl absent ∙ sym (value_at-append cmp o q rows ((key, entry) ∷ [])))

  of_key-append : (key : K) (xs ys : List (K × E)) → length (of_key key (xs ++ ys)) ≡ length (of_key key xs) + length (of_key key ys)
  of_key-append key xs ys = ap length (filter-append (λ (r : K × E). is_eq (cmp r.0 key)) xs ys) ∙ length-append (of_key key xs) (of_key key ys)

  pub once-push : (rows : List (K × E)) (key : K) (entry : E) → value_at cmp key rows ≡ None → Once rows → Once (rows ++ (key, entry) ∷ [])
  once-push rows key entry absent once q =
      let parts = of_key-append q rows ((key, entry) ∷ []) in
      head_cases q (key, entry) [] (λ rs. length (of_key q (rows ++ (key, entry) ∷ [])) ≡ length (of_key q rows) + length rs → length (of_key q (rows ++ (key, entry) ∷ [])) ≤ 1)
      (λ t p.
      let same : key ≡ q = exact key q (equal_from _ t) in
      let none : of_key q rows ≡ [] = ap (λ k. of_key k rows) (sym same) ∙ of_key-none key rows absent in
      omega (arith, p, ap length none))
      (λ f p. omega (arith, p, once q)) parts

  -- the first ones of rows
  pub once-front : (A B : List (K × E)) → Once (A ++ B) → Once A
  once-front A B once q = omega (arith, of_key-append q A B, once q)

  -- round one row
  one_key : (q : K) (r s : K × E) (A : List (K × E)) → r.0 ≡ s.0 → length (of_key q (r ∷ A)) ≡ length (of_key q (s ∷ A))
  one_key q r s A e =
      length-cond (is_eq (cmp r.0 q)) r (of_key q A) ∙ ap (λ k. cond (is_eq (cmp k q)) (suc (length (of_key q A))) (length (of_key q A))) e ∙ sym (length-cond (is_eq (cmp s.0 q)) s (of_key q A))

  pub once-set : (A B : List (K × E)) (r s : K × E) → r.0 ≡ s.0 → Once (A ++ r ∷ B) → Once (A ++ s ∷ B)
  once-set A B r s e once q = omega (arith, of_key-append q A (r ∷ B), of_key-append q A (s ∷ B), one_key q r s B e, once q)

  pub once-remove : (A B : List (K × E)) (r : K × E) → Once (A ++ r ∷ B) → Once (A ++ B)
  once-remove A B r once q =
      let more : length (of_key q B) ≤ length (of_key q (r ∷ B)) = head_cases q r B (λ rs. length (of_key q B) ≤ length rs) (λ _. omega arith) (λ _. omega arith) in
      omega (arith, of_key-append q A (r ∷ B), of_key-append q A B, more, once q)

  once-before : (A B : List (K × E)) (r : K × E) → Once (A ++ r ∷ B) → of_key r.0 A ≡ []
  once-before A B r once = none_from_short (of_key r.0 A) (omega (arith, of_key-append r.0 A (r ∷ B), ap length (of_key-own r B), once r.0))

  pub absent-before : (A B : List (K × E)) (r : K × E) → Once (A ++ r ∷ B) → value_at cmp r.0 A ≡ None
  absent-before A B r once = value_at-none r.0 A (once-before A B r once)

  once-behind : (A B : List (K × E)) (r : K × E) → Once (A ++ r ∷ B) → of_key r.0 B ≡ []
  once-behind A B r once = none_from_short (of_key r.0 B) (omega (arith, of_key-append r.0 A (r ∷ B), ap length (of_key-own r B), once r.0))

  pub value_at-own : (A B : List (K × E)) (r : K × E) → Once (A ++ r ∷ B) → value_at cmp r.0 (A ++ r ∷ B) ≡ Some r.1
  value_at-own A B r once =
      value_at-append cmp o r.0 A (r ∷ B) ∙ ap (λ (v : Option E). first_some v (value_at cmp r.0 (r ∷ B))) (value_at-none r.0 A (once-before A B r once)) ∙ value_at-here cmp o r.0 r B (ap is_eq (tied_itself o r.0))

  AllAfter-parts : (k : K) (A B : List (K × E)) (r : K × E) → AllAfter cmp k (A ++ r ∷ B) → AllAfter cmp k (A ++ B)
  AllAfter-parts k [] B r a = a.1
  AllAfter-parts k (x ∷ A) B r a = (a.0, AllAfter-parts k A B r a.1)

  pub rising-remove : (A B : List (K × E)) (r : K × E) → IsRising cmp (A ++ r ∷ B) → IsRising cmp (A ++ B)
  rising-remove [] B r rising = rising.1
  rising-remove (x ∷ A) B r rising = (AllAfter-parts x.0 A B r rising.0, rising-remove A B r rising.1)

  AllAfter-set : (k : K) (A B : List (K × E)) (r s : K × E) → r.0 ≡ s.0 → AllAfter cmp k (A ++ r ∷ B) → AllAfter cmp k (A ++ s ∷ B)
  AllAfter-set k [] B r s e a = (ap (cmp k) (sym e) ∙ a.0, a.1)
  AllAfter-set k (x ∷ A) B r s e a = (a.0, AllAfter-set k A B r s e a.1)

  pub rising-set : (A B : List (K × E)) (r s : K × E) → r.0 ≡ s.0 → IsRising cmp (A ++ r ∷ B) → IsRising cmp (A ++ s ∷ B)
  rising-set [] B r s e rising = (subst (λ k. AllAfter cmp k B) e rising.0, rising.1)
  rising-set (x ∷ A) B r s e rising = (AllAfter-set x.0 A B r s e rising.0, rising-set A B r s e rising.1)

  -- a row without its key
  pub value_at-without_row : (key q : K) (rows : List (K × E)) → value_at cmp q (without_row cmp key rows) ≡ cond (is_eq (cmp key q)) None (value_at cmp q rows)
  value_at-without_row key q rows =
      value_at-append cmp o q (rows_below cmp key rows) (rows_above cmp key rows)
      ∙ ap (λ (v : Option E). first_some v (value_at cmp q (rows_above cmp key rows))) (value_at-filter cmp o exact (λ k. is_lt (cmp k key)) q rows)
      ∙ ap (first_some (cond (is_lt (cmp q key)) (value_at cmp q rows) None)) (value_at-filter cmp o exact (λ k. is_gt (cmp k key)) q rows)
      ∙ parts (value_at cmp q rows) where
        parts : (v : Option E) → first_some (cond (is_lt (cmp q key)) v None) (cond (is_gt (cmp q key)) v None) ≡ cond (is_eq (cmp key q)) None v
        parts v = ordering_cases (cmp q key)
            (λ l. ap (λ a. first_some (cond (is_lt a) v None) (cond (is_gt a) v None)) l ∙ first_some-none v ∙ sym (ap (λ a. cond (is_eq a) None v) (greater_back cmp o q key l)))
            (λ e. ap (λ a. first_some (cond (is_lt a) v None) (cond (is_gt a) v None)) e ∙ sym (ap (λ k. cond (is_eq (cmp key k)) None v) (exact q key e) ∙ ap (λ a. cond (is_eq a) None v) (tied_itself o key)))
            (λ h. ap (λ a. first_some (cond (is_lt a) v None) (cond (is_gt a) v None)) h ∙ sym (ap (λ a. cond (is_eq a) None v) (less_back cmp o q key h)))

  without_cases : (A B : List (K × E)) (r : K × E) (q : K) (b : Bool) → is_eq (cmp r.0 q) ≡ b → Once (A ++ r ∷ B) → cond (is_eq (cmp r.0 q)) None (value_at cmp q (A ++ r ∷ B)) ≡ value_at cmp q (A ++ B)
  without_cases A B r q true e once =
      let same : r.0 ≡ q = exact r.0 q (equal_from _ e) in
      let none : value_at cmp r.0 (A ++ B) ≡ None =
      value_at-append cmp o r.0 A B ∙ ap (λ (v : Option E). first_some v (value_at cmp r.0 B)) (value_at-none r.0 A (once-before A B r once)) ∙ value_at-none r.0 B (once-behind A B r once) in
      cond-true (is_eq (cmp r.0 q)) _ _ e ∙ sym (ap (λ k. value_at cmp k (A ++ B)) (sym same) ∙ none)
  without_cases A B r q false e once =
      cond-false (is_eq (cmp r.0 q)) _ _ e ∙ value_at-append cmp o q A (r ∷ B) ∙ ap (first_some (value_at cmp q A)) (value_at-there cmp o q r B e) ∙ sym (value_at-append cmp o q A B)

  -- with the row of the key between them they rise, so they do without it
  pub IsRising-without_row : (key : K) (entry : E) (rows : List (K × E)) → IsRising cmp rows → IsRising cmp (without_row cmp key rows)
  IsRising-without_row key entry rows rising = rising-remove (rows_below cmp key rows) (rows_above cmp key rows) (key, entry) (IsRising-with_row cmp o exact key entry rows rising)

  pub in_order-remove : (A B : List (K × E)) (r : K × E) → Once (A ++ r ∷ B) → overlaid cmp (A ++ B) [] ≡ without_row cmp r.0 (overlaid cmp (A ++ r ∷ B) [])
  in_order-remove A B r once =
      let all = overlaid cmp (A ++ r ∷ B) [] in
      in_order-is (A ++ B) (without_row cmp r.0 all) (IsRising-without_row r.0 r.1 all (rising-in_order (A ++ r ∷ B)))
      (λ q. value_at-without_row r.0 q all ∙ ap (cond (is_eq (cmp r.0 q)) None) (value_at-in_order q (A ++ r ∷ B)) ∙ without_cases A B r q (is_eq (cmp r.0 q)) refl once)

  set_cases : (A B : List (K × E)) (r s : K × E) (q : K) (b : Bool) → is_eq (cmp s.0 q) ≡ b → r.0 ≡ s.0 → Once (A ++ s ∷ B) → cond (is_eq (cmp s.0 q)) (Some s.1) (value_at cmp q (A ++ r ∷ B)) ≡ value_at cmp q (A ++ s ∷ B)
  set_cases A B r s q true e same once =
      let k : s.0 ≡ q = exact s.0 q (equal_from _ e) in
      cond-true (is_eq (cmp s.0 q)) _ _ e ∙ sym (ap (λ x. value_at cmp x (A ++ s ∷ B)) (sym k) ∙ value_at-own A B s once)
  set_cases A B r s q false e same once =
      let e' : is_eq (cmp r.0 q) ≡ false = ap (λ k. is_eq (cmp k q)) same ∙ e in
      cond-false (is_eq (cmp s.0 q)) _ _ e ∙ value_at-append cmp o q A (r ∷ B) ∙ ap (first_some (value_at cmp q A)) (value_at-there cmp o q r B e' ∙ sym (value_at-there cmp o q s B e)) ∙ sym (value_at-append cmp o q A (s ∷ B))

  pub in_order-set : (A B : List (K × E)) (r s : K × E) → r.0 ≡ s.0 → Once (A ++ r ∷ B) → overlaid cmp (A ++ s ∷ B) [] ≡ with_row cmp s.0 s.1 (overlaid cmp (A ++ r ∷ B) [])
  in_order-set A B r s same once =
      let all = overlaid cmp (A ++ r ∷ B) [] in
      in_order-is (A ++ s ∷ B) (with_row cmp s.0 s.1 all) (IsRising-with_row cmp o exact s.0 s.1 all (rising-in_order (A ++ r ∷ B)))
      (λ q. value_at-with_row cmp o exact s.0 s.1 q all ∙ ap (cond (is_eq (cmp s.0 q)) (Some s.1)) (value_at-in_order q (A ++ r ∷ B)) ∙ set_cases A B r s q (is_eq (cmp s.0 q)) refl same (once-set A B r s same once))

  -- what was put is taken back
  back_cases : (key q : K) (entry : E) (rows : List (K × E)) (b : Bool) → is_eq (cmp key q) ≡ b → value_at cmp key rows ≡ None → cond (is_eq (cmp key q)) None (cond (is_eq (cmp key q)) (Some entry) (value_at cmp q rows)) ≡ value_at cmp q rows
  back_cases key q entry rows true e absent =
      cond-true (is_eq (cmp key q)) _ _ e ∙ sym (ap (λ k. value_at cmp k rows) (sym (exact key q (equal_from _ e))) ∙ absent)
  back_cases key q entry rows false e absent = cond-false (is_eq (cmp key q)) _ _ e ∙ cond-false (is_eq (cmp key q)) _ _ e

  pub without-with : (key : K) (entry : E) (rows : List (K × E)) → IsRising cmp rows → value_at cmp key rows ≡ None → without_row cmp key (with_row cmp key entry rows) ≡ rows
  without-with key entry rows rising absent =
      let more = with_row cmp key entry rows in
      rows_ext cmp o exact (without_row cmp key more) rows (IsRising-without_row key entry more (IsRising-with_row cmp o exact key entry rows rising)) rising
      (λ q. value_at-without_row key q more ∙ ap (cond (is_eq (cmp key q)) None) (value_at-with_row cmp o exact key entry q rows) ∙ back_cases key q entry rows (is_eq (cmp key q)) refl absent)

  again_cases : (key q : K) (entry old : E) (rows : List (K × E)) (b : Bool) → is_eq (cmp key q) ≡ b → value_at cmp key rows ≡ Some old → cond (is_eq (cmp key q)) (Some old) (cond (is_eq (cmp key q)) (Some entry) (value_at cmp q rows)) ≡ value_at cmp q rows
  again_cases key q entry old rows true e there =
      cond-true (is_eq (cmp key q)) _ _ e ∙ sym (ap (λ k. value_at cmp k rows) (sym (exact key q (equal_from _ e))) ∙ there)
  again_cases key q entry old rows false e there = cond-false (is_eq (cmp key q)) _ _ e ∙ cond-false (is_eq (cmp key q)) _ _ e

  pub with-with : (key : K) (entry old : E) (rows : List (K × E)) → IsRising cmp rows → value_at cmp key rows ≡ Some old → with_row cmp key old (with_row cmp key entry rows) ≡ rows
  with-with key entry old rows rising there =
      let more = with_row cmp key entry rows in
      rows_ext cmp o exact (with_row cmp key old more) rows (IsRising-with_row cmp o exact key old more (IsRising-with_row cmp o exact key entry rows rising)) rising
      (λ q. value_at-with_row cmp o exact key old q more ∙ ap (cond (is_eq (cmp key q)) (Some old)) (value_at-with_row cmp o exact key entry q rows) ∙ again_cases key q entry old rows (is_eq (cmp key q)) refl there)

  -- the row at the place of a key
  pub found_within : (rows : List (K × E)) (p : ℕ) (key : K) → option_map (λ (r : K × E). r.0) (slice_get rows p) ≡ Some key → p < length rows
  found_within [] p key f = absurd (none-some key f)
  found_within (r ∷ rows) zero key f = omega arith
  found_within (r ∷ rows) (suc p) key f = omega (arith, found_within rows p key f)

  pub found_key : (rows : List (K × E)) (p : ℕ) (key : K) (d : K × E) → option_map (λ (r : K × E). r.0) (slice_get rows p) ≡ Some key → (get_or rows p d).0 ≡ key
  found_key [] p key d f = absurd (none-some key f)
  found_key (r ∷ rows) zero key d f = same_Some r.0 key f
  found_key (r ∷ rows) (suc p) key d f = found_key rows p key d f

  pub value_at-found : (rows : List (K × E)) (p : ℕ) (key : K) (r : K × E) → option_map (λ (s : K × E). s.0) (slice_get rows p) ≡ Some key → r ≡ get_or rows p r → Once rows → value_at cmp key rows ≡ Some r.1
  value_at-found rows p key r f same once =
      let within = found_within rows p key f in
      let there : rows ≡ take p rows ++ r ∷ drop (p + 1) rows = round rows p r within ∙ ap (λ (s : K × E). take p rows ++ s ∷ drop (p + 1) rows) (sym same) in
      let own : r.0 ≡ key = ap (λ (s : K × E). s.0) same ∙ found_key rows p key r f in
      ap (λ k. value_at cmp k rows) (sym own) ∙ ap (value_at cmp r.0) there ∙ value_at-own (take p rows) (drop (p + 1) rows) r (subst Once there once)

  -- the rows without the one at the place of a key, or with another entry there
  module _ (rows : List (K × E)) (p : ℕ) (key : K) (d : K × E) (found : option_map (λ (s : K × E). s.0) (slice_get rows p) ≡ Some key) (once : Once rows) where
    there : rows ≡ take p rows ++ get_or rows p d ∷ drop (p + 1) rows
    there = round rows p d (found_within rows p key found)

    own : (get_or rows p d).0 ≡ key
    own = found_key rows p key d found

    pub once-removed : Once (take p rows ++ drop (p + 1) rows)
    once-removed = once-remove (take p rows) (drop (p + 1) rows) (get_or rows p d) (subst Once there once)

    pub rising-removed : IsRising cmp rows → IsRising cmp (take p rows ++ drop (p + 1) rows)
    rising-removed rising = rising-remove (take p rows) (drop (p + 1) rows) (get_or rows p d) (subst (IsRising cmp) there rising)

    pub in_order-removed : overlaid cmp (take p rows ++ drop (p + 1) rows) [] ≡ without_row cmp key (overlaid cmp rows [])
    in_order-removed =
        in_order-remove (take p rows) (drop (p + 1) rows) (get_or rows p d) (subst Once there once)
        ∙ ap (λ k. without_row cmp k (overlaid cmp (take p rows ++ get_or rows p d ∷ drop (p + 1) rows) [])) own ∙ ap (λ (rs : List (K × E)). without_row cmp key (overlaid cmp rs [])) (sym there)

    put_there : (e : E) → set rows p (key, e) ≡ take p rows ++ (key, e) ∷ drop (p + 1) rows
    put_there e =
        let next : suc p ≡ p + 1 = omega arith in
        set_split rows p (key, e) (found_within rows p key found) ∙ ap (λ n. take p rows ++ (key, e) ∷ drop n rows) next

    pub once-put : (e : E) → Once (set rows p (key, e))
    once-put e = subst Once (sym (put_there e)) (once-set (take p rows) (drop (p + 1) rows) (get_or rows p d) (key, e) own (subst Once there once))

    pub rising-put : (e : E) → IsRising cmp rows → IsRising cmp (set rows p (key, e))
    rising-put e rising = subst (IsRising cmp) (sym (put_there e)) (rising-set (take p rows) (drop (p + 1) rows) (get_or rows p d) (key, e) own (subst (IsRising cmp) there rising))

    pub in_order-put : (e : E) → overlaid cmp (set rows p (key, e)) [] ≡ with_row cmp key e (overlaid cmp rows [])
    in_order-put e =
        ap (λ (rs : List (K × E)). overlaid cmp rs []) (put_there e)
        ∙ in_order-set (take p rows) (drop (p + 1) rows) (get_or rows p d) (key, e) own (subst Once there once) ∙ ap (λ (rs : List (K × E)). with_row cmp key e (overlaid cmp rs [])) (sym there)

-- what was put is given back
pub given_back-is : {E : Type 0} (key : Key) (entry : E) (before : Option E) (earlier : List (Key × E)) → IsRising key_cmp earlier → before ≡ value_at key_cmp key earlier → given_back key before (with_row key_cmp key entry earlier) ≡ earlier
given_back-is key entry None earlier rising before = without-with key_cmp keys_total exact_keys key entry earlier rising (sym before)
given_back-is key entry (Some old) earlier rising before = with-with key_cmp keys_total exact_keys key entry old earlier rising (sym before)

-- the first key above another is what it is of the rows in key order
pub first_in_order : {E : Type 0} (below : Key) (rows now : List (Key × E)) (found : Option Key) → in_order rows ≡ now → IsFirstAbove below (λ key. value_at key_cmp key rows) found → IsFirstAbove below (λ key. value_at key_cmp key now) found
first_in_order below rows now found view h =
    first_same (λ key. key_cmp below key ≡ Less) (λ key. value_at key_cmp key rows) (λ key. value_at key_cmp key now) found
    (λ key above. sym (ap (value_at key_cmp key) view) ∙ value_at-in_order key_cmp keys_total exact_keys key rows) h
