-- Rows in a hash table and the same rows in key order.
use Rattle.std.proofs.Common.{◌≡◌, suc, ◌≤◌, List, [], ◌∷◌, ◌++◌, length, append_assoc, append-nil, Option, Some, None, IsSome, Bool, true, false, cond, ◌&&◌, refl, sym, ◌∙◌, ap, subst, arith}
use Rattle.std.specs.Cmp.{unsigned_ties}
use Rattle.std.specs.List.{AllByRecursion, IsDistinct}
use Rattle.std.specs.Map.{keys_of, lookup}
use Rattle.std.specs.Option.{is_some}
use Rattle.std.specs.Ordering.{nat_cmp, ordering_then, ordering_reverse, is_eq, is_gt}
use Rattle.std.specs.Prelude.{◌==◌}
use Rattle.std.specs.declared.cmp.Ordering.{Ordering}
use Rattle.std.specs.declared.cmp.Ordering.TheVariants.{Less, Equal, Greater}
use Rattle.std.proofs.lemmas.Bool.{false≢true, cond-true, cond-false}
use Rattle.std.proofs.lemmas.Map.Keys.{IsDistinct-head, IsDistinct-tail}
use Rattle.tf_sorted.specs.Rows.{value_at, with_row, without_row}
use Rattle.tf_table.specs.declared.key.Key.{Key}
use Rattle.tf_table.specs.Key.{key_cmp}
use Rattle.tf_table.specs.First.{IsFirstAbove, lesser_key}
use Rattle.tf_table.proofs.Determined.{IsRising-with_row, value_at-with_row}
use Rattle.tf_table.proofs.First.{first_with_above, first_with_other}
use Rattle.tf_table.proofs.Keys.{exact_keys, key_itself, keys_total}
use Rattle.tf_table.proofs.Rising.{equal_from, value_at-here, value_at-there}
use Rattle.tf_mutable.specs.Mutable.{in_order, rows_of_key}
use Rattle.tf_mutable.proofs.Logged.{in_order-is, in_order-push, length-in_order, rising-in_order, value_at-in_order, without-with}
use Rattle.tf_mutable_rows.specs.Hashed.{key_of, keyed}
use Rattle.tf_mutable_rows.specs.declared.hashed.HashedKey.{HashedKey}
use Rattle.tf_mutable_rows.specs.contracts.hashed.HashedKeyPartialEq.TheImpl as block

-- a key, as a hash table has it
abbrev hashed_of : Key → HashedKey
hashed_of key = record { value = key.value; timestamp = key.timestamp }

-- whether a hash table has two keys for one
abbrev pub hashed_eq : HashedKey → HashedKey → Bool
hashed_eq = (block.ghosts).eq

both_equal : (a b : Ordering) → (is_eq a && is_eq b) ≡ is_eq (ordering_then a b)
both_equal Less b = refl
both_equal Equal b = refl
both_equal Greater b = refl

-- it has where they compare alike
pub equal_keys : (a b : HashedKey) → hashed_eq a b ≡ is_eq (key_cmp (key_of a) (key_of b))
equal_keys a b =
    ap (λ (e : Bool). e && (a.timestamp == b.timestamp)) (unsigned_ties a.value b.value)
    ∙ ap (λ (e : Bool). is_eq (nat_cmp a.value b.value) && e) (unsigned_ties a.timestamp b.timestamp)
    ∙ both_equal (nat_cmp a.value b.value) (nat_cmp a.timestamp b.timestamp)

is_eq-reverse : (o : Ordering) → is_eq (ordering_reverse o) ≡ is_eq o
is_eq-reverse Less = refl
is_eq-reverse Equal = refl
is_eq-reverse Greater = refl

turned : (a b : Key) → is_eq (key_cmp a b) ≡ is_eq (key_cmp b a)
turned a b = ap is_eq (keys_total.antisymm a b) ∙ is_eq-reverse (key_cmp b a)

some_of : {X : Type 0} (o : Option X) → IsSome o → (x : X) × (o ≡ Some x)
some_of None h = absurd (false≢true h)
some_of (Some x) h = (x, refl)

-- a key that is looked up and isn't there
pub there_not_none : {X : Type 0} (o : Option X) → IsSome o → o ≡ None → ⊥
there_not_none o there none = false≢true (sym (ap is_some none) ∙ there)

-- a walk over rows, one row further and at its end
module _ {R : Type 0} where
  pub walked : (seen : List R) (row : R) (left next all : List R) → left ≡ row ∷ next → seen ++ left ≡ all → (seen ++ row ∷ []) ++ next ≡ all
  walked seen row left next all step h = append_assoc seen (row ∷ []) next ∙ ap (λ (rows : List R). seen ++ rows) (sym step) ∙ h

  pub walked_all : (seen left all : List R) → left ≡ [] → seen ++ left ≡ all → seen ≡ all
  walked_all seen left all none h = sym (append-nil seen) ∙ ap (λ (rows : List R). seen ++ rows) (sym none) ∙ h

module _ (eq : HashedKey → HashedKey → Bool) (is : (a b : HashedKey) → eq a b ≡ is_eq (key_cmp (key_of a) (key_of b))) where
  same_key : (a b : HashedKey) → eq a b ≡ true → a ≡ b
  same_key a b e = ap hashed_of (exact_keys (key_of a) (key_of b) (equal_from _ (sym (is a b) ∙ e)))

  itself : (a : HashedKey) → eq a a ≡ true
  itself a = is a a ∙ ap is_eq (key_itself (key_of a))

module _ {E : Type 0} where
  keyed-append : (xs ys : List (HashedKey × E)) → keyed (xs ++ ys) ≡ keyed xs ++ keyed ys
  keyed-append [] ys = refl
  keyed-append (row ∷ xs) ys = ap (λ (rows : List (Key × E)). (key_of row.0, row.1) ∷ rows) (keyed-append xs ys)

  keyed_length : (rows : List (HashedKey × E)) → length (keyed rows) ≡ length rows
  keyed_length [] = refl
  keyed_length (row ∷ rows) = ap suc (keyed_length rows)

  module _ (eq : HashedKey → HashedKey → Bool) (is : (a b : HashedKey) → eq a b ≡ is_eq (key_cmp (key_of a) (key_of b))) where
    -- what a look-up finds
    found_cases : (sought : HashedKey) (row : HashedKey × E) (rows : List (HashedKey × E)) (b : Bool) → eq sought row.0 ≡ b → lookup (eq sought) rows ≡ value_at key_cmp (key_of sought) (keyed rows)
        → cond (eq sought row.0) (Some row.1) (lookup (eq sought) rows) ≡ value_at key_cmp (key_of sought) ((key_of row.0, row.1) ∷ keyed rows)
    found_cases sought row rows true e ih =
        cond-true (eq sought row.0) _ _ e
        ∙ sym (value_at-here key_cmp keys_total (key_of sought) (key_of row.0, row.1) (keyed rows) (turned (key_of row.0) (key_of sought) ∙ sym (is sought row.0) ∙ e))
    found_cases sought row rows false e ih =
        cond-false (eq sought row.0) _ _ e
        ∙ ih
        ∙ sym (value_at-there key_cmp keys_total (key_of sought) (key_of row.0, row.1) (keyed rows) (turned (key_of row.0) (key_of sought) ∙ sym (is sought row.0) ∙ e))

    found : (sought : HashedKey) (rows : List (HashedKey × E)) → lookup (eq sought) rows ≡ value_at key_cmp (key_of sought) (keyed rows)
    found sought [] = refl
    found sought (row ∷ rows) = found_cases sought row rows (eq sought row.0) refl (found sought rows)

    pub found_in_order : (sought : HashedKey) (key : Key) (rows : List (HashedKey × E)) → key_of sought ≡ key → lookup (eq sought) rows ≡ value_at key_cmp key (in_order (keyed rows))
    found_in_order sought key rows own =
        found sought rows
        ∙ ap (λ (k : Key). value_at key_cmp k (keyed rows)) own
        ∙ sym (value_at-in_order key_cmp keys_total exact_keys key (keyed rows))

    -- rows with an entry for a key
    pub put_in_order : (put : HashedKey) (key : Key) (entry : E) (old new : List (HashedKey × E)) → key_of put ≡ key → ((q : HashedKey) → lookup (eq q) new ≡ cond (eq put q) (Some entry) (lookup (eq q) old))
        → in_order (keyed new) ≡ with_row key_cmp key entry (in_order (keyed old))
    put_in_order put key entry old new own updates =
        let before = in_order (keyed old) in
        in_order-is key_cmp keys_total exact_keys (keyed new) (with_row key_cmp key entry before)
        (IsRising-with_row key_cmp keys_total exact_keys key entry before (rising-in_order key_cmp keys_total exact_keys (keyed old)))
        (λ q. value_at-with_row key_cmp keys_total exact_keys key entry q before
        ∙ ap (cond (is_eq (key_cmp key q)) (Some entry)) (sym (found_in_order (hashed_of q) q old refl))
        ∙ ap (λ (b : Bool). cond b (Some entry) (lookup (eq (hashed_of q)) old)) (ap (λ (k : Key). is_eq (key_cmp k q)) (sym own) ∙ sym (is put (hashed_of q)))
        ∙ sym (updates (hashed_of q))
        ∙ found (hashed_of q) new)

    -- and without it: with the entry that it had they were as before
    had_cases : (gone q : HashedKey) (entry : E) (old new : List (HashedKey × E)) (b : Bool) → eq gone q ≡ b → lookup (eq gone) old ≡ Some entry → lookup (eq q) new ≡ cond (eq gone q) None (lookup (eq q) old)
        → lookup (eq q) old ≡ cond (eq gone q) (Some entry) (lookup (eq q) new)
    had_cases gone q entry old new true e had updates = ap (λ (k : HashedKey). lookup (eq k) old) (sym (same_key eq is gone q e)) ∙ had ∙ sym (cond-true (eq gone q) _ _ e)
    had_cases gone q entry old new false e had updates = sym (cond-false (eq gone q) _ _ e ∙ updates ∙ cond-false (eq gone q) _ _ e)

    removed : (gone : HashedKey) (key : Key) (entry : E) (old new : List (HashedKey × E)) → key_of gone ≡ key → lookup (eq gone) old ≡ Some entry → ((q : HashedKey) → lookup (eq q) new ≡ cond (eq gone q) None (lookup (eq q) old))
        → in_order (keyed new) ≡ without_row key_cmp key (in_order (keyed old))
    removed gone key entry old new own had updates =
        let after = in_order (keyed new) in
        let back : in_order (keyed old) ≡ with_row key_cmp key entry after = put_in_order gone key entry new old own (λ q. had_cases gone q entry old new (eq gone q) refl had (updates q)) in
        let absent : value_at key_cmp key after ≡ None = sym (found_in_order gone key new own) ∙ updates gone ∙ cond-true (eq gone gone) _ _ (itself eq is gone) in
        sym (ap (without_row key_cmp key) back ∙ without-with key_cmp keys_total exact_keys key entry after (rising-in_order key_cmp keys_total exact_keys (keyed new)) absent)

    pub removed_in_order : (gone : HashedKey) (key : Key) (old new : List (HashedKey × E)) (now : List (Key × E)) → key_of gone ≡ key → in_order (keyed old) ≡ now → IsSome (value_at key_cmp key now)
        → ((q : HashedKey) → lookup (eq q) new ≡ cond (eq gone q) None (lookup (eq q) old)) → in_order (keyed new) ≡ without_row key_cmp key now
    removed_in_order gone key old new now own view there updates =
        let had = some_of (value_at key_cmp key now) there in
        removed gone key had.0 old new own (found_in_order gone key old own ∙ ap (value_at key_cmp key) view ∙ had.1) updates ∙ ap (without_row key_cmp key) view

    -- no key comes twice
    none_of : (first : HashedKey) (rows : List (HashedKey × E)) → AllByRecursion (λ (k : HashedKey). eq first k ≡ false) (keys_of rows) → rows_of_key (key_of first) (keyed rows) ≡ []
    none_of first [] all = refl
    none_of first (row ∷ rows) all =
        cond-false (is_eq (key_cmp (key_of row.0) (key_of first))) _ _ (turned (key_of row.0) (key_of first) ∙ sym (is first row.0) ∙ all.0) ∙ none_of first rows all.1

    once_cases : (key : Key) (row : HashedKey × E) (rows : List (HashedKey × E)) (b : Bool) → is_eq (key_cmp (key_of row.0) key) ≡ b → rows_of_key (key_of row.0) (keyed rows) ≡ [] → length (rows_of_key key (keyed rows)) ≤ 1
        → length (cond (is_eq (key_cmp (key_of row.0) key)) ((key_of row.0, row.1) ∷ rows_of_key key (keyed rows)) (rows_of_key key (keyed rows))) ≤ 1
    once_cases key row rows true e none once =
        let same : key_of row.0 ≡ key = exact_keys (key_of row.0) key (equal_from _ e) in
        let no_more : rows_of_key key (keyed rows) ≡ [] = ap (λ (k : Key). rows_of_key k (keyed rows)) (sym same) ∙ none in
        let first : Key × E = (key_of row.0, row.1) in
        let one : length (first ∷ []) ≤ 1 = omega arith in
        subst (λ (rs : List (Key × E)). length rs ≤ 1) (sym (cond-true (is_eq (key_cmp (key_of row.0) key)) _ _ e ∙ ap (λ (rs : List (Key × E)). first ∷ rs) no_more)) one
    once_cases key row rows false e none once =
        subst (λ (rs : List (Key × E)). length rs ≤ 1) (sym (cond-false (is_eq (key_cmp (key_of row.0) key)) _ _ e)) once

    once_in : (rows : List (HashedKey × E)) → IsDistinct eq (keys_of rows) → (key : Key) → length (rows_of_key key (keyed rows)) ≤ 1
    once_in [] distinct key = omega arith
    once_in (row ∷ rows) distinct key =
        once_cases key row rows (is_eq (key_cmp (key_of row.0) key)) refl
        (none_of row.0 rows (IsDistinct-head eq row.0 (keys_of rows) distinct))
        (once_in rows (IsDistinct-tail eq row.0 (keys_of rows) distinct) key)

    pub counted_in_order : (rows : List (HashedKey × E)) → IsDistinct eq (keys_of rows) → length (in_order (keyed rows)) ≡ length rows
    counted_in_order rows distinct = length-in_order key_cmp keys_total exact_keys (keyed rows) (once_in rows distinct) ∙ keyed_length rows

    -- a walk comes to no key twice
    at_row : (P : HashedKey → Type 0) (seen : List (HashedKey × E)) (row : HashedKey × E) (left : List (HashedKey × E)) → AllByRecursion P (keys_of (seen ++ row ∷ left)) → P row.0
    at_row P [] row left all = all.0
    at_row P (first ∷ seen) row left all = at_row P seen row left all.1

    absent_before : (seen : List (HashedKey × E)) (row : HashedKey × E) (left : List (HashedKey × E)) → IsDistinct eq (keys_of (seen ++ row ∷ left)) → value_at key_cmp (key_of row.0) (keyed seen) ≡ None
    absent_before [] row left distinct = refl
    absent_before (first ∷ seen) row left distinct =
        let behind = keys_of (seen ++ row ∷ left) in
        let apart : eq first.0 row.0 ≡ false = at_row (λ (k : HashedKey). eq first.0 k ≡ false) seen row left (IsDistinct-head eq first.0 behind distinct) in
        value_at-there key_cmp keys_total (key_of row.0) (key_of first.0, first.1) (keyed seen) (sym (is first.0 row.0) ∙ apart)
        ∙ absent_before seen row left (IsDistinct-tail eq first.0 behind distinct)

    -- a row that a walk comes to has no entry among those before it
    pub absent_so_far : (seen : List (HashedKey × E)) (row : HashedKey × E) (left next all : List (HashedKey × E)) (log : List (Key × E)) → IsDistinct eq (keys_of all) → left ≡ row ∷ next → seen ++ left ≡ all → log ≡ in_order (keyed seen)
        → value_at key_cmp (key_of row.0) log ≡ None
    absent_so_far seen row left next all log distinct step h so_far =
        let split : all ≡ seen ++ row ∷ next = sym h ∙ ap (λ (rows : List (HashedKey × E)). seen ++ rows) step in
        ap (value_at key_cmp (key_of row.0)) so_far
        ∙ value_at-in_order key_cmp keys_total exact_keys (key_of row.0) (keyed seen)
        ∙ absent_before seen row next (subst (λ (rows : List (HashedKey × E)). IsDistinct eq (keys_of rows)) split distinct)

  pub one_more_logged : (seen : List (HashedKey × E)) (row : HashedKey × E) (key : Key) (log new : List (Key × E)) → key ≡ key_of row.0 → value_at key_cmp (key_of row.0) log ≡ None → log ≡ in_order (keyed seen) → new ≡ with_row key_cmp key row.1 log
      → new ≡ in_order (keyed (seen ++ row ∷ []))
  one_more_logged seen row key log new own absent so_far put =
      let none : value_at key_cmp (key_of row.0) (keyed seen) ≡ None = sym (value_at-in_order key_cmp keys_total exact_keys (key_of row.0) (keyed seen)) ∙ ap (value_at key_cmp (key_of row.0)) (sym so_far) ∙ absent in
      put
      ∙ ap (λ (k : Key). with_row key_cmp k row.1 log) own
      ∙ ap (with_row key_cmp (key_of row.0) row.1) so_far
      ∙ sym (in_order-push key_cmp keys_total exact_keys (keyed seen) (key_of row.0) row.1 none)
      ∙ ap in_order (sym (keyed-append seen (row ∷ [])))

  -- the first key above another among the rows so far, and one row more
  pub one_more_above : (below : Key) (seen : List (HashedKey × E)) (row : HashedKey × E) (key : Key) (first new : Option Key) → key ≡ key_of row.0 → is_gt (key_cmp key below) ≡ true → new ≡ lesser_key first (Some key)
      → IsFirstAbove below (λ k. value_at key_cmp k (keyed seen)) first → IsFirstAbove below (λ k. value_at key_cmp k (keyed (seen ++ row ∷ []))) new
  one_more_above below seen row key first new own above is h =
      subst (λ (f : Option Key). IsFirstAbove below (λ k. value_at key_cmp k (keyed (seen ++ row ∷ []))) f) (ap (λ (k : Key). lesser_key first (Some k)) (sym own) ∙ sym is)
      (
      subst (λ (rows : List (Key × E)). IsFirstAbove below (λ k. value_at key_cmp k rows) (lesser_key first (Some (key_of row.0)))) (sym (keyed-append seen (row ∷ [])))
      (first_with_above below (keyed seen) (key_of row.0, row.1) first (ap (λ (k : Key). is_gt (key_cmp k below)) (sym own) ∙ above) h)
      )

  pub one_more_other : (below : Key) (seen : List (HashedKey × E)) (row : HashedKey × E) (key : Key) (first : Option Key) → key ≡ key_of row.0 → is_gt (key_cmp key below) ≡ false
      → IsFirstAbove below (λ k. value_at key_cmp k (keyed seen)) first → IsFirstAbove below (λ k. value_at key_cmp k (keyed (seen ++ row ∷ []))) first
  one_more_other below seen row key first own other h =
      subst (λ (rows : List (Key × E)). IsFirstAbove below (λ k. value_at key_cmp k rows) first) (sym (keyed-append seen (row ∷ [])))
      (first_with_other below (keyed seen) (key_of row.0, row.1) first (ap (λ (k : Key). is_gt (key_cmp k below)) (sym own) ∙ other) h)
