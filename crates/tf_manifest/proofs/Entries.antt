-- What a row put among others says of each key.
use Rattle.std.proofs.Common.{◌≡◌, ◌≢◌, ℕ, List, [], ◌∷◌, ◌++◌, Some, None, Bool, true, false, cond, filter, find, refl, sym, ◌∙◌, ap}
use Rattle.std.specs.Ordering.{nat_cmp, is_lt, is_eq, is_gt}
use Rattle.std.specs.Option.{option_map}
use Rattle.std.specs.Cmp.{IsTotalOrder}
use Rattle.std.specs.declared.cmp.Ordering.{Ordering}
use Rattle.std.specs.declared.cmp.Ordering.TheVariants.{Less, Equal, Greater}
use Rattle.std.proofs.lemmas.Cmp.{then_total, on_total, nat_cmp_total, tied_itself}
use Rattle.std.proofs.lemmas.Map.Lookups.{CmpEqualImpliesEq, exact_pairs, exact_unsigned}
use Rattle.tf_sorted.specs.Rows.{rows_below, rows_above, value_at, with_row}
use Rattle.tf_table.specs.declared.key.Key.{Key}
use Rattle.tf_table.specs.Key.{key_cmp}

module _ {X : Type 0} (p q : X → Bool) where
  cons_kept : (b c : Bool) (x : X) (xs ys : List X) → (c ≡ true → b ≡ true) → find p ys ≡ find p xs → p x ≡ c → find p (cond b (x ∷ ys) ys) ≡ cond c (Some x) (find p xs)
  cons_kept true c x xs ys h e f = ap (λ d. cond d (Some x) (find p ys)) f ∙ ap (λ o. cond c (Some x) o) e
  cons_kept false true x xs ys h e f = let no = h refl in absurd (cc)
  cons_kept false false x xs ys h e f = e

  -- what passes is found among the rows that are kept
  find-kept : (xs : List X) → ((x : X) → p x ≡ true → q x ≡ true) → find p (filter q xs) ≡ find p xs
  find-kept [] h = refl
  find-kept (x ∷ xs) h = cons_kept (q x) (p x) x xs (filter q xs) (h x) (find-kept xs h) refl

  cons_none : (b c : Bool) (x : X) (ys : List X) → (b ≡ true → c ≡ false) → find p ys ≡ None → p x ≡ c → find p (cond b (x ∷ ys) ys) ≡ None
  cons_none false c x ys h e f = e
  cons_none true c x ys h e f = ap (λ d. cond d (Some x) (find p ys)) (f ∙ h refl) ∙ e

  find-none : (xs : List X) → ((x : X) → q x ≡ true → p x ≡ false) → find p (filter q xs) ≡ None
  find-none [] h = refl
  find-none (x ∷ xs) h = cons_none (q x) (p x) x (filter q xs) (h x) (find-none xs h) refl

module _ {X : Type 0} (p : X → Bool) where
  find-behind : (xs ys : List X) → find p xs ≡ None → find p (xs ++ ys) ≡ find p ys
  find-behind [] ys e = refl
  find-behind (x ∷ xs) ys e = by_test (p x) (find-behind xs ys) e where
    by_test : (b : Bool) → (find p xs ≡ None → find p (xs ++ ys) ≡ find p ys) → cond b (Some x) (find p xs) ≡ None → cond b (Some x) (find p (xs ++ ys)) ≡ find p ys
    by_test true again e = absurd (cc)
    by_test false again e = again e

  find-before : (xs ys : List X) → find p ys ≡ None → find p (xs ++ ys) ≡ find p xs
  find-before [] ys e = e
  find-before (x ∷ xs) ys e = ap (λ o. cond (p x) (Some x) o) (find-before xs ys e)

pub total : IsTotalOrder key_cmp
total = then_total (on_total (λ (k : Key). k.value) nat_cmp_total) (on_total (λ (k : Key). k.timestamp) nat_cmp_total)

pub exact : CmpEqualImpliesEq key_cmp
exact a b h = ap (λ (p : ℕ × ℕ). record { value = p.0; timestamp = p.1 }) (exact_pairs nat_cmp nat_cmp exact_unsigned exact_unsigned (a.value, a.timestamp) (b.value, b.timestamp) h)

pub same_key : (o : Ordering) → is_eq o ≡ true → o ≡ Equal
same_key Less e = absurd (cc)
same_key Equal e = refl
same_key Greater e = absurd (cc)

less_apart : (o : Ordering) → is_lt o ≡ true → is_eq o ≡ false
less_apart Less e = refl
less_apart Equal e = absurd (cc)
less_apart Greater e = refl

greater_apart : (o : Ordering) → is_gt o ≡ true → is_eq o ≡ false
greater_apart Less e = refl
greater_apart Equal e = absurd (cc)
greater_apart Greater e = refl

not_both : (b : Bool) → (b ≡ true → false ≡ true) → b ≡ false
not_both false h = refl
not_both true h = let no = h refl in absurd (cc)

module _ {E : Type 0} where
  -- whether a row has the key
  abbrev has : Key → Key × E → Bool
  has k r = is_eq (key_cmp r.0 k)

  abbrev below : Key → Key × E → Bool
  below key r = is_lt (key_cmp r.0 key)

  abbrev above : Key → Key × E → Bool
  above key r = is_gt (key_cmp r.0 key)

  -- of the key itself the rows in the middle alone say something
  middle_here : (key : Key) (rows m : List (Key × E)) → find (has key) (rows_below key_cmp key rows ++ (m ++ rows_above key_cmp key rows)) ≡ find (has key) m
  middle_here key rows m =
      find-behind (has key) (rows_below key_cmp key rows) (m ++ rows_above key_cmp key rows) (find-none (has key) (below key) rows (λ r e. less_apart (key_cmp r.0 key) e))
      ∙ find-before (has key) m (rows_above key_cmp key rows) (find-none (has key) (above key) rows (λ r e. greater_apart (key_cmp r.0 key) e))

  key_of : (k : Key) (r : Key × E) → has k r ≡ true → r.0 ≡ k
  key_of k r e = exact r.0 k (same_key (key_cmp r.0 k) e)

  -- of any other key they say nothing
  middle_there : (key k : Key) (rows m : List (Key × E)) → k ≢ key → find (has k) m ≡ None → find (has k) (rows_below key_cmp key rows ++ (m ++ rows_above key_cmp key rows)) ≡ find (has k) rows
  middle_there key k rows m n none = by_order (key_cmp k key) refl where
    by_order : (o : Ordering) → key_cmp k key ≡ o → find (has k) (rows_below key_cmp key rows ++ (m ++ rows_above key_cmp key rows)) ≡ find (has k) rows
    by_order Less e =
        let is_below : (r : Key × E) → has k r ≡ true → below key r ≡ true = λ r h. ap (λ (x : Key). is_lt (key_cmp x key)) (key_of k r h) ∙ ap is_lt e in
        let no_above : (r : Key × E) → above key r ≡ true → has k r ≡ false = λ r h. not_both (has k r) (λ t. sym (ap (λ (x : Key). is_gt (key_cmp x key)) (key_of k r t) ∙ ap is_gt e) ∙ h) in
        find-before (has k) (rows_below key_cmp key rows) (m ++ rows_above key_cmp key rows)
        (find-behind (has k) m (rows_above key_cmp key rows) none ∙ find-none (has k) (above key) rows no_above)
        ∙ find-kept (has k) (below key) rows is_below
    by_order Equal e = absurd (n (exact k key e))
    by_order Greater e =
        let is_above : (r : Key × E) → has k r ≡ true → above key r ≡ true = λ r h. ap (λ (x : Key). is_gt (key_cmp x key)) (key_of k r h) ∙ ap is_gt e in
        let no_below : (r : Key × E) → below key r ≡ true → has k r ≡ false = λ r h. not_both (has k r) (λ t. sym (ap (λ (x : Key). is_lt (key_cmp x key)) (key_of k r t) ∙ ap is_lt e) ∙ h) in
        find-behind (has k) (rows_below key_cmp key rows) (m ++ rows_above key_cmp key rows) (find-none (has k) (below key) rows no_below)
        ∙ find-behind (has k) m (rows_above key_cmp key rows) none
        ∙ find-kept (has k) (above key) rows is_above

  pub with_row-here : (key : Key) (e : E) (rows : List (Key × E)) → value_at key_cmp key (with_row key_cmp key e rows) ≡ Some e
  with_row-here key e rows =
      ap (option_map (λ (r : Key × E). r.1)) (middle_here key rows ((key, e) ∷ []) ∙ ap (λ o. cond (is_eq o) (Some (key, e)) None) (tied_itself total key))

  pub with_row-there : (key k : Key) (e : E) (rows : List (Key × E)) → k ≢ key → value_at key_cmp k (with_row key_cmp key e rows) ≡ value_at key_cmp k rows
  with_row-there key k e rows n =
      ap (option_map (λ (r : Key × E). r.1)) (middle_there key k rows ((key, e) ∷ []) n (ap (λ b. cond b (Some (key, e)) None) (not_both (has k (key, e)) (λ t. absurd (n (sym (key_of k (key, e) t)))))))

-- keys are the same or not
pub by_key : (P : Type 0) (a b : Key) → (a ≡ b → P) → (a ≢ b → P) → P
by_key P a b same other = by_order (key_cmp a b) refl where
  by_order : (o : Ordering) → key_cmp a b ≡ o → P
  by_order Equal e = same (exact a b e)
  by_order Less e = other (λ (h : a ≡ b). let tied : key_cmp a b ≡ Equal = ap (λ (x : Key). key_cmp a x) (sym h) ∙ tied_itself total a in absurd (cc))
  by_order Greater e = other (λ (h : a ≡ b). let tied : key_cmp a b ≡ Equal = ap (λ (x : Key). key_cmp a x) (sym h) ∙ tied_itself total a in absurd (cc))
