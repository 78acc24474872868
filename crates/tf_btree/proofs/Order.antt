-- Rows in key order: where a key lies among them, and what an edit at that key makes of them.
use Rattle.tf_btree.proofs.Words.{◌≡◌, ℕ, suc, ◌+◌, ◌<◌, take, drop, get_or, cond, is_some, length, arith, List, [], ◌∷◌, ◌++◌, Some, None, Option, Bool, true, false, not, refl, sym, ◌∙◌, ap, subst, append_assoc, filter, find, IsTotalOrder, option_or, option_map, Ordering, Less, Equal, Greater}
use Rattle.tf_btree.proofs.Words.{is_lt, is_eq, is_gt, ordering_reverse, append-nil, length-append, filter-append, find-append, joined, first_key, AllKeys, AllBefore, AllBeyond, Among, AllAfter, IsRising, rows_below, rows_above, rows_from, value_at, with_row, without_row}
use Rattle.tf_btree.proofs.Parts.{joined_split}
pub use Rattle.tf_sorted.proofs.Order.{greater_from_less, less_from_greater, below_upto, AllAfter-right, AllAfter-append, IsRising-left, IsRising-right}

-- the order that a test tells
pub less_is : (o : Ordering) → is_lt o ≡ true → o ≡ Less
less_is Less e = refl
less_is Equal e = absurd (let t : false ≡ true = e in cc)
less_is Greater e = absurd (let t : false ≡ true = e in cc)

pub equal_is : (o : Ordering) → is_eq o ≡ true → o ≡ Equal
equal_is Less e = absurd (let t : false ≡ true = e in cc)
equal_is Equal e = refl
equal_is Greater e = absurd (let t : false ≡ true = e in cc)

pub greater_is : (o : Ordering) → is_gt o ≡ true → o ≡ Greater
greater_is Less e = absurd (let t : false ≡ true = e in cc)
greater_is Equal e = absurd (let t : false ≡ true = e in cc)
greater_is Greater e = refl

pub greater_left : (o : Ordering) → is_lt o ≡ false → is_eq o ≡ false → is_gt o ≡ true
greater_left Less a b = absurd (let t : true ≡ false = a in cc)
greater_left Equal a b = absurd (let t : true ≡ false = b in cc)
greater_left Greater a b = refl

module _ {K : Type 0} (cmp : K → K → Ordering) (total : IsTotalOrder cmp) where
  -- above what is not below k is above k
  pub beyond_from : (f r k : K) (o : Ordering) → cmp f k ≡ o → is_lt o ≡ false → cmp f r ≡ Less → cmp r k ≡ Greater
  beyond_from f r k Less e h l = absurd (let t : true ≡ false = h in cc)
  beyond_from f r k Equal e h l = greater_from_less cmp total k r (sym (total.congr f k r e) ∙ l)
  beyond_from f r k Greater e h l = greater_from_less cmp total k r (total.trans k f r (less_from_greater cmp total f k e) l)

module _ {K V : Type 0} (P : K → Type 0) where
  pub AllKeys-append : (xs ys : List (K × V)) → AllKeys P xs → AllKeys P ys → AllKeys P (xs ++ ys)
  AllKeys-append [] ys a b = b
  AllKeys-append (x ∷ xs) ys a b = (a.0, AllKeys-append xs ys a.1 b)

  pub AllKeys-right : (xs ys : List (K × V)) → AllKeys P (xs ++ ys) → AllKeys P ys
  AllKeys-right [] ys a = a
  AllKeys-right (x ∷ xs) ys a = AllKeys-right xs ys a.1

  pub AllKeys-map : (Q : K → Type 0) → ((q : K) → P q → Q q) → (xs : List (K × V)) → AllKeys P xs → AllKeys Q xs
  AllKeys-map Q f [] a = tt
  AllKeys-map Q f (x ∷ xs) a = (f x.0 a.0, AllKeys-map Q f xs a.1)

-- a test that all keys pass, or none, keeps all rows or none
pub filter-keys : {K V : Type 0} (t : K → Bool) (b : Bool) (xs : List (K × V)) → AllKeys (λ (q : K). t q ≡ b) xs → filter (λ (r : K × V). t r.0) xs ≡ cond b xs []
filter-keys t true [] a = refl
filter-keys t false [] a = refl
filter-keys t true (x ∷ xs) a = rw a.0 (ap (λ r. x ∷ r) (filter-keys t true xs a.1))
filter-keys t false (x ∷ xs) a = rw a.0 (filter-keys t false xs a.1)

module _ {K V : Type 0} (cmp : K → K → Ordering) where
  first_is : (y : K × V) (ys : List (K × V)) (f : K) → first_key (y ∷ ys) ≡ Some f → y.0 ≡ f
  first_is y ys f e = let h : Some y.0 ≡ Some f = e in cc

  -- in rows that rise, the front is before the first key of the rest
  pub rising_across : (xs ys : List (K × V)) (f : K) → IsRising cmp (xs ++ ys) → first_key ys ≡ Some f → AllBefore cmp f xs
  rising_across [] ys f h e = tt
  rising_across (x ∷ xs) [] f h e = absurd (let n : None ≡ Some f = e in cc)
  rising_across (x ∷ xs) (y ∷ ys) f h e =
      let at : cmp x.0 y.0 ≡ Less = (AllAfter-right cmp x.0 xs (y ∷ ys) h.0).0 in
      (subst (λ (q : K). cmp x.0 q ≡ Less) (first_is y ys f e) at, rising_across xs (y ∷ ys) f h.1 e)

  module _ (total : IsTotalOrder cmp) where
    pub beyond_after : (f k : K) (xs : List (K × V)) → is_lt (cmp f k) ≡ false → AllAfter cmp f xs → AllBeyond cmp k xs
    beyond_after f k [] h a = tt
    beyond_after f k (x ∷ xs) h a = (beyond_from cmp total f x.0 k (cmp f k) refl h a.0, beyond_after f k xs h a.1)

  -- a test on the order of a row's key and k passes all rows before k or none, and so beyond it
  pub tested-before : (p : Ordering → Bool) (k : K) (xs : List (K × V)) → AllBefore cmp k xs → filter (λ (r : K × V). p (cmp r.0 k)) xs ≡ cond (p Less) xs []
  tested-before p k xs a = filter-keys (λ (q : K). p (cmp q k)) (p Less) xs (AllKeys-map _ _ (λ q e. ap p e) xs a)

  pub tested-beyond : (p : Ordering → Bool) (k : K) (xs : List (K × V)) → AllBeyond cmp k xs → filter (λ (r : K × V). p (cmp r.0 k)) xs ≡ cond (p Greater) xs []
  tested-beyond p k xs a = filter-keys (λ (q : K). p (cmp q k)) (p Greater) xs (AllKeys-map _ _ (λ q e. ap p e) xs a)

  find-before : (k : K) (xs : List (K × V)) → AllBefore cmp k xs → find (λ (r : K × V). is_eq (cmp r.0 k)) xs ≡ None
  find-before k [] a = refl
  find-before k (x ∷ xs) a = rw a.0 (find-before k xs a.1)

  find-beyond : (k : K) (xs : List (K × V)) → AllBeyond cmp k xs → find (λ (r : K × V). is_eq (cmp r.0 k)) xs ≡ None
  find-beyond k [] a = refl
  find-beyond k (x ∷ xs) a = rw a.0 (find-beyond k xs a.1)

  module _ (k : K) (a b c : List (K × V)) (h : Among cmp k a c) where
    pub tested-among : (p : Ordering → Bool) → filter (λ (r : K × V). p (cmp r.0 k)) (a ++ (b ++ c)) ≡ cond (p Less) a [] ++ (filter (λ (r : K × V). p (cmp r.0 k)) b ++ cond (p Greater) c [])
    tested-among p =
        let q = λ (r : K × V). p (cmp r.0 k) in
        filter-append q a (b ++ c) ∙ ap (λ r. r ++ filter q (b ++ c)) (tested-before p k a h.before) ∙ ap (λ r. cond (p Less) a [] ++ r) (filter-append q b c ∙ ap (λ r. filter q b ++ r) (tested-beyond p k c h.beyond))

    below-among : rows_below cmp k (a ++ (b ++ c)) ≡ a ++ rows_below cmp k b
    below-among = tested-among is_lt ∙ ap (λ r. a ++ r) (append-nil (rows_below cmp k b))

    above-among : rows_above cmp k (a ++ (b ++ c)) ≡ rows_above cmp k b ++ c
    above-among = tested-among is_gt

    pub from-among : rows_from cmp k (a ++ (b ++ c)) ≡ rows_from cmp k b ++ c
    from-among = tested-among (λ o. not (is_lt o))

    pub with_row-among : (v : V) → with_row cmp k v (a ++ (b ++ c)) ≡ a ++ (with_row cmp k v b ++ c)
    with_row-among v =
        let low = below-among in
        let high = above-among in
        ap (λ r. r ++ (k, v) ∷ rows_above cmp k (a ++ (b ++ c))) low ∙ ap (λ r. (a ++ rows_below cmp k b) ++ (k, v) ∷ r) high
        ∙ append_assoc a (rows_below cmp k b) ((k, v) ∷ (rows_above cmp k b ++ c)) ∙ ap (λ r. a ++ r) (sym (append_assoc (rows_below cmp k b) ((k, v) ∷ rows_above cmp k b) c))

    pub without_row-among : without_row cmp k (a ++ (b ++ c)) ≡ a ++ (without_row cmp k b ++ c)
    without_row-among =
        let low = below-among in
        let high = above-among in
        ap (λ r. r ++ rows_above cmp k (a ++ (b ++ c))) low ∙ ap (λ r. (a ++ rows_below cmp k b) ++ r) high
        ∙ append_assoc a (rows_below cmp k b) (rows_above cmp k b ++ c) ∙ ap (λ r. a ++ r) (sym (append_assoc (rows_below cmp k b) (rows_above cmp k b) c))

    pub value_at-among : value_at cmp k (a ++ (b ++ c)) ≡ value_at cmp k b
    value_at-among =
        let p = λ (r : K × V). is_eq (cmp r.0 k) in
        ap (option_map (λ (r : K × V). r.1)) (find-append p a (b ++ c) ∙ ap (λ r. option_or r (find p (b ++ c))) (find-before k a h.before) ∙ find-append p b c ∙ ap (λ r. option_or (find p b) r) (find-beyond k c h.beyond) ∙ or_none (find p b))
      where
        or_none : {X : Type 0} (o : Option X) → option_or o None ≡ o
        or_none None = refl
        or_none (Some x) = refl

  pub from_before_all : (k : K) (a d : List (K × V)) → AllBefore cmp k a → rows_from cmp k (a ++ d) ≡ rows_from cmp k d
  from_before_all k a d h =
      let p = λ (r : K × V). not (is_lt (cmp r.0 k)) in
      filter-append p a d ∙ ap (λ r. r ++ filter p d) (tested-before (λ o. not (is_lt o)) k a h)

  pub rows_from_all : (k : K) (d : List (K × V)) → AllKeys (λ (q : K). is_lt (cmp q k) ≡ false) d → rows_from cmp k d ≡ d
  rows_from_all k d a = filter-keys (λ (q : K). not (is_lt (cmp q k))) true d (AllKeys-map _ _ (λ q e. ap not e) d a)

  -- the value of a key among the others
  pub value_at-at : (k q : K) (w : V) (a c : List (K × V)) → Among cmp k a c → cmp q k ≡ Equal → value_at cmp k (a ++ (q, w) ∷ c) ≡ Some w
  value_at-at k q w a c h e = value_at-among k a ((q, w) ∷ []) c h ∙ rw e refl

module _ {K V : Type 0} (cmp : K → K → Ordering) where
  filter_after : (p : K × V → Bool) (k : K) (xs : List (K × V)) → AllAfter cmp k xs → AllAfter cmp k (filter p xs)
  filter_after p k [] a = tt
  filter_after p k (x ∷ xs) a = elim (p x) as (λ b. AllAfter cmp k (cond b (x ∷ filter p xs) (filter p xs))) [ true ↦ (a.0, filter_after p k xs a.1) | false ↦ filter_after p k xs a.1 ]

  filter_rising : (p : K × V → Bool) (xs : List (K × V)) → IsRising cmp xs → IsRising cmp (filter p xs)
  filter_rising p [] h = tt
  filter_rising p (x ∷ xs) h = elim (p x) as (λ b. IsRising cmp (cond b (x ∷ filter p xs) (filter p xs))) [ true ↦ (filter_after p x.0 xs h.0, filter_rising p xs h.1) | false ↦ filter_rising p xs h.1 ]

  module _ (total : IsTotalOrder cmp) where
    kept_before : (k : K) (x : K × V) (xs : List (K × V)) (b : Bool) → is_lt (cmp x.0 k) ≡ b → AllBefore cmp k xs → AllBefore cmp k (cond b (x ∷ xs) xs)
    kept_before k x xs true e rest = (less_is (cmp x.0 k) e, rest)
    kept_before k x xs false e rest = rest

    below_before : (k : K) (xs : List (K × V)) → AllBefore cmp k (rows_below cmp k xs)
    below_before k [] = tt
    below_before k (x ∷ xs) = kept_before k x (rows_below cmp k xs) (is_lt (cmp x.0 k)) refl (below_before k xs)

    kept_after : (k : K) (x : K × V) (xs : List (K × V)) (b : Bool) → is_gt (cmp x.0 k) ≡ b → AllAfter cmp k xs → AllAfter cmp k (cond b (x ∷ xs) xs)
    kept_after k x xs true e rest = (less_from_greater cmp total x.0 k (greater_is (cmp x.0 k) e), rest)
    kept_after k x xs false e rest = rest

    above_after : (k : K) (xs : List (K × V)) → AllAfter cmp k (rows_above cmp k xs)
    above_after k [] = tt
    above_after k (x ∷ xs) = kept_after k x (rows_above cmp k xs) (is_gt (cmp x.0 k)) refl (above_after k xs)

    after_less : (j k : K) (xs : List (K × V)) → cmp j k ≡ Less → AllAfter cmp k xs → AllAfter cmp j xs
    after_less j k [] l a = tt
    after_less j k (x ∷ xs) l a = (total.trans j k x.0 l a.0, after_less j k xs l a.1)

    rising_around : (k : K) (v : V) (xs ys : List (K × V)) → IsRising cmp xs → AllBefore cmp k xs → IsRising cmp ys → AllAfter cmp k ys → IsRising cmp (xs ++ (k, v) ∷ ys)
    rising_around k v [] ys h b i a = (a, i)
    rising_around k v (x ∷ xs) ys h b i a = (AllAfter-append cmp x.0 xs ((k, v) ∷ ys) h.0 (b.0, after_less x.0 k ys b.0 a), rising_around k v xs ys h.1 b.1 i a)

    rising_past : (k : K) (xs ys : List (K × V)) → IsRising cmp xs → AllBefore cmp k xs → IsRising cmp ys → AllAfter cmp k ys → IsRising cmp (xs ++ ys)
    rising_past k [] ys h b i a = i
    rising_past k (x ∷ xs) ys h b i a = (AllAfter-append cmp x.0 xs ys h.0 (after_less x.0 k ys b.0 a), rising_past k xs ys h.1 b.1 i a)

    -- an edit keeps the keys rising
    pub rising-with_row : (k : K) (v : V) (xs : List (K × V)) → IsRising cmp xs → IsRising cmp (with_row cmp k v xs)
    rising-with_row k v xs h = rising_around k v _ _ (filter_rising _ xs h) (below_before k xs) (filter_rising _ xs h) (above_after k xs)

    pub rising-without_row : (k : K) (xs : List (K × V)) → IsRising cmp xs → IsRising cmp (without_row cmp k xs)
    rising-without_row k xs h = rising_past k _ _ (filter_rising _ xs h) (below_before k xs) (filter_rising _ xs h) (above_after k xs)

    -- how many rows lie on the two sides of a key
    Sided : K → List (K × V) → Type 0
    Sided k xs = length (rows_below cmp k xs) + length (rows_above cmp k xs) + cond (is_some (value_at cmp k xs)) 1 0 ≡ length xs

    sided_more : (k : K) (x : K × V) (xs : List (K × V)) → IsRising cmp (x ∷ xs) → Sided k xs → (o : Ordering) → cmp x.0 k ≡ o → Sided k (x ∷ xs)
    unfolding Sided
    sided_more k x xs h i Less e = rw e (omega arith)
    sided_more k x xs h i Equal e =
        let far = beyond_after cmp total x.0 k xs (rw e refl) h.0 in
        rw (e, tested-beyond cmp is_lt k xs far, tested-beyond cmp is_gt k xs far) (omega arith)
    sided_more k x xs h i Greater e = rw e (omega arith)

    sides : (k : K) (xs : List (K × V)) → IsRising cmp xs → Sided k xs
    unfolding Sided
    sides k [] h = refl
    sides k (x ∷ xs) h = sided_more k x xs h (sides k xs h.1) (cmp x.0 k) refl

    pub length-with_row : (k : K) (v : V) (xs : List (K × V)) → IsRising cmp xs → length (with_row cmp k v xs) ≡ length xs + cond (is_some (value_at cmp k xs)) 0 1
    unfolding Sided
    length-with_row k v xs h =
        let e = sides k xs h in
        let l = length-append (rows_below cmp k xs) ((k, v) ∷ rows_above cmp k xs) in
        counted (is_some (value_at cmp k xs)) (length (rows_below cmp k xs)) (length (rows_above cmp k xs)) (length xs) _ l e
      where
        counted : (b : Bool) (m n l w : ℕ) → w ≡ m + suc n → m + n + cond b 1 0 ≡ l → w ≡ l + cond b 0 1
        counted true m n l w p q = omega arith
        counted false m n l w p q = omega arith

    pub length-without_row : (k : K) (xs : List (K × V)) → IsRising cmp xs → length (without_row cmp k xs) + cond (is_some (value_at cmp k xs)) 1 0 ≡ length xs
    unfolding Sided
    length-without_row k xs h = let e = sides k xs h in let l = length-append (rows_below cmp k xs) (rows_above cmp k xs) in omega arith

-- the rows of an entry rise where all do
pub rising_entry : {K V : Type 0} (cmp : K → K → Ordering) (ps : List (List (K × V))) (i : ℕ) → i < length ps → IsRising cmp (joined ps) → IsRising cmp (get_or ps i [])
rising_entry {K} {V} cmp ps i lt rising =
    let at : IsRising cmp (joined (take i ps) ++ (get_or ps i [] ++ joined (drop (suc i) ps))) = subst (λ (r : List (K × V)). IsRising cmp r) (joined_split ps i [] lt) rising in
    IsRising-left cmp (get_or ps i []) (joined (drop (suc i) ps)) (IsRising-right cmp (joined (take i ps)) _ at)
