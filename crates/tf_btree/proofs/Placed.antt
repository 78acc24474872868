-- What a search among a node's keys says of its entries.
use Rattle.tf_btree.proofs.Words.{◌≡◌, ℕ, zero, suc, ◌-◌, ◌<◌, ◌≤◌, List, [], ◌∷◌, ◌++◌, length, map, take, drop, get_or, Some, None, Bool, true, false, refl, sym, ◌∙◌, ap, subst, arith, append_assoc, inl, inr, IsTotalOrder, cases_lt, same_Some, Less, Greater, Ordering, is_lt, is_eq, is_gt}
use Rattle.tf_btree.proofs.Words.{drop_all, append-nil, length-map, Subtree, joined, rows, first_key, single_rows, parts_of, subtree_of, IsNode, AllAfter, IsRising, rows_from, value_at, pairs, AllKeys, AllBefore, IsAt, IsGap, IsBelow}
use Rattle.tf_btree.proofs.Entries.{same_parts, length-seen, leaf_same, leaf_parts}
use Rattle.tf_btree.proofs.Order.{less_is, equal_is, greater_is, greater_left, below_upto, beyond_from, AllKeys-append, AllKeys-right, AllKeys-map, IsRising-right, value_at-among, value_at-at, rising_across, beyond_after, from_before_all, rows_from_all}
use Rattle.tf_btree.proofs.Runs.{length-single_rows, drop-single_rows, single_is, entry_value}
use Rattle.tf_btree.proofs.Parts.{joined-take-drop, joined_split}

pub joined-drop : {X : Type 0} (ps : List (List X)) (i : ℕ) (d : List X) → i < length ps → joined (drop i ps) ≡ get_or ps i d ++ joined (drop (suc i) ps)
joined-drop [] i d lt = absurd (omega arith)
joined-drop (p ∷ ps) zero d lt = refl
joined-drop (p ∷ ps) (suc i) d lt = joined-drop ps i d (omega arith)

pub joined-take_more : {X : Type 0} (ps : List (List X)) (i : ℕ) (d : List X) → i < length ps → joined (take (suc i) ps) ≡ joined (take i ps) ++ get_or ps i d
joined-take_more [] i d lt = absurd (omega arith)
joined-take_more (p ∷ ps) zero d lt = append-nil p
joined-take_more (p ∷ ps) (suc i) d lt = ap (λ r. p ++ r) (joined-take_more ps i d (omega arith)) ∙ sym (append_assoc p (joined (take i ps)) (get_or ps i d))

pub first_key-append : {K V : Type 0} (p r : List (K × V)) (k : K) → first_key p ≡ Some k → first_key (p ++ r) ≡ Some k
first_key-append [] r k e = absurd (let n : None ≡ Some k = e in cc)
first_key-append (x ∷ p) r k e = e

same_firsts_tail : {K V : Type 0} (k : K) (ks : List K) (p : List (K × V)) (ps : List (List (K × V))) → map Some (k ∷ ks) ≡ map first_key (p ∷ ps) → (Some k ≡ first_key p) × (map Some ks ≡ map first_key ps)
same_firsts_tail k ks p ps e = let h : Some k ∷ map Some ks ≡ first_key p ∷ map first_key ps = e in (cc, cc)

-- the first key behind a place
pub joined_first : {K V : Type 0} (ks : List K) (ps : List (List (K × V))) (i : ℕ) (d : K) → map Some ks ≡ map first_key ps → i < length ks → first_key (joined (drop i ps)) ≡ Some (get_or ks i d)
joined_first [] ps i d e lt = absurd (omega arith)
joined_first (k ∷ ks) [] i d e lt = absurd (cc)
joined_first (k ∷ ks) (p ∷ ps) zero d e lt = first_key-append p (joined ps) k (sym (same_firsts_tail k ks p ps e).0)
joined_first (k ∷ ks) (p ∷ ps) (suc i) d e lt = joined_first ks ps i d (same_firsts_tail k ks p ps e).1 (omega arith)

pub same_length : {K V : Type 0} (ks : List K) (ps : List (List (K × V))) → map Some ks ≡ map first_key ps → length ks ≡ length ps
same_length ks ps e = sym (length-map ks Some) ∙ ap length e ∙ length-map ps first_key

single_at : {K V : Type 0} (ks : List K) (vs : List V) (i : ℕ) (d : K) → length ks ≡ length vs → i < length ks → (w : V) × (get_or (single_rows ks vs) i [] ≡ (get_or ks i d, w) ∷ [])
single_at [] vs i d e lt = absurd (omega arith)
single_at (k ∷ ks) [] i d e lt = absurd (omega arith)
single_at (k ∷ ks) (v ∷ vs) zero d e lt = (v, refl)
single_at (k ∷ ks) (v ∷ vs) (suc i) d e lt = single_at ks vs i d (omega arith) (omega arith)

-- the keys below one that passes are low, and those from one that fails on are high
module _ {K V : Type 0} (cmp : K → K → Ordering) (Passes Fails Low High : K → Type 0) (low : (x y : K) → Passes y → cmp x y ≡ Less → Low x) (at : (y : K) → Fails y → High y) (high : (x y : K) → Fails y → cmp y x ≡ Less → High x) where
  all_low : (f : K) (xs : List (K × V)) → Passes f → AllBefore cmp f xs → AllKeys Low xs
  all_low f xs pass a = AllKeys-map _ Low (λ x less. low x f pass less) xs a

  all_high : (f : K) (xs : List (K × V)) → Fails f → AllAfter cmp f xs → AllKeys High xs
  all_high f [] fail a = tt
  all_high f (x ∷ xs) fail a = (high x.0 f fail a.0, all_high f xs fail a.1)

  pub high_from : (f : K) (ys : List (K × V)) → IsRising cmp ys → first_key ys ≡ Some f → Fails f → AllKeys High ys
  high_from f [] h e fail = tt
  high_from f (y ∷ ys) h e fail = let here : Fails y.0 = rw (same_Some y.0 f e) fail in (at y.0 here, all_high y.0 ys here h.0)

  module _ (ks : List K) (ps : List (List (K × V))) (firsts : map Some ks ≡ map first_key ps) (rising : IsRising cmp (joined ps)) where
    rising_at : (i : ℕ) → IsRising cmp (joined (take i ps) ++ joined (drop i ps))
    rising_at i = subst (λ (r : List (K × V)). IsRising cmp r) (joined-take-drop i ps) rising

    pub low_before : (i : ℕ) (d : K) → i < length ks → Passes (get_or ks i d) → AllKeys Low (joined (take i ps))
    low_before i d lt pass = all_low (get_or ks i d) (joined (take i ps)) pass (rising_across cmp (joined (take i ps)) (joined (drop i ps)) (get_or ks i d) (rising_at i) (joined_first ks ps i d firsts lt))

    pub high_behind : (i : ℕ) (d : K) → (i < length ks → Fails (get_or ks i d)) → AllKeys High (joined (drop i ps))
    high_behind i d fail = elim (cases_lt i (length ks)) [
      | inl lt ↦ high_from (get_or ks i d) (joined (drop i ps)) (IsRising-right cmp (joined (take i ps)) (joined (drop i ps)) (rising_at i)) (joined_first ks ps i d firsts lt) (fail lt)
      | inr le ↦ let same = same_length ks ps firsts in let none : drop i ps ≡ [] = drop_all i ps (omega arith) in rw none tt
    ]

    -- the entry with the last key that passes stands between them
    pub between : (n : ℕ) (d : K) → 0 < length ks → n ≤ length ks → (0 < n → Passes (get_or ks (n - 1) d)) → (n < length ks → Fails (get_or ks n d)) → (n - 1 < length ps) × AllKeys Low (joined (take (n - 1) ps)) × AllKeys High (joined (drop (suc (n - 1)) ps))
    between zero d some le before after =
        let same = same_length ks ps firsts in
        let split = joined-drop ps 0 [] (omega arith) in
        (omega arith, tt, AllKeys-right High (get_or ps 0 []) (joined (drop 1 ps)) (subst (λ (r : List (K × V)). AllKeys High r) split (high_behind 0 d after)))
    between (suc m) d some le before after =
        let same = same_length ks ps firsts in
        let at : suc m - 1 ≡ m = omega arith in
        let pass = rw at at (before (omega arith)) in
        rw at (omega arith, low_before m d (omega arith) pass, high_behind (suc m) d after)

  -- the rows of a leaf up to the last key that passes, where that is low too
  pub leaf_low : ((y : K) → Passes y → Low y) → (ks : List K) (vs : List V) → length ks ≡ length vs → map Some ks ≡ map first_key (single_rows ks vs) → IsRising cmp (joined (single_rows ks vs)) → (n : ℕ) (d : K) → n ≤ length ks
      → (0 < n → Passes (get_or ks (n - 1) d)) → AllKeys Low (joined (take n (single_rows ks vs)))
  leaf_low own ks vs same firsts rising zero d le before = tt
  leaf_low own ks vs same firsts rising (suc m) d le before =
      let ps = single_rows ks vs in
      let long = length-single_rows ks vs same in
      let at : suc m - 1 ≡ m = omega arith in
      let pass = rw at at (before (omega arith)) in
      let entry = single_at ks vs m d same (omega arith) in
      let here : AllKeys Low (get_or ps m []) = rw entry.1 (own _ pass, tt) in
      rw (joined-take_more ps m [] (omega arith)) (AllKeys-append Low (joined (take m ps)) (get_or ps m []) (low_before ks ps firsts rising m d (omega arith) pass) here)

-- the searches for a key k: by the keys not above it, and by those below it
module _ {K : Type 0} (cmp : K → K → Ordering) (total : IsTotalOrder cmp) (k : K) where
  upto_low : (x y : K) → is_gt (cmp y k) ≡ false → cmp x y ≡ Less → cmp x k ≡ Less
  upto_low x y h l = below_upto cmp total x y k (cmp y k) refl h l

  above_high : (x y : K) → is_gt (cmp y k) ≡ true → cmp y x ≡ Less → cmp x k ≡ Greater
  above_high x y h l = beyond_from cmp total y x k Greater (greater_is (cmp y k) h) refl l

  below_low : (x y : K) → is_lt (cmp y k) ≡ true → cmp x y ≡ Less → cmp x k ≡ Less
  below_low x y h l = total.trans x y k l (less_is (cmp y k) h)

  from_high : (x y : K) → is_lt (cmp y k) ≡ false → cmp y x ≡ Less → is_lt (cmp x k) ≡ false
  from_high x y h l = rw (beyond_from cmp total y x k (cmp y k) refl h l) refl

module _ {K V : Type 0} (cmp : K → K → Ordering) (total : IsTotalOrder cmp) (k : K) where
  -- the rows that rise from a key not below k
  pub rows_high : (f : K) (ys : List (K × V)) → IsRising cmp ys → first_key ys ≡ Some f → is_lt (cmp f k) ≡ false → AllKeys (λ (q : K). is_lt (cmp q k) ≡ false) ys
  rows_high f ys h e fail = high_from cmp (λ q. is_lt (cmp q k) ≡ true) (λ q. is_lt (cmp q k) ≡ false) (λ q. cmp q k ≡ Less) (λ q. is_lt (cmp q k) ≡ false) (below_low cmp total k) (λ y e. e) (from_high cmp total k) f ys h e fail

  module _ (ks : List K) (vs : List V) (same : length ks ≡ length vs) (firsts : map Some ks ≡ map first_key (single_rows ks vs)) (rising : IsRising cmp (joined (single_rows ks vs))) (n : ℕ) (before : (d : K) → 0 < n → is_lt (cmp (get_or ks (n - 1) d) k) ≡ true) where
    pub leaf_before : n ≤ length ks → AllBefore cmp k (joined (take n (single_rows ks vs)))
    leaf_before le = leaf_low cmp (λ q. is_lt (cmp q k) ≡ true) (λ q. is_lt (cmp q k) ≡ false) (λ q. cmp q k ≡ Less) (λ q. is_lt (cmp q k) ≡ false) (below_low cmp total k) (λ y e. e) (from_high cmp total k) (λ y h. less_is (cmp y k) h) ks vs same firsts rising n k le (before k)

    pub leaf_behind : ((d : K) → n < length ks → is_lt (cmp (get_or ks n d) k) ≡ false) → AllKeys (λ (q : K). is_lt (cmp q k) ≡ false) (joined (drop n (single_rows ks vs)))
    leaf_behind after = high_behind cmp (λ q. is_lt (cmp q k) ≡ true) (λ q. is_lt (cmp q k) ≡ false) (λ q. cmp q k ≡ Less) (λ q. is_lt (cmp q k) ≡ false) (below_low cmp total k) (λ y e. e) (from_high cmp total k) ks (single_rows ks vs) firsts rising n k (after k)

    -- the row of k, where it is found
    pub leaf_found : (d : K) → n < length ks → is_eq (cmp (get_or ks n d) k) ≡ true → IsAt cmp k (single_rows ks vs) n
    leaf_found d lt equal =
        let ps = single_rows ks vs in
        let long = length-single_rows ks vs same in
        let here = equal_is (cmp (get_or ks n d) k) equal in
        let entry = single_at ks vs n d same lt in
        let split : joined (drop n ps) ≡ (get_or ks n d, entry.0) ∷ joined (drop (suc n) ps) = joined-drop ps n [] (omega arith) ∙ ap (λ (r : List (K × V)). r ++ joined (drop (suc n) ps)) entry.1 in
        let rest = rw (joined-take-drop n ps, split) at rising in
        let behind = IsRising-right cmp (joined (take n ps)) ((get_or ks n d, entry.0) ∷ joined (drop (suc n) ps)) rest in
        record {
          in_range = omega arith;
          row = (get_or ks n d, entry.0, entry.1, here);
          among = record { before = leaf_before (omega arith); beyond = beyond_after cmp total (get_or ks n d) k _ (rw here refl) behind.0 };
        }

    -- the place of k, where it isn't found
    pub leaf_gap : n ≤ length ks → (n < length ks → is_gt (cmp (get_or ks n k) k) ≡ true) → IsGap cmp k (single_rows ks vs) n
    leaf_gap le after =
        let long = length-single_rows ks vs same in
        record {
          in_range = omega arith;
          among = record { before = leaf_before le; beyond = high_behind cmp (λ q. is_gt (cmp q k) ≡ false) (λ q. is_gt (cmp q k) ≡ true) (λ q. cmp q k ≡ Less) (λ q. cmp q k ≡ Greater) (upto_low cmp total k) (λ y h. greater_is (cmp y k) h) (above_high cmp total k) ks (single_rows ks vs) firsts rising n k after };
        }

-- the row of a place is that of the whole
pub value_below : {K V : Type 0} (cmp : K → K → Ordering) (k : K) (ps : List (List (K × V))) (i : ℕ) → IsBelow cmp k ps i → value_at cmp k (joined ps) ≡ value_at cmp k (get_or ps i [])
value_below {K} {V} cmp k ps i h =
    ap (λ (r : List (K × V)). value_at cmp k r) (joined_split ps i [] h.in_range) ∙ value_at-among cmp k (joined (take i ps)) (get_or ps i []) (joined (drop (suc i) ps)) h.among

pub value_found : {K V : Type 0} (cmp : K → K → Ordering) (k : K) (ps : List (List (K × V))) (i : ℕ) (h : IsAt cmp k ps i) → value_at cmp k (joined ps) ≡ Some h.row.1
value_found {K} {V} cmp k ps i h =
    ap (λ (r : List (K × V)). value_at cmp k r) (joined_split ps i [] h.in_range ∙ ap (λ (r : List (K × V)). joined (take i ps) ++ (r ++ joined (drop (suc i) ps))) h.row.2)
    ∙ value_at-at cmp k h.row.0 h.row.1 (joined (take i ps)) (joined (drop (suc i) ps)) h.among h.row.3

pub value_gap : {K V : Type 0} (cmp : K → K → Ordering) (k : K) (ps : List (List (K × V))) (i : ℕ) → IsGap cmp k ps i → value_at cmp k (joined ps) ≡ None
value_gap {K} {V} cmp k ps i h = ap (λ (r : List (K × V)). value_at cmp k r) (joined-take-drop i ps) ∙ value_at-among cmp k (joined (take i ps)) [] (joined (drop i ps)) h.among

-- the same searches at a node
module _ {K V : Type 0} (cmp : K → K → Ordering) (total : IsTotalOrder cmp) (k : K) (b : Bool) (ks : List K) (vs : List V) (cs : List (Subtree K V)) (s : Subtree K V)
    (node : IsNode b ks vs cs) (is : subtree_of b ks vs cs ≡ s) (rising : IsRising cmp (rows s)) where
  rising_inside : IsRising cmp (joined (parts_of b ks vs cs))
  rising_inside = subst (λ (t : Subtree K V). IsRising cmp (rows t)) (sym is) rising

  pub node_child : (n : ℕ) → 0 < length s.parts → n ≤ length ks → ((d : K) → 0 < n → is_gt (cmp (get_or ks (n - 1) d) k) ≡ false) → ((d : K) → n < length ks → is_gt (cmp (get_or ks n d) k) ≡ true) → IsBelow cmp k s.parts (n - 1)
  node_child n some le before after =
      let long = length-seen b ks vs cs s node is in
      let place = between cmp (λ q. is_gt (cmp q k) ≡ false) (λ q. is_gt (cmp q k) ≡ true) (λ q. cmp q k ≡ Less) (λ q. cmp q k ≡ Greater) (upto_low cmp total k) (λ y h. greater_is (cmp y k) h) (above_high cmp total k) ks (parts_of b ks vs cs) node.first_keys rising_inside n k (omega arith) le (before k) (after k) in
      rw (← is) record { in_range = place.0; among = record { before = place.1; beyond = place.2 } }

  module _ (leaf : b ≡ false) (n : ℕ) (before : (d : K) → 0 < n → is_lt (cmp (get_or ks (n - 1) d) k) ≡ true) where
    own : IsNode false ks vs cs
    own = rw leaf at node

    own_rising : IsRising cmp (joined (single_rows ks vs))
    own_rising = rw (leaf_parts b ks vs cs leaf) at rising_inside

    seen : single_rows ks vs ≡ s.parts
    seen = sym (leaf_parts b ks vs cs leaf) ∙ same_parts is

    pub node_row : (d : K) → n < length ks → is_eq (cmp (get_or ks n d) k) ≡ true → IsAt cmp k s.parts n
    node_row d lt equal = rw (← seen) (leaf_found cmp total k ks vs own.kind.1 own.first_keys own_rising n before d lt equal)

    pub node_gap : n ≤ length ks → (n < length ks → (is_lt (cmp (get_or ks n k) k) ≡ false) × (is_eq (cmp (get_or ks n k) k) ≡ false)) → IsGap cmp k s.parts n
    node_gap le after = rw (← seen) (leaf_gap cmp total k ks vs own.kind.1 own.first_keys own_rising n before le (λ lt. let h = after lt in greater_left _ h.0 h.1))

    -- the rows from k on
    pub node_from : n ≤ length ks → ((d : K) → n < length ks → is_lt (cmp (get_or ks n d) k) ≡ false) → rows_from cmp k (rows s) ≡ pairs (drop n ks) (drop n vs)
    node_from le after =
        let ps = single_rows ks vs in
        let all : rows s ≡ joined (take n ps) ++ joined (drop n ps) = ap joined (sym seen) ∙ joined-take-drop n ps in
        rw all (from_before_all cmp k (joined (take n ps)) (joined (drop n ps)) (leaf_before cmp total k ks vs own.kind.1 own.first_keys own_rising n before le)
        ∙ rows_from_all cmp k (joined (drop n ps)) (leaf_behind cmp total k ks vs own.kind.1 own.first_keys own_rising n before after)) ∙ ap joined (sym (drop-single_rows n ks vs))

  -- the value that stands at the place of k
  pub node_value : (n : ℕ) (v : V) → b ≡ false → IsAt cmp k s.parts n → v ≡ get_or vs n v → value_at cmp k (rows s) ≡ Some v
  node_value n v leaf at read =
      let same = (leaf_same b ks vs cs leaf node).1 in
      let long = length-seen b ks vs cs s node is in
      let here = ap (λ (p : List (List (K × V))). get_or p n []) (sym (same_parts is) ∙ leaf_parts b ks vs cs leaf) in
      let value = entry_value _ _ _ _ (here ∙ single_is ks vs n at.row.0 v same (let lt = at.in_range in omega arith)) at.row.2 in
      value_found cmp k s.parts n at ∙ ap Some (sym value ∙ sym read)

-- the first key behind a place of a node
pub behind_some : {K V : Type 0} (b : Bool) (ks : List K) (vs : List V) (cs : List (Subtree K V)) (s : Subtree K V) (i : ℕ) (k : K) → IsNode b ks vs cs → subtree_of b ks vs cs ≡ s → i < length ks → k ≡ get_or ks i k → first_key (joined (drop i s.parts)) ≡ Some k
behind_some {K} {V} b ks vs cs s i k node is lt read =
    subst (λ (t : Subtree K V). first_key (joined (drop i t.parts)) ≡ Some k) is (joined_first ks (parts_of b ks vs cs) i k node.first_keys lt ∙ ap Some (sym read))

pub behind_none : {K V : Type 0} (b : Bool) (ks : List K) (vs : List V) (cs : List (Subtree K V)) (s : Subtree K V) (i : ℕ) → IsNode b ks vs cs → subtree_of b ks vs cs ≡ s → length ks ≤ i → first_key (joined (drop i s.parts)) ≡ None
behind_none b ks vs cs s i node is le =
    let long = length-seen b ks vs cs s node is in
    let none = drop_all i s.parts (omega arith) in
    rw none refl
