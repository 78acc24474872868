-- Runs of rows that end at some key, and what lies before them.
use Rattle.tf_btree.proofs.Words.{◌≡◌, ℕ, zero, suc, ◌+◌, ◌-◌, ◌<◌, ◌≤◌, List, [], ◌∷◌, ◌++◌, length, map, take, drop, get_or, Some, None, Option, Bool, true, false, refl, sym, ◌∙◌, ap, subst, arith, inl, inr, append_assoc, filter, reverse, IsTotalOrder, tied_itself, option_or, Ordering, Less}
use Rattle.tf_btree.proofs.Words.{Equal, Bound, Included, Excluded, Unbounded, is_lt, is_gt, cases_lt, not-true, same_Some, append-nil, length-append, reverse-append, take_all, take_more, filter-append, Subtree, joined, rows, first_key, single_rows, parts_of, subtree_of, IsNode, IsRising}
use Rattle.tf_btree.proofs.Words.{rows_below, AllKeys, pairs, rows_of, AllLeaves, is_within, rows_to, rows_before, HasBefore, IsCut, IsRunTo, IsRunBefore, IsLastWithin}
use Rattle.tf_btree.proofs.Runs.{length-pairs, take-single_rows, same_take, single_rows-append}
use Rattle.tf_btree.proofs.Entries.{leaf_parts, get_or-first, same_parts, length-seen}
use Rattle.tf_btree.proofs.Leaves.{rows_of-append, AllLeaves-parts}
use Rattle.tf_btree.proofs.Order.{below_upto, less_is, IsRising-right, rising_across, AllKeys-map, filter-keys}
use Rattle.tf_btree.proofs.Parts.{joined-append, joined-take-drop, joined_split}
use Rattle.tf_btree.proofs.Placed.{joined-drop, first_key-append, behind_some, high_from, high_behind, between, leaf_low}

module _ {K : Type 0} (cmp : K → K → Ordering) (total : IsTotalOrder cmp) where
  -- what is less than a key within an end is within it too
  less_within : (end : Bound K) (x y : K) → is_within cmp end y ≡ true → cmp x y ≡ Less → is_within cmp end x ≡ true
  less_within (Included k) x y h l = rw (below_upto cmp total x y k (cmp y k) refl (not-true (is_gt (cmp y k)) h) l) refl
  less_within (Excluded k) x y h l = rw (total.trans x y k l (less_is (cmp y k) h)) refl
  less_within Unbounded x y h l = refl

filter_true : {X : Type 0} (xs : List X) → filter (λ (x : X). true) xs ≡ xs
filter_true [] = refl
filter_true (x ∷ xs) = ap (λ r. x ∷ r) (filter_true xs)

-- the rows within an end are those that pass its test
rows_to-filter : {K V : Type 0} (cmp : K → K → Ordering) (end : Bound K) (xs : List (K × V)) → rows_to cmp end xs ≡ filter (λ (r : K × V). is_within cmp end r.0) xs
rows_to-filter cmp (Included k) xs = refl
rows_to-filter cmp (Excluded k) xs = refl
rows_to-filter cmp Unbounded xs = sym (filter_true xs)

module _ {K : Type 0} (cmp : K → K → Ordering) (total : IsTotalOrder cmp) (end : Bound K) where
  -- so what is above a key that isn't within an end isn't either
  more_without : (x y : K) → is_within cmp end y ≡ false → cmp y x ≡ Less → is_within cmp end x ≡ false
  more_without x y out l = at (is_within cmp end x) refl
    where
      at : (b : Bool) → is_within cmp end x ≡ b → is_within cmp end x ≡ false
      at false e = e
      at true e = absurd (let in_end = less_within cmp total end y x e l in cc)

  pub without_from : {V : Type 0} (f : K) (ys : List (K × V)) → IsRising cmp ys → first_key ys ≡ Some f → is_within cmp end f ≡ false → AllKeys (λ (q : K). is_within cmp end q ≡ false) ys
  without_from {V} f ys h e out = high_from cmp (λ q. is_within cmp end q ≡ true) (λ q. is_within cmp end q ≡ false) (λ q. is_within cmp end q ≡ true) (λ q. is_within cmp end q ≡ false) (λ x y. less_within cmp total end x y) (λ y e. e) more_without f ys h e out

first_within : {K V : Type 0} (cmp : K → K → Ordering) (end : Bound K) (f : K) (ys : List (K × V)) → Some f ≡ first_key ys → is_within cmp end f ≡ true → 0 < length (rows_to cmp end ys)
first_within cmp end f [] e h = absurd (cc)
first_within {K} {V} cmp end f (y ∷ ys) e h = let own : is_within cmp end y.0 ≡ true = rw (same_Some f y.0 e) at h in rw (rows_to-filter cmp end (y ∷ ys), own) (omega arith)

module _ {K V : Type 0} (cmp : K → K → Ordering) (total : IsTotalOrder cmp) (end : Bound K) where
  -- the rows within an end, among some that are and some that aren't
  to-among : (a p c : List (K × V)) → AllKeys (λ (q : K). is_within cmp end q ≡ true) a → AllKeys (λ (q : K). is_within cmp end q ≡ false) c → rows_to cmp end (a ++ (p ++ c)) ≡ a ++ rows_to cmp end p
  to-among a p c within without =
      let t = is_within cmp end in
      let q = λ (r : K × V). t r.0 in
      rw (rows_to-filter cmp end (a ++ (p ++ c)), rows_to-filter cmp end p, filter-append q a (p ++ c), filter-append q p c, filter-keys t true a within, filter-keys t false c without, append-nil (filter q p)) refl

  -- the entry with the last key within the end has the last rows that are
  place_to : (ks : List K) (ps : List (List (K × V))) → map Some ks ≡ map first_key ps → IsRising cmp (joined ps) → (n : ℕ) → 0 < length ks → n ≤ length ks
      → ((d : K) → 0 < n → is_within cmp end (get_or ks (n - 1) d) ≡ true) → ((d : K) → n < length ks → is_within cmp end (get_or ks n d) ≡ false) → IsLastWithin cmp end ps (n - 1)
  place_to [] ps firsts rising n some le before after = absurd (omega arith)
  place_to (k ∷ ks) ps firsts rising n some le before after =
      let place = between cmp (λ q. is_within cmp end q ≡ true) (λ q. is_within cmp end q ≡ false) (λ q. is_within cmp end q ≡ true) (λ q. is_within cmp end q ≡ false) (λ x y. less_within cmp total end x y) (λ y e. e) (more_without cmp total end) (k ∷ ks) ps firsts rising n k some le (before k) (after k) in
      record {
        in_range = place.0;
        all = ap (rows_to cmp end) (joined_split ps (n - 1) [] place.0) ∙ to-among (joined (take (n - 1) ps)) (get_or ps (n - 1) []) (joined (drop (suc (n - 1)) ps)) place.1 place.2;
        some = λ later. first_within cmp end (get_or (k ∷ ks) (n - 1) k) (get_or ps (n - 1) []) (get_or-first (k ∷ ks) ps (n - 1) k [] firsts (omega arith)) (before k (omega arith));
      }

  -- the rows of a leaf up to the last key within the end
  leaf_rows_to : (ks : List K) (vs : List V) → length ks ≡ length vs → map Some ks ≡ map first_key (single_rows ks vs) → IsRising cmp (pairs ks vs) → (n : ℕ) → n ≤ length ks
      → ((d : K) → 0 < n → is_within cmp end (get_or ks (n - 1) d) ≡ true) → ((d : K) → n < length ks → is_within cmp end (get_or ks n d) ≡ false) → rows_to cmp end (pairs ks vs) ≡ pairs (take n ks) (take n vs)
  leaf_rows_to [] vs same firsts rising n le before after = let none : n ≡ 0 = omega arith in rw (none, rows_to-filter cmp end []) refl
  leaf_rows_to (k ∷ ks) vs same firsts rising n le before after =
      let ps = single_rows (k ∷ ks) vs in
      let within = leaf_low cmp (λ q. is_within cmp end q ≡ true) (λ q. is_within cmp end q ≡ false) (λ q. is_within cmp end q ≡ true) (λ q. is_within cmp end q ≡ false) (λ x y. less_within cmp total end x y) (λ y e. e) (more_without cmp total end) (λ y e. e) (k ∷ ks) vs same firsts rising n k le (before k) in
      let without = high_behind cmp (λ q. is_within cmp end q ≡ true) (λ q. is_within cmp end q ≡ false) (λ q. is_within cmp end q ≡ true) (λ q. is_within cmp end q ≡ false) (λ x y. less_within cmp total end x y) (λ y e. e) (more_without cmp total end) (k ∷ ks) ps firsts rising n k (after k) in
      ap (rows_to cmp end) (joined-take-drop n ps) ∙ to-among (joined (take n ps)) [] (joined (drop n ps)) within without ∙ rw (rows_to-filter cmp end []) (append-nil (joined (take n ps))) ∙ ap joined (sym (take-single_rows n (k ∷ ks) vs))

module _ {K V : Type 0} (cmp : K → K → Ordering) (total : IsTotalOrder cmp) (end : Bound K) (b : Bool) (ks : List K) (vs : List V) (cs : List (Subtree K V)) (s : Subtree K V)
    (node : IsNode b ks vs cs) (is : subtree_of b ks vs cs ≡ s) (rising : IsRising cmp (rows s)) (n : ℕ) (le : n ≤ length ks)
    (before : (d : K) → 0 < n → is_within cmp end (get_or ks (n - 1) d) ≡ true) (after : (d : K) → n < length ks → is_within cmp end (get_or ks n d) ≡ false) where
  -- the child with the last row within the end
  pub last_child : 0 < length s.parts → IsLastWithin cmp end s.parts (n - 1)
  last_child some =
      let long = length-seen b ks vs cs s node is in
      rw (← is) (place_to cmp total end ks (parts_of b ks vs cs) node.first_keys (rw (← is) at rising) n (omega arith) le before after)

  -- the rows of a leaf within the end
  pub leaf_to : b ≡ false → IsRunTo cmp end (rows s) (take n ks) (take n vs) [] None
  leaf_to leaf =
      let own = rw leaf at node in
      let the_rows : rows s ≡ pairs ks vs = ap joined (sym (same_parts is) ∙ leaf_parts b ks vs cs leaf) in
      let all : rows_to cmp end (rows s) ≡ pairs (take n ks) (take n vs) = rw the_rows (leaf_rows_to cmp total end ks vs own.kind.1 own.first_keys (rw the_rows at rising) n le before after) in
      let long = length-pairs (take n ks) (take n vs) (same_take n ks vs own.kind.1) in
      record {
        same = same_take n ks vs own.kind.1;
        filled = tt;
        front = [];
        back = rows s;
        split = refl;
        cut = refl;
        all = all;
        some = λ lt. omega (arith, ap length all);
      }

-- the rows before an entry that isn't the first
pub front_some : {K V : Type 0} (ks : List K) (ps : List (List (K × V))) (i : ℕ) → map Some ks ≡ map first_key ps → 0 < i → i < length ks → 0 < length (joined (take i ps))
front_some ks ps zero e lt below = absurd (omega arith)
front_some [] ps (suc i) e lt below = absurd (omega arith)
front_some (k ∷ ks) [] (suc i) e lt below = absurd (cc)
front_some (k ∷ ks) ([] ∷ ps) (suc i) e lt below = absurd (let t : Some k ∷ map Some ks ≡ None ∷ map first_key ps = e in cc)
front_some (k ∷ ks) ((x ∷ p) ∷ ps) (suc i) e lt below = omega arith

-- the key of an entry cuts the rows, where there are earlier ones
pub cut_some : {K V : Type 0} (b : Bool) (ks : List K) (vs : List V) (cs : List (Subtree K V)) (s : Subtree K V) (i : ℕ) (k : K) → IsNode b ks vs cs → subtree_of b ks vs cs ≡ s → 0 < i → i < length ks → k ≡ get_or ks i k → IsCut (Some k) (joined (take i s.parts)) (joined (drop i s.parts))
cut_some {K} {V} b ks vs cs s i k node is some lt read =
    (subst (λ (t : Subtree K V). 0 < length (joined (take i t.parts))) is (front_some ks (parts_of b ks vs cs) i node.first_keys some lt), behind_some b ks vs cs s i k node is lt read)

cut_over : {K V : Type 0} (before own : Option K) (a f r c : List (K × V)) → IsCut before f r → IsCut own a ((f ++ r) ++ c) → IsCut (option_or before own) (a ++ f) (r ++ c)
cut_over None own a f r c none h = let e : f ≡ [] = none in let h' = rw e at h in rw (e, append-nil a) h'
cut_over (Some k) own a f r c cut h = (omega (arith, length-append a f, cut.0), first_key-append r c k cut.1)

-- where a branch has rows within the end, so has the child with the last of them
some_below : {K V : Type 0} (cmp : K → K → Ordering) (end : Bound K) (ps : List (List (K × V))) (i : ℕ) (p : List (K × V)) → IsLastWithin cmp end ps i → get_or ps i [] ≡ p → 0 < length (rows_to cmp end (joined ps)) → 0 < length (rows_to cmp end p)
some_below {K} {V} cmp end ps i p h entry lt =
    let within : rows_to cmp end (get_or ps i []) ≡ rows_to cmp end p = ap (rows_to cmp end) entry in
    subst (λ (r : List (K × V)). 0 < length r) within (elim (cases_lt 0 i) [
      | inl later ↦ h.some later
      | inr first ↦ let at : i ≡ 0 = omega arith in
          let none : joined (take i ps) ≡ [] = ap (λ (j : ℕ). joined (take j ps)) at in
          let all : rows_to cmp end (joined ps) ≡ rows_to cmp end (get_or ps i []) = h.all ∙ ap (λ (r : List (K × V)). r ++ rows_to cmp end (get_or ps i [])) none in
          subst (λ (r : List (K × V)). 0 < length r) all lt
    ])

-- a run of a leaf is one of the branch over it, with the leaves before it
pub bottom_run_to : {K V : Type 0} (cmp : K → K → Ordering) (end : Bound K) (ps : List (List (K × V))) (i : ℕ) (p : List (K × V)) (ks : List K) (vs : List V) (leaves : List (Subtree K V)) → IsLastWithin cmp end ps i → get_or ps i [] ≡ p
    → IsRunTo cmp end p ks vs [] None → rows_of leaves ≡ joined (take i ps) → AllLeaves leaves → IsRunTo cmp end (joined ps) ks vs leaves None
bottom_run_to {K} {V} cmp end ps i p ks vs leaves h entry run all filled =
    let own : rows_to cmp end (get_or ps i []) ≡ pairs ks vs = ap (rows_to cmp end) entry ∙ run.all ∙ ap (λ (r : List (K × V)). r ++ ([] ++ pairs ks vs)) run.cut in
    record {
      same = run.same;
      filled = filled;
      front = [];
      back = joined ps;
      split = refl;
      cut = refl;
      all = h.all ∙ ap (λ (r : List (K × V)). joined (take i ps) ++ r) own ∙ ap (λ (r : List (K × V)). r ++ pairs ks vs) (sym all);
      some = λ lt. run.some (some_below cmp end ps i p h entry lt);
    }

-- a run of a child is one of its branch, with what comes before in the branch
pub branch_run_to : {K V : Type 0} (cmp : K → K → Ordering) (end : Bound K) (ps : List (List (K × V))) (i : ℕ) (p : List (K × V)) (ks : List K) (vs : List V) (leaves : List (Subtree K V)) (before own : Option K) → IsLastWithin cmp end ps i → get_or ps i [] ≡ p
    → IsRunTo cmp end p ks vs leaves before → IsCut own (joined (take i ps)) (joined (drop i ps)) → IsRunTo cmp end (joined ps) ks vs leaves (option_or before own)
branch_run_to {K} {V} cmp end ps i p ks vs leaves before own h entry run cut =
    let a = joined (take i ps) in
    let c = joined (drop (suc i) ps) in
    let behind : joined (drop i ps) ≡ (run.front ++ run.back) ++ c = joined-drop ps i [] h.in_range ∙ ap (λ (r : List (K × V)). r ++ c) (entry ∙ run.split) in
    let split : joined ps ≡ a ++ ((run.front ++ run.back) ++ c) = joined-take-drop i ps ∙ ap (λ (r : List (K × V)). a ++ r) behind in
    let within : rows_to cmp end (get_or ps i []) ≡ rows_to cmp end p = ap (rows_to cmp end) entry in
    record {
      same = run.same;
      filled = run.filled;
      front = a ++ run.front;
      back = run.back ++ c;
      split = split ∙ ap (λ (r : List (K × V)). a ++ r) (append_assoc run.front run.back c) ∙ sym (append_assoc a run.front (run.back ++ c));
      cut = cut_over before own a run.front run.back c run.cut (subst (λ (r : List (K × V)). IsCut own a r) behind cut);
      all = h.all ∙ ap (λ (r : List (K × V)). a ++ r) (within ∙ run.all) ∙ sym (append_assoc a run.front (rows_of leaves ++ pairs ks vs));
      some = λ lt. run.some (some_below cmp end ps i p h entry lt);
    }

-- what lies before a run: the rows before its leaf's key, and some are there
pub cut_facts : {K V : Type 0} (cmp : K → K → Ordering) (total : IsTotalOrder cmp) (front back : List (K × V)) (before : Option K) → IsRising cmp (front ++ back) → IsCut before front back → (rows_before cmp before (front ++ back) ≡ front) × HasBefore cmp before (front ++ back)
cut_facts cmp total front back None h none = (sym none, tt)
cut_facts {K} {V} cmp total front back (Some k) h cut =
    let tied : cmp k k ≡ Equal = tied_itself total k in
    let low = AllKeys-map _ _ (λ q less. ap is_lt less) front (rising_across cmp front back k h cut.1) in
    let high = without_from cmp total (Excluded k) k back (IsRising-right cmp front back h) cut.1 (rw tied refl) in
    let all : rows_below cmp k (front ++ back) ≡ front = to-among cmp total (Excluded k) front [] back low high ∙ append-nil front in
    (all, subst (λ (r : List (K × V)). 0 < length r) (sym all) cut.0)

pub run_facts : {K V : Type 0} (cmp : K → K → Ordering) (total : IsTotalOrder cmp) (end : Bound K) (all_rows : List (K × V)) (ks : List K) (vs : List V) (leaves : List (Subtree K V)) (before : Option K) (run : IsRunTo cmp end all_rows ks vs leaves before) → IsRising cmp all_rows
    → (rows_to cmp end all_rows ≡ rows_before cmp before all_rows ++ (rows_of leaves ++ pairs ks vs)) × HasBefore cmp before all_rows
run_facts {K} {V} cmp total end all_rows ks vs leaves before run rising =
    let facts = cut_facts cmp total run.front run.back before (subst (λ (r : List (K × V)). IsRising cmp r) run.split rising) run.cut in (
      run.all ∙ ap (λ (r : List (K × V)). r ++ (rows_of leaves ++ pairs ks vs)) (sym facts.0 ∙ ap (λ (r : List (K × V)). rows_before cmp before r) (sym run.split)),
      subst (λ (r : List (K × V)). HasBefore cmp before r) (sym run.split) facts.1,
    )

-- a run of which all rows are left
pub whole_run : {K V : Type 0} (front mid : List (K × V)) (ks : List K) (vs : List V) → length ks ≡ length vs → front ++ (mid ++ pairs (take (length ks) ks) (take (length ks) vs)) ≡ front ++ (mid ++ pairs ks vs)
whole_run front mid ks vs same = rw (take_all (length ks) ks (omega arith), take_all (length ks) vs (omega arith)) refl

-- one row less at the end of a run is one less at the head of what is left downwards
pub back_step : {K V : Type 0} (front mid : List (K × V)) (ks : List K) (vs : List V) (at n : ℕ) (d : K) (e : V) → length ks ≡ length vs → at ≡ n + 1 → at ≤ length ks
    → reverse (front ++ (mid ++ pairs (take at ks) (take at vs))) ≡ (get_or ks n d, get_or vs n e) ∷ reverse (front ++ (mid ++ pairs (take n ks) (take n vs)))
back_step {K} {V} front mid ks vs at n d e same place within =
    let k = get_or ks n d in
    let v = get_or vs n e in
    let some : n < length ks = omega arith in
    let keys : take at ks ≡ take n ks ++ k ∷ [] = ap (λ (m : ℕ). take m ks) place ∙ take_more ks n d some in
    let values : take at vs ≡ take n vs ++ v ∷ [] = ap (λ (m : ℕ). take m vs) place ∙ take_more vs n e (omega arith) in
    let last : pairs (take at ks) (take at vs) ≡ pairs (take n ks) (take n vs) ++ (k, v) ∷ [] =
    rw (keys, values) (ap joined (single_rows-append (take n ks) (k ∷ []) (take n vs) (v ∷ []) (same_take n ks vs same)) ∙ joined-append (single_rows (take n ks) (take n vs)) (((k, v) ∷ []) ∷ [])) in
    let all : front ++ (mid ++ pairs (take at ks) (take at vs)) ≡ (front ++ (mid ++ pairs (take n ks) (take n vs))) ++ (k, v) ∷ [] =
    ap (λ (r : List (K × V)). front ++ (mid ++ r)) last ∙ ap (λ (r : List (K × V)). front ++ r) (sym (append_assoc mid (pairs (take n ks) (take n vs)) ((k, v) ∷ []))) ∙ sym (append_assoc front (mid ++ pairs (take n ks) (take n vs)) ((k, v) ∷ [])) in
    ap reverse all ∙ reverse-append (front ++ (mid ++ pairs (take n ks) (take n vs))) ((k, v) ∷ [])

-- a run that is used up leaves the rows before it, which the next run takes up
pub back_refill : {K V : Type 0} (cmp : K → K → Ordering) (all_rows : List (K × V)) (leaves earlier : List (Subtree K V)) (before further : Option K) (ks ks' : List K) (vs vs' : List V) (at : ℕ) (left : List (K × V)) → IsRunBefore cmp all_rows leaves before ks' vs' earlier further → at ≡ 0
    → reverse (rows_before cmp before all_rows ++ (rows_of leaves ++ pairs (take at ks) (take at vs))) ≡ left → reverse (rows_before cmp further all_rows ++ (rows_of earlier ++ pairs (take (length ks') ks') (take (length ks') vs'))) ≡ left
back_refill {K} {V} cmp all_rows leaves earlier before further ks ks' vs vs' at left run none is =
    let used : rows_before cmp before all_rows ++ (rows_of leaves ++ pairs (take at ks) (take at vs)) ≡ rows_before cmp before all_rows ++ rows_of leaves = rw none (ap (λ (r : List (K × V)). rows_before cmp before all_rows ++ r) (append-nil (rows_of leaves))) in
    let whole = whole_run (rows_before cmp further all_rows) (rows_of earlier) ks' vs' run.same in
    ap reverse (whole ∙ sym run.all ∙ sym used) ∙ is

-- the last of leaves is one
pub last_low : {K V : Type 0} (cs earlier : List (Subtree K V)) (leaf : Subtree K V) → cs ≡ earlier ++ leaf ∷ [] → AllLeaves cs → leaf.height ≡ 0
last_low {K} {V} cs earlier leaf is filled = (AllLeaves-parts earlier (leaf ∷ []) (subst (λ (r : List (Subtree K V)). AllLeaves r) is filled)).1.0

-- the run of the last leaf, and what is before it
pub last_leaf : {K V : Type 0} (cmp : K → K → Ordering) (all_rows : List (K × V)) (before : Option K) (cs earlier : List (Subtree K V)) (leaf : Subtree K V) (ks : List K) (vs : List V) → cs ≡ earlier ++ leaf ∷ [] → AllLeaves cs
    → length ks ≡ length vs → pairs ks vs ≡ rows leaf → length ks ≡ length leaf.parts → HasBefore cmp before all_rows → IsRunBefore cmp all_rows cs before ks vs earlier before
last_leaf {K} {V} cmp all_rows before cs earlier leaf ks vs is filled same own long more =
    let split : rows_of cs ≡ rows_of earlier ++ pairs ks vs = ap (λ (r : List (Subtree K V)). rows_of r) is ∙ rows_of-append earlier (leaf ∷ []) ∙ ap (λ (r : List (K × V)). rows_of earlier ++ r) (append-nil (rows leaf) ∙ sym own) in
    let parts = AllLeaves-parts earlier (leaf ∷ []) (subst (λ (r : List (Subtree K V)). AllLeaves r) is filled) in
    let some : 0 < length leaf.parts = parts.1.1 in
    record {
      same = same;
      some = omega arith;
      filled = parts.0;
      all = ap (λ (r : List (K × V)). rows_before cmp before all_rows ++ r) split;
      more = more;
    }
