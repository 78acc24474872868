-- The first of a list in a direction, and keys whose rows have one value.
use Rattle.std.proofs.Common.{◌≡◌, ℕ, suc, ◌+◌, ◌-◌, ◌<◌, ◌≤◌, List, [], ◌∷◌, ◌++◌, Option, Some, None, Bool, true, false, not, refl, sym, ◌∙◌, ap, subst, arith, length, take, drop, set}
use Rattle.std.specs.Prelude.{map, replicate}
use Rattle.std.specs.List.{zip, AllByRecursion}
use Rattle.std.specs.Ordering.{nat_cmp, ordering_then, is_lt, is_gt}
use Rattle.std.specs.declared.cmp.Ordering.TheVariants.{Less}
use Rattle.std.proofs.lemmas.Map.Lookups.{exact_unsigned}
use Rattle.std.proofs.lemmas.List.{length_push, take_all, take-append-le, length-map, map-append}
use denote.Ref.{Bor}
use Rattle.tf_table.specs.declared.key.Key.{Key}
use Rattle.tf_table.specs.declared.column.Column.{Column}
use Rattle.tf_table.specs.declared.column.Column.TheVariants.{Same}
use Rattle.tf_table.specs.Column.{column_of}
use Rattle.tf_sorted.specs.Rows.{AllAfter, IsRising}
use Rattle.tf_sorted.proofs.Order.{greater_from_less}
use Rattle.tf_table.specs.Key.{key_cmp}
use Rattle.tf_table.specs.Content.{values_of}
use Rattle.tf_table.proofs.Keys.{keys_total}
use Rattle.tf_table.proofs.Rising.{is_gt_is}
use Rattle.tf_manifest.specs.Rows.{key_of}
use Rattle.tf_table.specs.Span.{timestamps}
use Rattle.tf_scan.specs.declared.direction.Direction.{Direction}
use Rattle.tf_scan.specs.declared.direction.Direction.TheVariants.{Rising, Falling}
use Rattle.tf_scan.specs.Order.{is_before}
use Rattle.tf_scan.specs.Place.{is_past, IsTaken}
use Rattle.tf_scan.specs.Run.{AreFirst, IsBelowAll, AreRising, EndsArePast, without, AreWritten, WritesKeys, WritesRows}
use Rattle.tf_scan.proofs.Order.{before-self, before-trans, before-total}
use Rattle.tf_scan.proofs.Entries.{below_is, above_is}
use Rattle.tf_scan.proofs.Taking.{between}
use Rattle.tf_scan.proofs.Moves.{written-none, written-more}

-- ---- the first of a list

pub taken-long : {X : Type 0} (d : Direction) (x : X) (old mid : List X) → IsTaken d x old mid → length old ≡ suc (length mid)
taken-long Rising x old mid e = ap length e
taken-long Falling x old mid e = ap length e ∙ omega (arith, length_push mid x)

without-none : {X : Type 0} (d : Direction) (xs : List X) → without d 0 xs ≡ xs
without-none Rising xs = refl
without-none Falling xs = take_all (length xs - 0) xs (omega arith)

without-one : {X : Type 0} (d : Direction) (x : X) (n : ℕ) (old mid : List X) → IsTaken d x old mid → without d n mid ≡ without d (suc n) old
without-one Rising x n old mid e = ap (drop (suc n)) (sym e)
without-one {X} Falling x n old mid e =
    let same : length old - suc n ≡ length mid - n = omega (arith, taken-long Falling x old mid e) in
    sym (ap (λ m. take m old) same ∙ ap (take (length mid - n)) e ∙ take-append-le (length mid - n) mid (x ∷ []) (omega arith))

module _ {X : Type 0} (time : X → ℕ) (d : Direction) (until : Option ℕ) where
  first-more : (xs : List X) (x : X) (old mid new : List X) → AreFirst time d until xs old mid → IsTaken d x mid new → is_past d (time x) until ≡ true → AreFirst time d until (xs ++ x ∷ []) old new
  first-more [] x old mid new a e p = (new, subst (λ (ys : List X). IsTaken d x ys new) a e, p, refl)
  first-more (y ∷ xs) x old mid new a e p = (a.0, a.1, a.2, first-more xs x a.0 mid new a.3 e p)

  pub first-long : (xs old new : List X) → AreFirst time d until xs old new → length old ≡ length xs + length new
  first-long [] old new a = omega (arith, ap length a)
  first-long (x ∷ xs) old new a = omega (arith, taken-long d x old a.0 a.1, first-long xs a.0 new a.3)

  pub first-rest : (xs old new : List X) → AreFirst time d until xs old new → new ≡ without d (length xs) old
  first-rest [] old new a = a ∙ sym (without-none d old)
  first-rest (x ∷ xs) old new a = first-rest xs a.0 new a.3 ∙ without-one d x (length xs) old a.0 a.1

all-last : {X : Type 0} (P : X → Type 0) (x : X) (xs : List X) → AllByRecursion P (xs ++ x ∷ []) → P x × AllByRecursion P xs
all-last P x [] h = (h.0, tt)
all-last P x (y ∷ xs) h = let l = all-last P x xs h.1 in (l.0, (h.0, l.1))

taken-all : {X : Type 0} (P : X → Type 0) (d : Direction) (x : X) (old mid : List X) → IsTaken d x old mid → AllByRecursion P old → P x × AllByRecursion P mid
taken-all P Rising x old mid e h = subst (AllByRecursion P) e h
taken-all P Falling x old mid e h = all-last P x mid (subst (AllByRecursion P) e h)

-- what is taken whatever its timestamps, of those that all come before one
first-until : {X : Type 0} (time : X → ℕ) (d : Direction) (until : Option ℕ) (xs old new : List X) → AreFirst time d None xs old new → AllByRecursion (λ x. is_past d (time x) until ≡ true) old → AreFirst time d until xs old new
first-until time d until [] old new a h = a
first-until time d until (x ∷ xs) old new a h =
    let t = taken-all (λ y. is_past d (time y) until ≡ true) d x old a.0 a.1 h in
    (a.0, a.1, t.0, first-until time d until xs a.0 new a.3 t.1)

-- ---- keys of which the first were written

abbrev time : Key → ℕ
time key = key.timestamp

module _ (d : Direction) (until : Option ℕ) where
  pub keys-none : (i : ℕ) (keys : List Key) (out : List ℕ) → i ≤ length out → (w : WritesKeys d until i i keys out out) × (w.others ≡ keys)
  keys-none i keys out l = (record { first = []; others = keys; taken = refl; written = written-none i out l }, refl)

  pub keys-more : (from to : ℕ) (keys left others : List Key) (xs ys : List ℕ) → (w : WritesKeys d until from to keys xs ys) × (w.others ≡ left) → (key : Key) → IsTaken d key left others → is_past d key.timestamp until ≡ true → to < length xs
      → (w : WritesKeys d until from (to + 1) keys xs (set ys to key.timestamp)) × (w.others ≡ others)
  keys-more from to keys left others xs ys w key e p l = (
    record {
      first = w.0.first ++ key ∷ [];
      others = others;
      taken = first-more time d until w.0.first key keys w.0.others others w.0.taken (subst (λ (ks : List Key). IsTaken d key ks others) (sym w.1) e) p;
      written = subst (λ ts. AreWritten ts from (to + 1) xs (set ys to key.timestamp)) (sym (map-append time w.0.first (key ∷ []))) (written-more (map time w.0.first) from to xs ys w.0.written key.timestamp l);
    },
    refl,
  )

  -- as many were written as were taken
  keys-within : (from to : ℕ) (keys : List Key) (xs ys : List ℕ) (w : WritesKeys d until from to keys xs ys) → (from ≤ to) × (to - from ≤ length keys)
  keys-within from to keys xs ys w =
      let many = length-map w.first time in
      let long = first-long time d until w.first keys w.others w.taken in
      (omega (arith, w.written.count), omega (arith, w.written.count, many, long))

-- ---- keys that rise between ends of one value

self-lt : (key : Key) → is_lt (key_cmp key key) ≡ false
self-lt key = below_is key.value key.timestamp key.timestamp ∙ before-self Rising key.timestamp

at-or-above : (least : Key) (keys : List Key) → IsBelowAll least keys → AllByRecursion (λ (key : Key). is_lt (key_cmp key least) ≡ false) keys
at-or-above least [] b = tt
at-or-above least (key ∷ keys) b = (ap is_lt (greater_from_less key_cmp keys_total least key b.0), at-or-above least keys b.1)

below-last : (key greatest : Key) (keys : List Key) → IsBelowAll key (keys ++ greatest ∷ []) → key_cmp key greatest ≡ Less
below-last key greatest [] b = b.0
below-last key greatest (k ∷ keys) b = below-last key greatest keys b.1

at-or-below : (greatest : Key) (keys : List Key) → AreRising (keys ++ greatest ∷ []) → AllByRecursion (λ (key : Key). is_gt (key_cmp key greatest) ≡ false) (keys ++ greatest ∷ [])
at-or-below greatest [] a = (is_gt_is key_cmp keys_total greatest greatest ∙ self-lt greatest, tt)
at-or-below greatest (key ∷ keys) a = (ap is_gt (below-last key greatest keys a.0), at-or-below greatest keys a.1)

past-from : (d : Direction) (until : Option ℕ) (t u : ℕ) → is_before d u t ≡ false → is_past d u until ≡ true → is_past d t until ≡ true
past-from d None t u e p = refl
past-from d (Some n) t u e p = step (is_before d t u) refl
  where
    step : (b : Bool) → is_before d t u ≡ b → is_before d t n ≡ true
    step true f = before-trans d t u n f p
    step false f = subst (λ w. is_before d w n ≡ true) (sym (before-total d t u f e)) p

module _ (d : Direction) (until : Option ℕ) (keys : List Key) (rising : AreRising keys) (ends : EndsArePast d until keys) where
  value-between : (key : Key) → is_lt (key_cmp key ends.least) ≡ false → is_gt (key_cmp key ends.greatest) ≡ false → key.value ≡ ends.least.value
  value-between key e f =
      let high = subst (λ w. is_gt (ordering_then (nat_cmp key.value w) (nat_cmp key.timestamp ends.greatest.timestamp)) ≡ false) (sym ends.value) f in
      exact_unsigned key.value ends.least.value (between (nat_cmp key.value ends.least.value) (nat_cmp key.timestamp ends.least.timestamp) (nat_cmp key.timestamp ends.greatest.timestamp) (ap not e) (ap not high))

  past-between : (key : Key) → is_lt (key_cmp key ends.least) ≡ false → is_gt (key_cmp key ends.greatest) ≡ false → is_past d key.timestamp until ≡ true
  past-between key e f = by d ends.past_least ends.past_greatest
    where
      same : key.value ≡ ends.least.value
      same = value-between key e f

      by : (dir : Direction) → is_past dir ends.least.timestamp until ≡ true → is_past dir ends.greatest.timestamp until ≡ true → is_past dir key.timestamp until ≡ true
      by Rising l g = past-from Rising until key.timestamp ends.greatest.timestamp (sym (above_is key.value key.timestamp ends.greatest.timestamp) ∙ subst (λ w. is_gt (key_cmp key (key_of w ends.greatest.timestamp)) ≡ false) (sym (same ∙ ends.value)) f) g
      by Falling l g = past-from Falling until key.timestamp ends.least.timestamp (sym (below_is key.value key.timestamp ends.least.timestamp) ∙ subst (λ w. is_lt (key_cmp key (key_of w ends.least.timestamp)) ≡ false) (sym same) e) l

  all-past : AllByRecursion (λ (key : Key). is_past d key.timestamp until ≡ true) keys
  all-past = both keys low high
    where
      low : AllByRecursion (λ (key : Key). is_lt (key_cmp key ends.least) ≡ false) keys
      low = subst (AllByRecursion (λ (key : Key). is_lt (key_cmp key ends.least) ≡ false)) (sym ends.first) (self-lt ends.least, at-or-above ends.least ends.above (subst AreRising ends.first rising).0)

      high : AllByRecursion (λ (key : Key). is_gt (key_cmp key ends.greatest) ≡ false) keys
      high = subst (AllByRecursion (λ (key : Key). is_gt (key_cmp key ends.greatest) ≡ false)) (sym ends.last) (at-or-below ends.greatest ends.below (subst AreRising ends.last rising))

      both : (ks : List Key) → AllByRecursion (λ (key : Key). is_lt (key_cmp key ends.least) ≡ false) ks → AllByRecursion (λ (key : Key). is_gt (key_cmp key ends.greatest) ≡ false) ks → AllByRecursion (λ (key : Key). is_past d key.timestamp until ≡ true) ks
      both [] e f = tt
      both (k ∷ ks) e f = (past-between k e.0 f.0, both ks e.1 f.1)

  pub keys-endless : (from to : ℕ) (xs ys : List ℕ) → WritesKeys d None from to keys xs ys → WritesKeys d until from to keys xs ys
  keys-endless from to xs ys w = record { first = w.first; others = w.others; taken = first-until time d until w.first keys w.others w.taken all-past; written = w.written }

-- ---- their rows, of which each has this value

zip-same : {K E : Type 0} (ks : List K) (e : E) → zip ks (replicate (length ks) e) ≡ map (λ k. (k, e)) ks
zip-same [] e = refl
zip-same {K} {E} (k ∷ ks) e = ap (λ (rows : List (K × E)). (k, e) ∷ rows) (zip-same ks e)

module _ {V : Type 0} (x : V) where
  abbrev row : Key → Key × Option V
  row key = (key, Some x)

  taken-rows : (d : Direction) (key : Key) (old new : List Key) → IsTaken d key old new → IsTaken d (row key) (map row old) (map row new)
  taken-rows Rising key old new e = ap (map row) e
  taken-rows Falling key old new e = ap (map row) e ∙ map-append row new (key ∷ [])

  first-rows : (d : Direction) (until : Option ℕ) (ks old new : List Key) → AreFirst time d until ks old new → AreFirst (λ (r : Key × Option V). r.0.timestamp) d until (map row ks) (map row old) (map row new)
  first-rows d until [] old new a = ap (map row) a
  first-rows d until (k ∷ ks) old new a = (map row a.0, taken-rows d k old a.0 a.1, a.2, first-rows d until ks a.0 new a.3)

  below-rows : (key : Key) (ks : List Key) → AllAfter key_cmp key (map row ks) → IsBelowAll key ks
  below-rows key [] a = tt
  below-rows key (k ∷ ks) a = (a.0, below-rows key ks a.1)

  rising-rows : (ks : List Key) → IsRising key_cmp (map row ks) → AreRising ks
  rising-rows [] a = tt
  rising-rows (k ∷ ks) a = (below-rows k ks a.0, rising-rows ks a.1)

  live-rows : (ks : List Key) → map time ks ≡ timestamps (values_of (map row ks))
  live-rows [] = refl
  live-rows (k ∷ ks) = ap (λ (ts : List ℕ). k.timestamp ∷ ts) (live-rows ks)

module _ {V : Type 0} (keys : List Key) (entries : Column V) (value : Bor V) (old : List (Key × Option V)) (is : entries ≡ Same (Some value)) (e : zip keys (column_of (length keys) entries) ≡ old) (rising : IsRising key_cmp old) where
  all : map (row value.now) keys ≡ old
  all = sym (zip-same keys (Some value.now)) ∙ ap (λ es. zip keys (column_of (length keys) es)) (sym is) ∙ e

  module _ (d : Direction) (until : Option ℕ) (from to : ℕ) (xs ys : List ℕ) (f : AreRising keys → WritesKeys d until from to keys xs ys) where
    w : WritesKeys d until from to keys xs ys
    w = f (rising-rows value.now keys (subst (λ (rows : List (Key × Option V)). IsRising key_cmp rows) (sym all) rising))

    pub rows-before : from ≤ to
    rows-before = (keys-within d until from to keys xs ys w).0

    pub rows-within : to - from ≤ length old
    rows-within = omega (arith, (keys-within d until from to keys xs ys w).1, ap length all, length-map keys (row value.now))

    pub rows-written : (new : List (Key × Option V)) → new ≡ without d (to - from) old → WritesRows d until from to old new xs ys
    rows-written new same =
        let many : length (map (row value.now) w.first) ≡ to - from = omega (arith, length-map w.first (row value.now), length-map w.first time, w.written.count) in
        let taken = first-rows value.now d until w.first keys w.others w.taken in
        let left : map (row value.now) w.others ≡ new = first-rest (λ (r : Key × Option V). r.0.timestamp) d until (map (row value.now) w.first) (map (row value.now) keys) (map (row value.now) w.others) taken
        ∙ ap (λ n. without d n (map (row value.now) keys)) many
        ∙ ap (without d (to - from)) all
        ∙ sym same in
        record {
          rows = map (row value.now) w.first;
          taken =
              subst (λ (rows : List (Key × Option V)). AreFirst (λ (r : Key × Option V). r.0.timestamp) d until (map (row value.now) w.first) old rows) left
              (subst (λ (rows : List (Key × Option V)). AreFirst (λ (r : Key × Option V). r.0.timestamp) d until (map (row value.now) w.first) rows (map (row value.now) w.others)) all taken);
          written = subst (λ ts. AreWritten ts from to xs ys) (live-rows value.now w.first) w.written;
        }
