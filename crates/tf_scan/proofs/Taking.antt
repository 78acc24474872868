-- Steps of a place: how its rows change as they are taken out.
use Rattle.std.proofs.Common.{◌≡◌, ◌≢◌, ℕ, ◌-◌, ◌^◌, List, [], ◌∷◌, ◌++◌, Option, Some, None, Bool, true, false, not, ◌&&◌, cond, refl, sym, ◌∙◌, ap, subst, arith, length}
use Rattle.std.specs.Prelude.{nat_eq, nat_lt, suc, map, slice_get, MatchOption}
use Rattle.std.specs.List.{filter, zip, AllByRecursion}
use Rattle.std.specs.Ordering.{is_lt, is_gt}
use Rattle.std.specs.declared.cmp.Ordering.TheVariants.{Less, Equal, Greater}
use Rattle.std.specs.Option.{option_eq}
use Rattle.std.specs.Ordering.{nat_cmp, ordering_then}
use Rattle.std.specs.declared.cmp.Ordering.{Ordering}
use Rattle.std.proofs.lemmas.Bool.{eqb-true, eq-eqb, lt-ltb, ltb-true, ltb-false}
use Rattle.std.proofs.lemmas.List.{map-append}
use Rattle.std.proofs.lemmas.Map.Lookups.{exact_unsigned}
use denote.Ref.{Bor}
use Rattle.tf_sorted.specs.Rows.{AllAfter, IsRising}
use Rattle.tf_table.specs.declared.key.Key.{Key}
use Rattle.tf_table.specs.declared.span.Span.{Span}
use Rattle.tf_table.specs.Key.{key_cmp}
use Rattle.tf_table.specs.declared.column.Column.{Column}
use Rattle.tf_table.specs.Column.{AreRuns, column_of}
use Rattle.tf_table.specs.Content.{entry_at, first_some}
use Rattle.tf_table.specs.Merge.{seen}
use Rattle.tf_table.specs.Span.{timestamps}
use Rattle.tf_table.proofs.Keys.{keys_total, exact_keys}
use Rattle.tf_table.proofs.Rising.{value_at-append}
use Rattle.tf_table.proofs.Determined.{bool_cases, IsRising-filter, first_some-none}
use Rattle.tf_manifest.specs.Rows.{key_of}
use Rattle.tf_scan.specs.declared.direction.Direction.{Direction}
use Rattle.tf_scan.specs.declared.direction.Direction.TheVariants.{Rising, Falling}
use Rattle.tf_scan.specs.declared.place.Place.{Place}
use Rattle.tf_scan.specs.declared.place.Place.TheVariants.{Closed, Open, End}
use Rattle.tf_scan.specs.Order.{is_before, AllBehind}
use Rattle.tf_scan.specs.Sets.{is_among}
use Rattle.tf_scan.specs.Place.{rows_within, rows_left, span_from, last_in, first_in, nearest_in, is_past, is_within, IsFrom, IsAt, IsPlace, IsTaken, rows_behind, Keeps, opened, Takes, Seeks}
use Rattle.tf_scan.proofs.Order.{before-self, before-asym, before-total, before-trans, before-past}
use Rattle.tf_scan.proofs.Members.{false_true, among-self, behind-among}
use Rattle.tf_scan.proofs.Entries.{below_is, entry-other, entry-here, entry-absent, entry-from, entry-upto, entry-within, both}

-- ---- the timestamp that comes first

last-push : (t : ℕ) (ts : List ℕ) → last_in (ts ++ t ∷ []) ≡ Some t
last-push t [] = refl
last-push t (u ∷ []) = refl
last-push t (u ∷ w ∷ ts) = last-push t (w ∷ ts)

pub first-taken : (d : Direction) (t : ℕ) (old new : List ℕ) → IsTaken d t old new → first_in d old ≡ Some t
first-taken Rising t old new e = ap (λ (ts : List ℕ). slice_get ts 0) e
first-taken Falling t old new e = ap last_in e ∙ last-push t new

pub first-empty : (d : Direction) → first_in d [] ≡ None
first-empty Rising = refl
first-empty Falling = refl

-- the timestamp of what was taken is the one that comes first
pub time-taken : {X : Type 0} (time : X → ℕ) (d : Direction) (x : X) (old new : List X) → IsTaken d x old new → first_in d (map time old) ≡ Some (time x)
time-taken time d x old new e = first-taken d (time x) (map time old) (map time new) (by d e)
  where
    by : (d : Direction) → IsTaken d x old new → IsTaken d (time x) (map time old) (map time new)
    by Rising e = ap (map time) e
    by Falling e = ap (map time) e ∙ map-append time new (x ∷ [])

-- some come first, where there are some
first-split : {X : Type 0} (d : Direction) (x : X) (xs : List X) → (y : X) × (others : List X) × IsTaken d y (x ∷ xs) others
first-split Rising x xs = (x, xs, refl)
first-split Falling x [] = (x, [], refl)
first-split Falling x (y ∷ ys) = let s = first-split Falling y ys in (s.0, x ∷ s.1, ap (λ zs. x ∷ zs) s.2)

times-zip : {E : Type 0} (keys : List Key) (entries : List E) → length entries ≡ length keys → timestamps (zip keys entries) ≡ map (λ (key : Key). key.timestamp) keys
times-zip [] [] l = refl
times-zip [] (e ∷ entries) l = refl
times-zip (k ∷ keys) [] l = absurd (omega (arith, l))
times-zip (k ∷ keys) (e ∷ entries) l = ap (λ (ts : List ℕ). k.timestamp ∷ ts) (times-zip keys entries (omega (arith, l)))

-- the keys of rows have the timestamps of the rows
pub times-runs : {V : Type 0} (keys : List Key) (entries : Column V) (rows : List (Key × Option V)) → AreRuns keys entries rows → timestamps rows ≡ map (λ (key : Key). key.timestamp) keys
times-runs keys entries rows r =
    sym (ap (λ (rs : List _). timestamps rs) r.together)
    ∙ times-zip keys (column_of (length keys) entries) (omega (arith, r.as_many_keys, r.as_many_entries))

-- ---- the row that comes first

-- the row is one of the value and comes before the others
pub record IsHead {E : Type 0} (d : Direction) (value : ℕ) (row : Key × E) (rows : List (Key × E)) : Type 0 where
  pub here : row.0.value ≡ value
  pub behind : AllBehind d row.0.timestamp (timestamps rows)
  pub others : IsAt value rows

-- keys of one value rise with their timestamps
less_is : (j k : Key) (v : ℕ) → j.value ≡ v → k.value ≡ v → key_cmp j k ≡ Less → nat_lt j.timestamp k.timestamp ≡ true
less_is j k v e f l =
    let jk : key_cmp (key_of v j.timestamp) (key_of v k.timestamp) ≡ Less =
    subst (λ w. key_cmp (key_of w j.timestamp) (key_of v k.timestamp) ≡ Less) e (subst (λ w. key_cmp j (key_of w k.timestamp) ≡ Less) f l) in
    sym (below_is v j.timestamp k.timestamp) ∙ ap is_lt jk

module _ {E : Type 0} (v : ℕ) where
  behind-after : (r : Key × E) (rows : List (Key × E)) → r.0.value ≡ v → AllByRecursion (λ (s : Key × E). s.0.value ≡ v) rows → AllAfter key_cmp r.0 rows → AllBehind Rising r.0.timestamp (timestamps rows)
  behind-after r [] e f a = tt
  behind-after r (s ∷ rows) e f a = (less_is r.0 s.0 v e f.0 a.0, behind-after r rows e f.1 a.1)

  last-after : (k : Key) (r : Key × E) (rows : List (Key × E)) → AllAfter key_cmp k (rows ++ r ∷ []) → (key_cmp k r.0 ≡ Less) × AllAfter key_cmp k rows
  last-after k r [] a = (a.0, tt)
  last-after k r (s ∷ rows) a = let l = last-after k r rows a.1 in (l.0, (a.0, l.1))

  head-last : (r : Key × E) (rows : List (Key × E)) → IsRising key_cmp (rows ++ r ∷ []) → AllByRecursion (λ (s : Key × E). s.0.value ≡ v) (rows ++ r ∷ []) → IsHead Falling v r rows
  head-last r [] rising values = record { here = values.0; behind = tt; others = record { rising = tt; values = tt } }
  head-last r (s ∷ rows) rising values =
      let l = last-after s.0 r rows rising.0 in
      let h = head-last r rows rising.1 values.1 in
      record {
        here = h.here;
        behind = (less_is s.0 r.0 v values.0 h.here l.0, h.behind);
        others = record { rising = (l.1, h.others.rising); values = (values.0, h.others.values) };
      }

-- the row that was taken out is the head of the others
pub taken-head : {E : Type 0} (d : Direction) (v : ℕ) (r : Key × E) (old new : List (Key × E)) → IsAt v old → IsTaken d r old new → IsHead d v r new
taken-head {E} Rising v r old new h e =
    let g = subst (λ (rows : List (Key × E)). IsAt v rows) e h in
    record {
      here = g.values.0;
      behind = behind-after v r new g.values.0 g.values.1 g.rising.0;
      others = record { rising = g.rising.1; values = g.values.1 };
    }
taken-head {E} Falling v r old new h e =
    let g = subst (λ (rows : List (Key × E)). IsAt v rows) e h in
    head-last v r new g.rising g.values

length-last : {X : Type 0} (xs : List X) (x : X) → length (xs ++ x ∷ []) ≡ suc (length xs)
length-last [] x = refl
length-last (y ∷ xs) x = ap suc (length-last xs x)

pub taken-length : {E : Type 0} (d : Direction) (r : Key × E) (old new : List (Key × E)) → IsTaken d r old new → suc (length new) ≡ length old
taken-length Rising r old new e = sym (ap length e)
taken-length Falling r old new e = sym (ap length e ∙ length-last new r)

module _ {V : Type 0} (v : ℕ) where
  -- behind the head there is no entry at its timestamp
  head-alone : (d : Direction) (r : Key × Option V) (rows : List (Key × Option V)) → IsHead d v r rows → entry_at (key_of v r.0.timestamp) rows ≡ None
  head-alone d r rows h = entry-absent v r.0.timestamp rows (among-self d r.0.timestamp (timestamps rows) h.behind)

  same-last : (d : Direction) (r : Key × Option V) (rows : List (Key × Option V)) → IsHead d v r rows → (u : ℕ) → entry_at (key_of v u) (r ∷ rows) ≡ entry_at (key_of v u) (rows ++ r ∷ [])
  same-last d r rows h u = step (nat_eq u r.0.timestamp) refl ∙ sym (value_at-append key_cmp keys_total (key_of v u) rows (r ∷ []))
    where
      step : (b : Bool) → nat_eq u r.0.timestamp ≡ b → entry_at (key_of v u) (r ∷ rows) ≡ first_some (entry_at (key_of v u) rows) (entry_at (key_of v u) (r ∷ []))
      step true e = subst (λ w. entry_at (key_of v w) (r ∷ rows) ≡ first_some (entry_at (key_of v w) rows) (entry_at (key_of v w) (r ∷ []))) (sym (eqb-true u r.0.timestamp e))
          (entry-here v r rows h.here ∙ sym (entry-here v r [] h.here) ∙ ap (λ x. first_some x (entry_at (key_of v r.0.timestamp) (r ∷ []))) (sym (head-alone d r rows h)))
      step false e = entry-other v u r rows e ∙ sym (first_some-none _) ∙ ap (first_some (entry_at (key_of v u) rows)) (sym (entry-other v u r [] e))

  pub taken-same : (d : Direction) (r : Key × Option V) (old new : List (Key × Option V)) → IsAt v old → IsTaken d r old new → (u : ℕ) → entry_at (key_of v u) (r ∷ new) ≡ entry_at (key_of v u) old
  taken-same Rising r old new h e u = sym (ap (λ (rows : List (Key × Option V)). entry_at (key_of v u) rows) e)
  taken-same Falling r old new h e u = same-last Falling r new (taken-head Falling v r old new h e) u ∙ sym (ap (λ (rows : List (Key × Option V)). entry_at (key_of v u) rows) e)

  -- without its head a list keeps all other entries
  pub head-keeps : (d : Direction) (r : Key × Option V) (rows : List (Key × Option V)) → IsHead d v r rows → (t : ℕ) → r.0.timestamp ≡ t → Keeps v (λ u. not (nat_eq u t)) (r ∷ rows) rows
  head-keeps d r rows h t e u = step (nat_eq u t) refl
    where
      step : (b : Bool) → nat_eq u t ≡ b → entry_at (key_of v u) rows ≡ cond (not b) (entry_at (key_of v u) (r ∷ rows)) None
      step true i = ap (λ w. entry_at (key_of v w) rows) (eqb-true u t i ∙ sym e) ∙ head-alone d r rows h
      step false i = sym (entry-other v u r rows (ap (nat_eq u) e ∙ i))

  -- nothing comes before the head
  head-first : (d : Direction) (r : Key × Option V) (rows : List (Key × Option V)) → IsHead d v r rows → (u : ℕ) → is_before d u r.0.timestamp ≡ true → entry_at (key_of v u) (r ∷ rows) ≡ None
  head-first d r rows h u b =
      entry-other v u r rows (bool_cases (nat_eq u r.0.timestamp) (λ e. false_true (sym (before-self d r.0.timestamp) ∙ subst (λ w. is_before d w r.0.timestamp ≡ true) (eqb-true u r.0.timestamp e) b)) (λ e. e))
      ∙ entry-absent v u rows (bool_cases (is_among u (timestamps rows)) (λ m. false_true (sym (before-asym d u r.0.timestamp b) ∙ behind-among d r.0.timestamp u (timestamps rows) h.behind m)) (λ e. e))

-- ---- rows that pass a test

module _ {E : Type 0} where
  passing : (p : Key × E → Bool) (rows : List (Key × E)) → AllByRecursion (λ r. p r ≡ true) (filter p rows)
  passing p [] = tt
  passing p (r ∷ rows) = step (p r) refl (passing p rows)
    where
      step : (b : Bool) → p r ≡ b → AllByRecursion (λ s. p s ≡ true) (filter p rows) → AllByRecursion (λ s. p s ≡ true) (cond b (r ∷ filter p rows) (filter p rows))
      step true e i = (e, i)
      step false e i = i

  kept : (P : Key × E → Type 0) (p : Key × E → Bool) (rows : List (Key × E)) → AllByRecursion P rows → AllByRecursion P (filter p rows)
  kept P p [] h = tt
  kept P p (r ∷ rows) h = step (p r) (kept P p rows h.1)
    where
      step : (b : Bool) → AllByRecursion P (filter p rows) → AllByRecursion P (cond b (r ∷ filter p rows) (filter p rows))
      step true i = (h.0, i)
      step false i = i

  both-pass : (P Q R : Key × E → Type 0) → ((r : Key × E) → P r → Q r → R r) → (rows : List (Key × E)) → AllByRecursion P rows → AllByRecursion Q rows → AllByRecursion R rows
  both-pass P Q R f [] h k = tt
  both-pass P Q R f (r ∷ rows) h k = (f r h.0 k.0, both-pass P Q R f rows h.1 k.1)

  is_at-filter : (v : ℕ) (p : Key × E → Bool) (rows : List (Key × E)) → IsAt v rows → IsAt v (filter p rows)
  is_at-filter v p rows h = record { rising = IsRising-filter key_cmp keys_total exact_keys p rows h.rising; values = kept (λ r. r.0.value ≡ v) p rows h.values }

  -- rows of one value stay so where some go
  pub is_at-behind : (d : Direction) (v : ℕ) (key : Key) (rows : List (Key × E)) → IsAt v rows → IsAt v (rows_behind d key rows)
  is_at-behind Rising v key rows h = is_at-filter v (λ s. not (is_lt (key_cmp s.0 key))) rows h
  is_at-behind Falling v key rows h = is_at-filter v (λ s. not (is_gt (key_cmp s.0 key))) rows h

pub between : (o a b : Ordering) → not (is_lt (ordering_then o a)) ≡ true → not (is_gt (ordering_then o b)) ≡ true → o ≡ Equal
between Less a b e f = false_true e
between Equal a b e f = refl
between Greater a b e f = false_true f

-- the rows of a range are rows of its value
pub is_at-within : {V : Type 0} (v : ℕ) (span : Span) (rows : List (Key × Option V)) → IsRising key_cmp rows → IsAt v (rows_within v span rows)
is_at-within {V} v span rows rising =
    let low = λ (r : Key × Option V). not (is_lt (key_cmp r.0 (key_of v span.earliest))) in
    let high = λ (r : Key × Option V). not (is_gt (key_cmp r.0 (key_of v span.latest))) in
    record {
      rising = IsRising-filter key_cmp keys_total exact_keys high (filter low rows) (IsRising-filter key_cmp keys_total exact_keys low rows rising);
      values = both-pass (λ r. low r ≡ true) (λ r. high r ≡ true) (λ r. r.0.value ≡ v)
          (λ r e f. exact_unsigned r.0.value v (between (nat_cmp r.0.value v) (nat_cmp r.0.timestamp span.earliest) (nat_cmp r.0.timestamp span.latest) e f))
          (filter high (filter low rows)) (kept (λ r. low r ≡ true) high (filter low rows) (passing low rows)) (passing high (filter low rows));
    }

-- ---- places

and-not : (a b : Bool) → b ≡ true → (a && not b) ≡ false
and-not true b e = ap not e
and-not false b e = refl

module _ (d : Direction) where
  outside : (bound u : ℕ) → is_before d u bound ≡ true → is_within (span_from d bound) u ≡ false
  outside bound u b = by d b
    where
      by : (d : Direction) → is_before d u bound ≡ true → is_within (span_from d bound) u ≡ false
      by Rising b = ap (λ c. not c && not (nat_lt (2 ^ 64 - 1) u)) b
      by Falling b = and-not (not (nat_lt u 0)) (nat_lt bound u) b

  -- of the timestamps from one on those from a later one on
  narrowed : (bound t u : ℕ) → is_before d bound t ≡ true → is_within (span_from d t) u ≡ (is_within (span_from d bound) u && not (is_before d u t))
  narrowed bound t u b = by d (λ n. bool_cases (is_before d u bound) (λ c. false_true (sym n ∙ before-trans d u bound t c b)) (λ c. c))
    where
      rising : (a c m : Bool) → (a ≡ false → c ≡ false) → (not a && not m) ≡ ((not c && not m) && not a)
      rising true c m h = sym (and-not (not c && not m) true refl)
      rising false c true h = rw (h refl) refl
      rising false c false h = rw (h refl) refl

      falling : (a c m : Bool) → (a ≡ false → c ≡ false) → (not m && not a) ≡ ((not m && not c) && not a)
      falling true c m h = and-not (not m) true refl ∙ sym (and-not (not m && not c) true refl)
      falling false c true h = refl
      falling false c false h = rw (h refl) refl

      by : (d : Direction) → (is_before d u t ≡ false → is_before d u bound ≡ false) → is_within (span_from d t) u ≡ (is_within (span_from d bound) u && not (is_before d u t))
      by Rising h = rising (nat_lt u t) (nat_lt u bound) (nat_lt (2 ^ 64 - 1) u) h
      by Falling h = falling (nat_lt t u) (nat_lt bound u) (nat_lt u 0) h

  -- a timestamp that the nearest one neither is nor comes before
  past : (t : ℕ) (n : Option ℕ) → IsFrom d t n → n ≢ Some t → is_past d t n ≡ true
  past t None f e = refl
  past t (Some n) f e = step (is_before d t n) refl
    where
      step : (b : Bool) → is_before d t n ≡ b → b ≡ true
      step true i = refl
      step false i = absurd (e (ap Some (before-total d n t f i)))

pub not-false : (b : Bool) → not b ≡ false → b ≡ true
not-false true e = refl
not-false false e = sym e

-- what a comparison of timestamps tells
pub is_same : (o p : Option ℕ) (t : ℕ) (b : Bool) → o ≡ p → b ≡ not (option_eq nat_eq o (Some t)) → b ≡ false → p ≡ Some t
is_same None p t b e f g = false_true (sym g ∙ f)
is_same (Some n) p t b e f g = sym e ∙ ap Some (eqb-true n t (not-false (nat_eq n t) (sym f ∙ g)))

pub is_other : (o p : Option ℕ) (t : ℕ) (b : Bool) → o ≡ p → b ≡ not (option_eq nat_eq o (Some t)) → b ≡ true → p ≢ Some t
is_other o p t b e f g m = false_true (sym (ap not (eq-eqb t t refl)) ∙ ap (λ q. not (option_eq nat_eq q (Some t))) (sym m ∙ sym e) ∙ sym f ∙ g)

module _ {V : Type 0} (v : ℕ) where
  pub keeps-none : (stays : ℕ → Bool) (old new : List (Key × Option V)) → ((u : ℕ) → entry_at (key_of v u) new ≡ entry_at (key_of v u) old) → ((u : ℕ) → stays u ≡ false → entry_at (key_of v u) old ≡ None) → Keeps v stays old new
  keeps-none stays old new same none u = step (stays u) refl
    where
      step : (b : Bool) → stays u ≡ b → entry_at (key_of v u) new ≡ cond b (entry_at (key_of v u) old) None
      step true i = same u
      step false i = same u ∙ none u i

  only : (t : ℕ) (rows : List (Key × Option V)) → entry_at (key_of v t) rows ≡ None → (u : ℕ) → not (nat_eq u t) ≡ false → entry_at (key_of v u) rows ≡ None
  only t rows e u i = ap (λ w. entry_at (key_of v w) rows) (eqb-true u t (not-false (nat_eq u t) i)) ∙ e

module _ {V : Type 0} (d : Direction) (v : ℕ) where
  within-keeps : (t : ℕ) (span : Span) (b : Bool) (u : ℕ) (x : Option (Option V)) → b ≡ (is_within span u && not (is_before d u t)) → cond b x None ≡ cond (not (is_before d u t)) (cond (is_within span u) x None) None
  within-keeps t span b u x w = ap (λ a. cond a x None) w ∙ sym (both (is_within span u) (not (is_before d u t)) x)

  entry-behind : (t u : ℕ) (rows : List (Key × Option V)) → entry_at (key_of v u) (rows_behind d (key_of v t) rows) ≡ cond (not (is_before d u t)) (entry_at (key_of v u) rows) None
  entry-behind t u rows = by d
    where
      by : (d : Direction) → entry_at (key_of v u) (rows_behind d (key_of v t) rows) ≡ cond (not (is_before d u t)) (entry_at (key_of v u) rows) None
      by Rising = entry-from v t u rows
      by Falling = entry-upto v t u rows

module _ {V : Type 0} (d : Direction) (v : ℕ) where
  -- no row comes before the one that comes first
  first-open : (rows : List (Key × Option V)) → IsAt v rows → (u : ℕ) → is_past d u (first_in d (timestamps rows)) ≡ true → entry_at (key_of v u) rows ≡ None
  first-open [] h u b = refl
  first-open (x ∷ xs) h u b =
      let s = first-split d x xs in
      let time = time-taken (λ (r : Key × Option V). r.0.timestamp) d s.0 (x ∷ xs) s.1 s.2 in
      sym (taken-same v d s.0 (x ∷ xs) s.1 h s.2 u)
      ∙ head-first v d s.0 s.1 (taken-head d v s.0 (x ∷ xs) s.1 h s.2) u (subst (λ n. is_past d u n ≡ true) time b)

  pub row-entry : (row : Key × Option V) (rows others : List (Key × Option V)) → IsAt v rows → IsTaken d row rows others → entry_at (key_of v row.0.timestamp) rows ≡ Some row.1
  row-entry row rows others h e = sym (taken-same v d row rows others h e row.0.timestamp) ∙ entry-here v row others (taken-head d v row rows others h e).here

module _ {V A : Type 0} (d : Direction) (v : ℕ) where
  -- no row comes before the nearest timestamp
  pub place-first : (p : Place V A) → IsPlace d v p → (u : ℕ) → is_past d u (nearest_in d p) ≡ true → entry_at (key_of v u) (rows_left d v p) ≡ None
  place-first (Closed table bound expected) h u b = entry-within v (span_from d bound) u table.now ∙ ap (λ c. cond c (entry_at (key_of v u) table.now) None) (outside d bound u b)
  place-first (Open rows) h u b = first-open d v rows h u b
  place-first End h u b = refl

  -- ---- a searched table

  pub opened-right : (p : Place V A) → IsPlace d v p → IsPlace d v (opened d v p)
  opened-right (Closed table bound expected) h = is_at-within v (span_from d bound) table.now h
  opened-right (Open rows) h = h
  opened-right End h = tt

  pub opened-same : (p : Place V A) → rows_left d v (opened d v p) ≡ rows_left d v p
  opened-same (Closed table bound expected) = refl
  opened-same (Open rows) = refl
  opened-same End = refl

  -- what is taken out once the table was searched
  pub opened-takes : (old new : Place V A) (t : ℕ) → Takes d v t (opened d v old) new → Takes d v t old new
  opened-takes (Closed table bound expected) new t k = record { right = k.right; others = k.others; steps = omega (arith, k.steps); fewer = λ _. omega (arith, k.steps) }
  opened-takes (Open rows) new t k = k
  opened-takes End new t k = k

  -- where the nearest timestamp was that of a search, no row comes before it
  pub opened-from : (p : Place V A) (t : ℕ) → IsPlace d v p → nearest_in d p ≡ Some t → IsFrom d t (nearest_in d (opened d v p))
  opened-from (Open rows) t h e = subst (IsFrom d t) (sym e) (before-self d t)
  opened-from End t h e = tt
  opened-from (Closed table bound expected) t h e = by (rows_left {V = V} {A = A} d v (Closed table bound expected)) refl
    where
      same : Some bound ≡ Some t → bound ≡ t
      same i = cc

      by : (rows : List (Key × Option V)) → rows ≡ rows_left {V = V} {A = A} d v (Closed table bound expected) → IsFrom d t (first_in d (timestamps rows))
      by [] i = subst (IsFrom d t) (sym (first-empty d)) tt
      by (x ∷ xs) i =
          let s = first-split d x xs in
          let u = s.0.0.timestamp in
          let at : IsAt v (x ∷ xs) = subst (λ (rows : List (Key × Option V)). IsAt v rows) (sym i) (is_at-within v (span_from d bound) table.now h) in
          let there : entry_at (key_of v u) (x ∷ xs) ≡ Some s.0.1 = sym (taken-same v d s.0 (x ∷ xs) s.1 at s.2 u) ∙ entry-here v s.0 s.1 (taken-head d v s.0 (x ∷ xs) s.1 at s.2).here in
          let none : is_before d u t ≡ true → entry_at (key_of v u) (x ∷ xs) ≡ None = λ b. ap (λ (rows : List (Key × Option V)). entry_at (key_of v u) rows) i ∙ place-first (Closed table bound expected) h u (subst (λ n. is_before d u n ≡ true) (sym (same e)) b) in
          subst (IsFrom d t) (sym (time-taken (λ (r : Key × Option V). r.0.timestamp) d s.0 (x ∷ xs) s.1 s.2))
          (bool_cases (is_before d u t) (λ b. absurd (let k : Some s.0.1 ≡ None = sym there ∙ none b in cc)) (λ b. b))

  -- ---- a row taken out at a timestamp that no row comes before

  pub take-past-none : (p : Place V A) (t : ℕ) → IsPlace d v p → IsFrom d t (nearest_in d p) → nearest_in d p ≢ Some t → entry_at (key_of v t) (rows_left d v p) ≡ None
  take-past-none p t h f e = place-first p h t (past d t (nearest_in d p) f e)

  -- where another timestamp is the nearest one, nothing is taken
  pub take-past : (p : Place V A) (t : ℕ) → IsPlace d v p → IsFrom d t (nearest_in d p) → nearest_in d p ≢ Some t → Takes d v t p p
  take-past p t h f e =
      record {
        right = h;
        others = keeps-none v (λ u. not (nat_eq u t)) (rows_left d v p) (rows_left d v p) (λ u. refl) (only v t (rows_left d v p) (take-past-none p t h f e));
        steps = omega arith;
        fewer = λ g. absurd (e g);
      }

  -- where a searched table has no row at the timestamp
  module _ (old mid : Place V A) (t : ℕ) (h : IsPlace d v old) (o : mid ≡ opened d v old) (e : nearest_in d old ≡ Some t) (n : nearest_in d mid ≢ Some t) where
    mid-right : IsPlace d v mid
    mid-right = subst (IsPlace d v) (sym o) (opened-right old h)

    mid-from : IsFrom d t (nearest_in d mid)
    mid-from = subst (λ p. IsFrom d t (nearest_in d p)) (sym o) (opened-from old t h e)

    pub behind-none : entry_at (key_of v t) (rows_left d v old) ≡ None
    behind-none = sym (ap (λ (rows : List (Key × Option V)). entry_at (key_of v t) rows) (ap (rows_left d v) o ∙ opened-same old)) ∙ take-past-none mid t mid-right mid-from n

    pub behind-takes : Takes d v t old mid
    behind-takes = opened-takes old mid t (subst (λ p. Takes d v t p mid) o (take-past mid t mid-right mid-from n))

  -- where its next row is the one at the timestamp
  pub row-takes : (row : Key × Option V) (rows others : List (Key × Option V)) (t : ℕ) → IsAt v rows → IsTaken d row rows others → row.0.timestamp ≡ t → Takes {V = V} {A = A} d v t (Open rows) (Open others)
  row-takes row rows others t h e i =
      let head = taken-head d v row rows others h e in
      let long = taken-length d row rows others e in
      record {
        right = head.others;
        others = λ u. head-keeps v d row others head t i u ∙ ap (λ x. cond (not (nat_eq u t)) x None) (taken-same v d row rows others h e u);
        steps = omega (arith, long);
        fewer = λ _. omega (arith, long);
      }

  module _ (old : Place V A) (row : Key × Option V) (rows others : List (Key × Option V)) (t : ℕ) (h : IsPlace d v old) (o : Open rows ≡ opened d v old) (e : IsTaken d row rows others) (f : first_in d (timestamps rows) ≡ Some t) where
    at : IsAt v rows
    at = subst (IsPlace d v) (sym o) (opened-right old h)

    time : row.0.timestamp ≡ t
    time = same (sym (time-taken (λ (r : Key × Option V). r.0.timestamp) d row rows others e) ∙ f)
      where
        same : Some row.0.timestamp ≡ Some t → row.0.timestamp ≡ t
        same i = cc

    pub head-takes : Takes d v t old (Open others)
    head-takes = opened-takes old (Open others) t (subst (λ p. Takes d v t p (Open others)) o (row-takes row rows others t at e time))

    pub head-entry : Some row.1 ≡ entry_at (key_of v t) (rows_left d v old)
    head-entry =
        sym (ap (λ (rs : List (Key × Option V)). entry_at (key_of v t) rs) (sym (opened-same old) ∙ ap (rows_left d v) (sym o))
        ∙ ap (λ u. entry_at (key_of v u) rows) (sym time)
        ∙ row-entry d v row rows others at e)

  -- ---- a seek

  module _ (table : Bor (List (Key × Option V))) (bound expected t : ℕ) where
    pub seek-closed : IsRising key_cmp table.now → is_before d bound t ≡ true → Seeks {V = V} {A = A} d v t (Closed table bound expected) (Closed table t expected)
    seek-closed h b =
        record {
          right = h;
          others = λ u.
              entry-within v (span_from d t) u table.now
              ∙ within-keeps d v t (span_from d bound) (is_within (span_from d t) u) u (entry_at (key_of v u) table.now) (narrowed d bound t u b)
              ∙ ap (λ e. cond (not (is_before d u t)) e None) (sym (entry-within v (span_from d bound) u table.now));
        }

    pub seek-stays : IsRising key_cmp table.now → is_before d bound t ≡ false → Seeks {V = V} {A = A} d v t (Closed table bound expected) (Closed table bound expected)
    seek-stays h n =
        record {
          right = h;
          others = keeps-none v (λ u. not (is_before d u t)) (rows_left {V = V} {A = A} d v (Closed table bound expected)) (rows_left {V = V} {A = A} d v (Closed table bound expected)) (λ u. refl)
              (λ u e. place-first (Closed table bound expected) h u (before-past d u bound t (not-false (is_before d u t) e) n));
        }

    pub seek-ends : ((w u : ℕ) → is_before d u t ≡ false → entry_at (key_of w u) table.now ≡ None) → Seeks {V = V} {A = A} d v t (Closed table bound expected) End
    seek-ends n = record { right = tt; others = λ u. step u (is_before d u t) refl }
      where
        either : (b : Bool) (x : Option (Option V)) → x ≡ None → cond b x None ≡ None
        either true x e = e
        either false x e = refl

        step : (u : ℕ) (b : Bool) → is_before d u t ≡ b → None ≡ cond (not b) (entry_at (key_of v u) (rows_within v (span_from d bound) table.now)) None
        step u true i = refl
        step u false i = sym (entry-within v (span_from d bound) u table.now ∙ either (is_within (span_from d bound) u) (entry_at (key_of v u) table.now) (n v u i))

  pub seek-open : (rows : List (Key × Option V)) (t : ℕ) → IsAt v rows → Seeks {V = V} {A = A} d v t (Open rows) (Open (rows_behind d (key_of v t) rows))
  seek-open rows t h = record { right = is_at-behind d v (key_of v t) rows h; others = λ u. entry-behind d v t u rows }

-- the next row, where its timestamp is past
pub row-past : {V : Type 0} (d : Direction) (until : Option ℕ) (t : ℕ) (old new : List (Key × Option V)) (row : Option (Bor Key × Option (Bor V))) → first_in d (timestamps old) ≡ Some t → is_past d t until ≡ true → MatchOption row ((old ≡ []) × (new ≡ [])) (λ r. IsTaken d (seen r) old new)
    → MatchOption row (new ≡ old) (λ r. IsTaken d (seen r) old new × (is_past d r.0.now.timestamp until ≡ true))
row-past d until t old new None f p e = e.1 ∙ sym e.0
row-past {V} d until t old new (Some r) f p e = (e, subst (λ u. is_past d u until ≡ true) (same (sym f ∙ time-taken (λ (s : Key × Option V). s.0.timestamp) d (seen r) old new e)) p)
  where
    same : Some t ≡ Some r.0.now.timestamp → t ≡ r.0.now.timestamp
    same i = cc

-- where a span ends before a timestamp, none of its timestamps is that one or comes behind it
pub ends-rising : (span : Span) (t u : ℕ) → nat_lt span.latest t ≡ true → nat_lt u t ≡ false → is_within span u ≡ false
ends-rising span t u a b = and-not (not (nat_lt u span.earliest)) (nat_lt span.latest u) (lt-ltb span.latest u (let e = ltb-true span.latest t a in let f = ltb-false u t b in omega arith))

pub ends-falling : (span : Span) (t u : ℕ) → nat_lt t span.earliest ≡ true → nat_lt t u ≡ false → is_within span u ≡ false
ends-falling span t u a b = ap (λ c. not c && not (nat_lt span.latest u)) (lt-ltb u span.earliest (let e = ltb-true t span.earliest a in let f = ltb-false t u b in omega arith))
