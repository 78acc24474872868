-- The entries of rows at the timestamps of one value.
use Rattle.std.proofs.Common.{◌≡◌, ℕ, ◌-◌, ◌^◌, ◌≤◌, arith, List, [], ◌∷◌, Option, Some, None, Bool, true, false, not, ◌||◌, ◌&&◌, cond, refl, sym, ◌∙◌, ap, subst}
use Rattle.std.specs.Prelude.{nat_eq, nat_lt}
use Rattle.std.specs.List.{AllByRecursion}
use Rattle.std.specs.Ordering.{nat_cmp, ordering_then, is_lt, is_eq, is_gt}
use Rattle.std.specs.declared.cmp.Ordering.TheVariants.{Less, Equal, Greater}
use Rattle.std.proofs.lemmas.Bool.{eqb-true, eq-eqb, le-ltb, cond-true}
use Rattle.std.proofs.lemmas.List.Elements.{recursion_from_All}
use Rattle.std.proofs.lemmas.Cmp.{tied_itself, nat_cmp_total}
use Rattle.tf_sorted.specs.Rows.{rows_from, rows_upto}
use Rattle.tf_table.specs.declared.key.Key.{Key}
use Rattle.tf_table.specs.declared.span.Span.{Span}
use Rattle.tf_table.specs.Key.{key_cmp}
use Rattle.tf_table.specs.Content.{entry_at}
use Rattle.tf_table.specs.Span.{timestamps, IsSpan}
use Rattle.tf_table.proofs.Keys.{keys_total, exact_keys}
use Rattle.tf_table.proofs.Rising.{is_gt_is, value_at-here, value_at-there, equal_from}
use Rattle.tf_table.proofs.Determined.{bool_cases, value_at-filter}
use Rattle.tf_manifest.specs.Rows.{key_of}
use Rattle.tf_scan.specs.Sets.{is_among}
use Rattle.tf_scan.specs.declared.direction.Direction.{Direction}
use Rattle.tf_scan.specs.declared.direction.Direction.TheVariants.{Rising, Falling}
use Rattle.tf_scan.specs.Place.{rows_within, span_from, first_of, is_within}
use Rattle.tf_scan.proofs.Members.{false_true}

-- keys of one value compare as their timestamps do
same_value : (v t u : ℕ) → key_cmp (key_of v t) (key_of v u) ≡ nat_cmp t u
same_value v t u = ap (λ o. ordering_then o (nat_cmp t u)) (tied_itself nat_cmp_total v)

lt_is : (t u : ℕ) → is_lt (nat_cmp t u) ≡ nat_lt t u
lt_is t u = either (nat_lt t u) (nat_eq t u)
  where
    either : (a b : Bool) → is_lt (cond a Less (cond b Equal Greater)) ≡ a
    either true b = refl
    either false true = refl
    either false false = refl

pub below_is : (v t u : ℕ) → is_lt (key_cmp (key_of v t) (key_of v u)) ≡ nat_lt t u
below_is v t u = ap is_lt (same_value v t u) ∙ lt_is t u

pub above_is : (v t u : ℕ) → is_gt (key_cmp (key_of v t) (key_of v u)) ≡ nat_lt u t
above_is v t u = is_gt_is key_cmp keys_total (key_of v t) (key_of v u) ∙ below_is v u t

-- ---- entries of rows by their first row

-- keys that compare alike have one timestamp
eq_timestamp : (k : Key) (v t : ℕ) → is_eq (key_cmp k (key_of v t)) ≡ true → k.timestamp ≡ t
eq_timestamp k v t e = ap (λ (j : Key). j.timestamp) (exact_keys k (key_of v t) (equal_from _ e))

not_eq : (k : Key) (v t : ℕ) → nat_eq t k.timestamp ≡ false → is_eq (key_cmp k (key_of v t)) ≡ false
not_eq k v t n = bool_cases (is_eq (key_cmp k (key_of v t)))
    (λ e. false_true (sym n ∙ eq-eqb t k.timestamp (sym (eq_timestamp k v t e))))
    (λ e. e)

pub entry-other : {V : Type 0} (v t : ℕ) (r : Key × Option V) (rows : List (Key × Option V)) → nat_eq t r.0.timestamp ≡ false → entry_at (key_of v t) (r ∷ rows) ≡ entry_at (key_of v t) rows
entry-other v t r rows n = value_at-there key_cmp keys_total (key_of v t) r rows (not_eq r.0 v t n)

pub entry-here : {V : Type 0} (v : ℕ) (r : Key × Option V) (rows : List (Key × Option V)) → r.0.value ≡ v → entry_at (key_of v r.0.timestamp) (r ∷ rows) ≡ Some r.1
entry-here v r rows e =
    let same : is_eq (key_cmp r.0 (key_of v r.0.timestamp)) ≡ true = subst (λ w. is_eq (key_cmp r.0 (key_of w r.0.timestamp)) ≡ true) e (ap is_eq (tied_itself keys_total r.0)) in
    value_at-here key_cmp keys_total (key_of v r.0.timestamp) r rows same

-- where no row has the timestamp, there is no entry
pub entry-absent : {V : Type 0} (v t : ℕ) (rows : List (Key × Option V)) → is_among t (timestamps rows) ≡ false → entry_at (key_of v t) rows ≡ None
entry-absent v t [] n = refl
entry-absent v t (r ∷ rows) n = step (nat_eq t r.0.timestamp) refl n (entry-absent v t rows)
  where
    step : (e : Bool) → nat_eq t r.0.timestamp ≡ e → (e || is_among t (timestamps rows)) ≡ false → (is_among t (timestamps rows) ≡ false → entry_at (key_of v t) rows ≡ None) → entry_at (key_of v t) (r ∷ rows) ≡ None
    step true k m i = false_true (sym m)
    step false k m i = entry-other v t r rows k ∙ i m

-- ---- rows of a range, and of a seek

pub entry-from : {V : Type 0} (v t u : ℕ) (rows : List (Key × Option V)) → entry_at (key_of v u) (rows_from key_cmp (key_of v t) rows) ≡ cond (not (nat_lt u t)) (entry_at (key_of v u) rows) None
entry-from v t u rows =
    value_at-filter key_cmp keys_total exact_keys (λ k. not (is_lt (key_cmp k (key_of v t)))) (key_of v u) rows
    ∙ ap (λ b. cond (not b) (entry_at (key_of v u) rows) None) (below_is v u t)

pub entry-upto : {V : Type 0} (v t u : ℕ) (rows : List (Key × Option V)) → entry_at (key_of v u) (rows_upto key_cmp (key_of v t) rows) ≡ cond (not (nat_lt t u)) (entry_at (key_of v u) rows) None
entry-upto v t u rows =
    value_at-filter key_cmp keys_total exact_keys (λ k. not (is_gt (key_cmp k (key_of v t)))) (key_of v u) rows
    ∙ ap (λ b. cond (not b) (entry_at (key_of v u) rows) None) (above_is v u t)

pub both : {X : Type 0} (a b : Bool) (x : Option X) → cond b (cond a x None) None ≡ cond (a && b) x None
both true b x = refl
both false true x = refl
both false false x = refl

pub entry-within : {V : Type 0} (v : ℕ) (span : Span) (u : ℕ) (rows : List (Key × Option V)) → entry_at (key_of v u) (rows_within v span rows) ≡ cond (is_within span u) (entry_at (key_of v u) rows) None
entry-within v span u rows =
    entry-upto v span.latest u (rows_from key_cmp (key_of v span.earliest) rows)
    ∙ ap (λ e. cond (not (nat_lt span.latest u)) e None) (entry-from v span.earliest u rows)
    ∙ both (not (nat_lt u span.earliest)) (not (nat_lt span.latest u)) (entry_at (key_of v u) rows)

-- ---- rows of a table with this span

all-among : (P : ℕ → Type 0) (t : ℕ) (ts : List ℕ) → AllByRecursion P ts → is_among t ts ≡ true → P t
all-among P t [] h m = false_true m
all-among P t (u ∷ us) h m = step (nat_eq t u) refl m (all-among P t us h.1)
  where
    step : (b : Bool) → nat_eq t u ≡ b → (b || is_among t us) ≡ true → (is_among t us ≡ true → P t) → P t
    step true e k i = subst P (sym (eqb-true t u e)) h.0
    step false e k i = i k

inside-span : {V : Type 0} (span : Span) (u : ℕ) (rows : List (Key × Option V)) → IsSpan span (timestamps rows) → is_among u (timestamps rows) ≡ true → is_within span u ≡ true
inside-span span u rows s m =
    let inside = all-among (λ time. (span.earliest ≤ time) × (time ≤ span.latest)) u (timestamps rows) (recursion_from_All _ (timestamps rows) s.within) m in
    rw (le-ltb u span.earliest inside.0, le-ltb span.latest u inside.1) refl

-- the rows of a value whose timestamps lie outside the span are none
pub entry-outside : {V : Type 0} (v : ℕ) (span : Span) (u : ℕ) (rows : List (Key × Option V)) → IsSpan span (timestamps rows) → is_within span u ≡ false → entry_at (key_of v u) rows ≡ None
entry-outside v span u rows s w = entry-absent v u rows (bool_cases (is_among u (timestamps rows)) (λ m. false_true (sym w ∙ inside-span span u rows s m)) (λ n. n))

-- of a table the rows from the side that comes first on are all
pub entry-start : {V : Type 0} (d : Direction) (v : ℕ) (span : Span) (u : ℕ) (rows : List (Key × Option V)) → IsSpan span (timestamps rows) → span.latest ≤ 2 ^ 64 - 1
    → entry_at (key_of v u) (rows_within v (span_from d (first_of d span)) rows) ≡ entry_at (key_of v u) rows
entry-start {V} d v span u rows s fits = entry-within v (span_from d (first_of d span)) u rows ∙ bool_cases (is_among u (timestamps rows))
    (λ m. cond-true (is_within (span_from d (first_of d span)) u) _ _ (from-start d (all-among (λ time. (span.earliest ≤ time) × (time ≤ span.latest)) u (timestamps rows) (recursion_from_All _ (timestamps rows) s.within) m)))
    (λ n.
    let none : entry_at (key_of v u) rows ≡ None = entry-absent v u rows n in
    ap (λ e. cond (is_within (span_from d (first_of d span)) u) e None) none ∙ either (is_within (span_from d (first_of d span)) u) None ∙ sym none)
  where
    either : (b : Bool) (x : Option (Option V)) → cond b x x ≡ x
    either true x = refl
    either false x = refl

    from-start : (d : Direction) → (span.earliest ≤ u) × (u ≤ span.latest) → is_within (span_from d (first_of d span)) u ≡ true
    from-start Rising i = rw (le-ltb u span.earliest i.0, le-ltb (2 ^ 64 - 1) u (omega (arith, fits, i.1))) refl
    from-start Falling i = rw (le-ltb u 0 (omega arith), le-ltb span.latest u i.1) refl
