-- Runs of rows that one table alone has next.
use Rattle.std.proofs.Common.{◌≡◌, ℕ, ◌<◌, ◌≤◌, List, [], ◌∷◌, ◌++◌, Option, Some, None, true, refl, sym, ◌∙◌, ap, subst, arith, length, set, get_or}
use Rattle.std.specs.Prelude.{is_some}
use Rattle.std.specs.List.{AllByRecursion, AllZip}
use Rattle.std.specs.Option.{option_flatten}
use Rattle.std.proofs.lemmas.List.{append_assoc, get_or-set_same, length-set, set-set, set-get_or}
use Rattle.tf_table.specs.declared.key.Key.{Key}
use Rattle.tf_table.specs.Content.{entry_at, values_of}
use Rattle.tf_table.specs.Span.{timestamps}
use Rattle.tf_manifest.specs.Rows.{key_of}
use Rattle.tf_scan.specs.declared.direction.Direction.{Direction}
use Rattle.tf_scan.specs.declared.place.Place.{Place}
use Rattle.tf_scan.specs.declared.place.Place.TheVariants.{Closed, Open, End}
use Rattle.tf_scan.specs.Prefix.{has_timestamp, prefix_of}
use Rattle.tf_scan.specs.Place.{IsTaken, rows_left, lists_left, nearest_in, nearest_of, nearer, is_past, IsPlace, Takes}
use Rattle.tf_scan.specs.Turn.{nearest_but}
use Rattle.tf_scan.specs.Run.{IsStep, AreTaken, AreFirst, AreWritten, WritesRows, WritesRun, WritesPrefix}
use Rattle.tf_scan.proofs.Order.{before-asym}
use Rattle.tf_scan.proofs.Taking.{time-taken, row-takes, row-entry}
use Rattle.tf_scan.proofs.Across.{each-at, takes-right, taken-first, taken-pass}
use Rattle.tf_scan.proofs.Turns.{nearest-parts, at-place, others-stay, takes-one, entry-one}
use Rattle.tf_scan.proofs.Moves.{written-none, written-both}

-- ---- the timestamps of rows with a value

live-cons : {V : Type 0} (k : Key) (o : Option V) (rows : List (Key × Option V)) → timestamps (values_of ((k, o) ∷ rows)) ≡ timestamps (values_of ((k, o) ∷ [])) ++ timestamps (values_of rows)
live-cons k None rows = refl
live-cons k (Some x) rows = refl

live-append : {V : Type 0} (rows more : List (Key × Option V)) → timestamps (values_of (rows ++ more)) ≡ timestamps (values_of rows) ++ timestamps (values_of more)
live-append [] more = refl
live-append ((k, None) ∷ rows) more = live-append rows more
live-append ((k, Some x) ∷ rows) more = ap (λ (ts : List ℕ). k.timestamp ∷ ts) (live-append rows more)

-- ---- more rows

module _ {V : Type 0} (d : Direction) (until : Option ℕ) where
  pub rows-none : (i : ℕ) (rows : List (Key × Option V)) (xs : List ℕ) → i ≤ length xs → WritesRows d until i i rows rows xs xs
  rows-none i rows xs l = record { rows = []; taken = refl; written = written-none i xs l }

  first-both : (rows more old mid new : List (Key × Option V)) → AreFirst (λ (r : Key × Option V). r.0.timestamp) d until rows old mid → AreFirst (λ (r : Key × Option V). r.0.timestamp) d until more mid new → AreFirst (λ (r : Key × Option V). r.0.timestamp) d until (rows ++ more) old new
  first-both [] more old mid new a b = subst (λ (rs : List (Key × Option V)). AreFirst (λ (r : Key × Option V). r.0.timestamp) d until more rs new) a b
  first-both (r ∷ rows) more old mid new a b = (a.0, a.1, a.2, first-both rows more a.0 mid new a.3 b)

  pub rows-both : (from to end : ℕ) (old mid new : List (Key × Option V)) (xs ys zs : List ℕ) → WritesRows d until from to old mid xs ys → WritesRows d until to end mid new ys zs → WritesRows d until from end old new xs zs
  rows-both from to end old mid new xs ys zs w v =
      let live = λ (rows : List (Key × Option V)). timestamps (values_of rows) in
      record {
        rows = w.rows ++ v.rows;
        taken = first-both w.rows v.rows old mid new w.taken v.taken;
        written = subst (λ ts. AreWritten ts from end xs zs) (sym (live-append w.rows v.rows)) (written-both (live w.rows) from to xs ys w.written (live v.rows) end zs v.written);
      }

  pub rows-one : (from to : ℕ) (old new : List (Key × Option V)) (row : Key × Option V) (xs ys : List ℕ) → IsTaken d row old new → is_past d row.0.timestamp until ≡ true → AreWritten (timestamps (values_of (row ∷ []))) from to xs ys → WritesRows d until from to old new xs ys
  rows-one from to old new row xs ys e p w = record { rows = row ∷ []; taken = (new, e, p, refl); written = w }

  taken-open : (A : Type 0) (rows old new : List (Key × Option V)) → AreFirst (λ (r : Key × Option V). r.0.timestamp) d until rows old new → AreTaken {V = V} {A = A} d until rows (Open old) (Open new)
  taken-open A [] old new a = ap Open a
  taken-open A (r ∷ rows) old new a = (Open a.0, (a.0, refl, a.1, a.2), taken-open A rows a.0 new a.3)

module _ {V A : Type 0} (d : Direction) (until : Option ℕ) where
  pub run-open : (from to : ℕ) (old new : List (Key × Option V)) (xs ys : List ℕ) → WritesRows d until from to old new xs ys → WritesRun {V = V} {A = A} d until from to (Open old) (Open new) xs ys
  run-open from to old new xs ys w = record { rows = w.rows; taken = taken-open d until A w.rows old new w.taken; written = w.written }

  pub run-none : (i : ℕ) (p : Place V A) (xs : List ℕ) → i ≤ length xs → WritesRun d until i i p p xs xs
  run-none i p xs l = record { rows = []; taken = refl; written = written-none i xs l }

-- ---- a step of one place

module _ {V A : Type 0} (d : Direction) (v : ℕ) (until : Option ℕ) (row : Key × Option V) (new : Place V A) where
  step-takes : (p : Place V A) → IsPlace d v p → IsStep d until row p new → Takes d v row.0.timestamp p new
  step-takes (Closed table bound _) h e = absurd e
  step-takes End h e = absurd e
  step-takes (Open rows) h e = subst (Takes d v row.0.timestamp (Open rows)) (sym e.1) (row-takes d v row rows e.0 row.0.timestamp h e.2 refl)

  step-past : (p : Place V A) → IsStep d until row p new → is_past d row.0.timestamp until ≡ true
  step-past (Closed table bound _) e = absurd e
  step-past End e = absurd e
  step-past (Open rows) e = e.3

  step-nearest : (p : Place V A) → IsStep d until row p new → nearest_in d p ≡ Some row.0.timestamp
  step-nearest (Closed table bound _) e = absurd e
  step-nearest End e = absurd e
  step-nearest (Open rows) e = time-taken (λ (r : Key × Option V). r.0.timestamp) d row rows e.0 e.2

  step-entry : (p : Place V A) → IsPlace d v p → IsStep d until row p new → entry_at (key_of v row.0.timestamp) (rows_left d v p) ≡ Some row.1
  step-entry (Closed table bound _) h e = absurd e
  step-entry End h e = absurd e
  step-entry (Open rows) h e = row-entry d v row rows e.0 h e.2

-- ---- a step of the place whose turn it is

nearer-until : (d : Direction) (t : ℕ) (n : Option ℕ) → is_past d t n ≡ true → nearer d (Some t) n ≡ Some t
nearer-until d t None e = refl
nearer-until d t (Some u) e = rw (before-asym d t u e) refl

flat : {V : Type 0} (o : Option V) → is_some (option_flatten (Some o)) ≡ is_some o
flat None = refl
flat (Some x) = refl

module _ {V A : Type 0} (d : Direction) (v i : ℕ) (until : Option ℕ) (k : Key) (o : Option V) (old mid : Place V A) (ps : List (Place V A)) (h : AllByRecursion (IsPlace d v) ps) (u : until ≡ nearest_but d i ps) (l : i < length ps) (is : get_or ps i old ≡ old) (e : IsStep d until (k, o) old mid) where
  old-right : IsPlace d v old
  old-right = each-at (IsPlace d v) ps i old h l is

  past-others : is_past d k.timestamp (nearest_but d i ps) ≡ true
  past-others = subst (λ n. is_past d k.timestamp n ≡ true) u (step-past d v until (k, o) mid old e)

  taken : AllZip (Takes d v k.timestamp) ps (set ps i mid)
  taken = takes-one d v k.timestamp i ps old mid h past-others l is (step-takes d v until (k, o) mid old old-right e)

  next-right : AllByRecursion (IsPlace d v) (set ps i mid)
  next-right = takes-right d v k.timestamp ps (set ps i mid) taken

  nearest : Some k.timestamp ≡ nearest_of d ps
  nearest =
      sym (nearest-parts d i ps
      ∙ ap (λ n. nearer d n (nearest_but d i ps)) (at-place d i ps old l is ∙ step-nearest d v until (k, o) mid old e)
      ∙ nearer-until d k.timestamp (nearest_but d i ps) past-others)

  has : has_timestamp v (lists_left d v ps) k.timestamp ≡ is_some o
  has = ap (λ x. is_some (option_flatten x)) (entry-one d v k.timestamp i ps old h past-others l is ∙ step-entry d v until (k, o) mid old old-right e) ∙ flat o

  prefix-step : prefix_of d v (lists_left d v ps) ≡ timestamps (values_of ((k, o) ∷ [])) ++ prefix_of d v (lists_left d v (set ps i mid))
  prefix-step = by o refl
    where
      by : (x : Option V) → o ≡ x → prefix_of d v (lists_left d v ps) ≡ timestamps (values_of ((k, x) ∷ [])) ++ prefix_of d v (lists_left d v (set ps i mid))
      by None n = sym (taken-pass d v k.timestamp ps (set ps i mid) taken (has ∙ ap is_some n))
      by (Some x) n = taken-first d v k.timestamp ps (set ps i mid) taken h nearest (has ∙ ap is_some n)

-- ---- a run of the place whose turn it is

module _ {V A : Type 0} (d : Direction) (v i : ℕ) (until : Option ℕ) where
  run-prefix : (rows : List (Key × Option V)) (ps : List (Place V A)) (old new : Place V A) → AllByRecursion (IsPlace d v) ps → until ≡ nearest_but d i ps → i < length ps → get_or ps i old ≡ old → AreTaken d until rows old new
      → AllByRecursion (IsPlace d v) (set ps i new) × (prefix_of d v (lists_left d v ps) ≡ timestamps (values_of rows) ++ prefix_of d v (lists_left d v (set ps i new)))
  run-prefix [] ps old new h u l is e =
      let same : set ps i new ≡ ps = ap (set ps i) (e ∙ sym is) ∙ set-get_or ps i old in
      (subst (AllByRecursion (IsPlace d v)) (sym same) h, ap (λ (qs : List (Place V A)). prefix_of d v (lists_left d v qs)) (sym same))
  run-prefix ((k, o) ∷ rows) ps old new h u l is e =
      let qs = set ps i e.0 in
      let ih =
      run-prefix rows qs e.0 new (next-right d v i until k o old e.0 ps h u l is e.1) (u ∙ sym (others-stay d i ps e.0))
      (omega (arith, length-set ps i e.0)) (get_or-set_same ps i e.0 e.0 l) e.2 in
      let again : set qs i new ≡ set ps i new = set-set ps i e.0 new in
      let ts = timestamps (values_of ((k, o) ∷ [])) in
      let us = timestamps (values_of rows) in
      let left = prefix_of d v (lists_left d v (set ps i new)) in (
        subst (AllByRecursion (IsPlace d v)) again ih.0,
        prefix-step d v i until k o old e.0 ps h u l is e.1
            ∙ ap (λ (xs : List ℕ). ts ++ xs) (ih.1 ∙ ap (λ (rs : List (Place V A)). us ++ prefix_of d v (lists_left d v rs)) again)
            ∙ sym (append_assoc ts us left)
            ∙ ap (λ (xs : List ℕ). xs ++ left) (sym (live-cons k o rows)),
      )

  pub run-writes : (ps : List (Place V A)) (p new : Place V A) (from to : ℕ) (xs ys : List ℕ) → AllByRecursion (IsPlace d v) ps → until ≡ nearest_but d i ps → i < length ps → get_or ps i p ≡ p → WritesRun d until from to p new xs ys
      → WritesPrefix d v from to ps (set ps i new) xs ys
  run-writes ps p new from to xs ys h u l is w =
      let run = run-prefix w.rows ps p new h u l is w.taken in
      record { ts = timestamps (values_of w.rows); right = run.0; front = run.1; written = w.written }
