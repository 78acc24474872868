-- Steps of the one place whose turn it is.
use Rattle.std.proofs.Common.{◌≡◌, ◌≢◌, ℕ, zero, ◌+◌, ◌-◌, ◌<◌, ◌≤◌, List, [], ◌∷◌, Option, Some, None, Bool, true, false, not, cond, refl, sym, ◌∙◌, ap, subst, arith, length, drop, get_or, set}
use Rattle.std.specs.Prelude.{suc}
use Rattle.std.specs.List.{AllByRecursion, AllZip}
use Rattle.std.proofs.lemmas.List.{drop_more}
use Rattle.tf_table.specs.Content.{entry_at, entry_of, first_some}
use Rattle.tf_table.proofs.Determined.{first_some-none}
use Rattle.tf_manifest.specs.Rows.{key_of}
use Rattle.tf_scan.specs.declared.direction.Direction.{Direction}
use Rattle.tf_scan.specs.declared.place.Place.{Place}
use Rattle.tf_scan.specs.Order.{is_before}
use Rattle.tf_scan.specs.Place.{rows_left, lists_left, nearest_in, nearest_of, nearer, is_past, IsFrom, IsPlace, Takes, Seeks}
use Rattle.tf_scan.specs.Turn.{nearest_at, nearest_but}
use Rattle.tf_scan.proofs.Order.{before-self, before-asym, before-total, before-trans, not-before-trans}
use Rattle.tf_scan.proofs.Members.{false_true}
use Rattle.tf_scan.proofs.Taking.{keeps-none, not-false, place-first, take-past}
use Rattle.tf_scan.proofs.Across.{first-all, nearer-past}

module _ (d : Direction) where
  nearer-none : (a : Option ℕ) → nearer d a None ≡ a
  nearer-none None = refl
  nearer-none (Some x) = refl

  nearer-swap : (a b : Option ℕ) → nearer d a b ≡ nearer d b a
  nearer-swap None b = sym (nearer-none b)
  nearer-swap (Some x) None = refl
  nearer-swap (Some x) (Some y) = step (is_before d y x) refl (is_before d x y) refl
    where
      step : (b : Bool) → is_before d y x ≡ b → (c : Bool) → is_before d x y ≡ c → cond b (Some y) (Some x) ≡ cond c (Some x) (Some y)
      step true i true j = false_true (sym (before-asym d y x i) ∙ j)
      step true i false j = refl
      step false i true j = refl
      step false i false j = ap Some (sym (before-total d y x i j))

  nearer-assoc : (a b c : Option ℕ) → nearer d a (nearer d b c) ≡ nearer d (nearer d a b) c
  nearer-assoc None b c = refl
  nearer-assoc (Some x) None c = refl
  nearer-assoc (Some x) (Some y) None = sym (nearer-none (nearer d (Some x) (Some y)))
  nearer-assoc (Some x) (Some y) (Some z) = step (is_before d z y) refl (is_before d y x) refl
    where
      step : (b : Bool) → is_before d z y ≡ b → (c : Bool) → is_before d y x ≡ c → nearer d (Some x) (cond b (Some z) (Some y)) ≡ nearer d (cond c (Some y) (Some x)) (Some z)
      step true i true j = rw (before-trans d z y x i j) (rw i refl)
      step true i false j = refl
      step false i true j = rw j (rw i refl)
      step false i false j = rw j (rw (not-before-trans d z y x i j) refl)

  -- of a place and the others the nearer one is the nearest of all
  pub nearest-parts : {V A : Type 0} (i : ℕ) (ps : List (Place V A)) → nearest_of d ps ≡ nearer d (nearest_at d i ps) (nearest_but d i ps)
  nearest-parts i [] = refl
  nearest-parts zero (p ∷ ps) = refl
  nearest-parts (suc i) (p ∷ ps) =
      ap (nearer d (nearest_in d p)) (nearest-parts i ps)
      ∙ nearer-assoc (nearest_in d p) (nearest_at d i ps) (nearest_but d i ps)
      ∙ ap (λ n. nearer d n (nearest_but d i ps)) (nearer-swap (nearest_in d p) (nearest_at d i ps))
      ∙ sym (nearer-assoc (nearest_at d i ps) (nearest_in d p) (nearest_but d i ps))

  pub past-from : (t : ℕ) (n : Option ℕ) → is_past d t n ≡ true → IsFrom d t n
  past-from t None e = tt
  past-from t (Some n) e = before-asym d t n e

  past-other : (t : ℕ) (n : Option ℕ) → is_past d t n ≡ true → n ≢ Some t
  past-other t n e m = false_true (sym (before-self d t) ∙ subst (λ o. is_past d t o ≡ true) m e)

  past-before : (u t : ℕ) (n : Option ℕ) → is_before d u t ≡ true → is_past d t n ≡ true → is_past d u n ≡ true
  past-before u t None b e = refl
  past-before u t (Some n) b e = before-trans d u t n b e

  module _ {V A : Type 0} where
    -- the number of a place doesn't tell its nearest timestamp from that of the place
    pub at-place : (i : ℕ) (ps : List (Place V A)) (p : Place V A) → i < length ps → get_or ps i p ≡ p → nearest_at d i ps ≡ nearest_in d p
    at-place i [] p l e = absurd (omega arith)
    at-place zero (q ∷ ps) p l e = ap (nearest_in d) e
    at-place (suc i) (q ∷ ps) p l e = at-place i ps p (omega arith) e

    pub at-none : (i : ℕ) (ps : List (Place V A)) → length ps ≤ i → nearest_at d i ps ≡ None
    at-none i [] l = refl
    at-none zero (q ∷ ps) l = absurd (omega arith)
    at-none (suc i) (q ∷ ps) l = at-none i ps (omega arith)

    -- what one place has left says nothing of the others
    pub others-stay : (i : ℕ) (ps : List (Place V A)) (p : Place V A) → nearest_but d i (set ps i p) ≡ nearest_but d i ps
    others-stay i [] p = refl
    others-stay zero (q ∷ ps) p = refl
    others-stay (suc i) (q ∷ ps) p = ap (nearer d (nearest_in d q)) (others-stay i ps p)

-- of the places from one on, the first is that one, and the others are those from the next one on
module _ {V A : Type 0} (d : Direction) (ps : List (Place V A)) (rest next : ℕ) (p : Place V A) (inside : rest < length ps) (is : get_or ps rest p ≡ p) (more : next ≡ rest + 1) where
  split : drop rest ps ≡ p ∷ drop next ps
  split = drop_more ps rest p inside ∙ ap (λ q. q ∷ drop (rest + 1) ps) is ∙ ap (λ i. p ∷ drop i ps) (sym more)

  pub first-at : nearest_in d p ≡ nearest_at d (rest - rest) (drop rest ps)
  first-at = let none : rest - rest ≡ 0 = omega arith in sym (ap (λ i. nearest_at d i (drop rest ps)) none ∙ ap (nearest_at d 0) split)

  pub first-but : nearest_of d (drop next ps) ≡ nearest_but d (rest - rest) (drop rest ps)
  first-but = let none : rest - rest ≡ 0 = omega arith in sym (ap (λ i. nearest_but d i (drop rest ps)) none ∙ ap (nearest_but d 0) split)

  module _ (place : ℕ) (later : next ≤ place) where
    one_more : place - rest ≡ suc (place - next)
    one_more = omega (arith, more)

    pub later-at : nearest_at d (place - next) (drop next ps) ≡ nearest_at d (place - rest) (drop rest ps)
    later-at = sym (ap (λ i. nearest_at d i (drop rest ps)) one_more ∙ ap (nearest_at d (suc (place - next))) split)

    pub later-but : nearer d (nearest_in d p) (nearest_but d (place - next) (drop next ps)) ≡ nearest_but d (place - rest) (drop rest ps)
    later-but = sym (ap (λ i. nearest_but d i (drop rest ps)) one_more ∙ ap (nearest_but d (suc (place - next))) split)

module _ {V A : Type 0} (d : Direction) (v t : ℕ) where
  -- nothing is taken out of a place whose timestamps come later
  later-takes : (p : Place V A) → IsPlace d v p → is_past d t (nearest_in d p) ≡ true → Takes d v t p p
  later-takes p h e = take-past d v p t h (past-from d t (nearest_in d p) e) (past-other d t (nearest_in d p) e)

  later-seeks : (p : Place V A) → IsPlace d v p → is_past d t (nearest_in d p) ≡ true → Seeks d v t p p
  later-seeks p h e = record {
    right = h;
    others = keeps-none v (λ u. not (is_before d u t)) (rows_left d v p) (rows_left d v p) (λ u. refl)
        (λ u b. place-first d v p h u (past-before d u t (nearest_in d p) (not-false (is_before d u t) b) e));
  }

  module _ (R : Place V A → Place V A → Type 0) (later : (p : Place V A) → IsPlace d v p → is_past d t (nearest_in d p) ≡ true → R p p) where
    all-later : (ps : List (Place V A)) → AllByRecursion (IsPlace d v) ps → is_past d t (nearest_of d ps) ≡ true → AllZip R ps ps
    all-later [] h e = tt
    all-later (p ∷ ps) h e = let k = nearer-past d t (nearest_in d p) (nearest_of d ps) e in (later p h.0 k.0, all-later ps h.1 k.1)

    -- where the timestamps of the others come later, one place is changed
    one-of : (i : ℕ) (ps : List (Place V A)) (p new : Place V A) → AllByRecursion (IsPlace d v) ps → is_past d t (nearest_but d i ps) ≡ true → i < length ps → get_or ps i p ≡ p → R p new → AllZip R ps (set ps i new)
    one-of i [] p new h e l is r = absurd (omega arith)
    one-of zero (q ∷ ps) p new h e l is r = (subst (λ o. R o new) (sym is) r, all-later ps h.1 e)
    one-of (suc i) (q ∷ ps) p new h e l is r = let k = nearer-past d t (nearest_in d q) (nearest_but d i ps) e in (later q h.0 k.0, one-of i ps p new h.1 k.1 (omega arith) is r)

  pub takes-one : (i : ℕ) (ps : List (Place V A)) (p new : Place V A) → AllByRecursion (IsPlace d v) ps → is_past d t (nearest_but d i ps) ≡ true → i < length ps → get_or ps i p ≡ p → Takes d v t p new → AllZip (Takes d v t) ps (set ps i new)
  takes-one = one-of (Takes d v t) later-takes

  pub seeks-one : (i : ℕ) (ps : List (Place V A)) (p new : Place V A) → AllByRecursion (IsPlace d v) ps → is_past d t (nearest_but d i ps) ≡ true → i < length ps → get_or ps i p ≡ p → Seeks d v t p new → AllZip (Seeks d v t) ps (set ps i new)
  seeks-one = one-of (Seeks d v t) later-seeks

  -- the others have no entry
  pub entry-one : (i : ℕ) (ps : List (Place V A)) (p : Place V A) → AllByRecursion (IsPlace d v) ps → is_past d t (nearest_but d i ps) ≡ true → i < length ps → get_or ps i p ≡ p → entry_of (key_of v t) (lists_left d v ps) ≡ entry_at (key_of v t) (rows_left d v p)
  entry-one i [] p h e l is = absurd (omega arith)
  entry-one zero (q ∷ ps) p h e l is =
      ap (first_some (entry_at (key_of v t) (rows_left d v q))) (first-all d v ps h.1 t e)
      ∙ first_some-none (entry_at (key_of v t) (rows_left d v q))
      ∙ ap (λ o. entry_at (key_of v t) (rows_left d v o)) is
  entry-one (suc i) (q ∷ ps) p h e l is =
      let k = nearer-past d t (nearest_in d q) (nearest_but d i ps) e in
      ap (λ x. first_some x (entry_of (key_of v t) (lists_left d v ps))) (place-first d v q h.0 t k.0)
      ∙ entry-one i ps p h.1 k.1 (omega arith) is
