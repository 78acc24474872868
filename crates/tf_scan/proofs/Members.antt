-- Which timestamps are in a list, and that a list in order is known by them.
use Rattle.std.proofs.Common.{◌≡◌, ℕ, cond, arith, List, [], ◌∷◌, ◌++◌, Bool, true, false, not, ◌||◌, ◌&&◌, refl, sym, ◌∙◌, ap, subst}
use Rattle.std.specs.Prelude.{filter, nat_eq}
use Rattle.std.proofs.lemmas.Bool.{eqb-true, eq-eqb}
use Rattle.tf_scan.specs.declared.direction.Direction.{Direction}
use Rattle.tf_scan.specs.Order.{is_before, AllBehind, IsInOrder}
use Rattle.tf_scan.specs.Sets.{is_among}
use Rattle.tf_scan.proofs.Order.{before-self, before-asym, before-total}

pub false_true : {X : Type 0} → false ≡ true → X
false_true e = absurd (let t : false ≡ true = e in cc)

pub or-left : (a b : Bool) → a ≡ true → (a || b) ≡ true
or-left a b e = rw e refl

pub or-right : (a b : Bool) → b ≡ true → (a || b) ≡ true
or-right true b e = refl
or-right false b e = e

pub among-append : (u : ℕ) (ts us : List ℕ) → is_among u (ts ++ us) ≡ (is_among u ts || is_among u us)
among-append u [] us = refl
among-append u (t ∷ ts) us = grind (arith, among-append u ts us)

or_and : (e m q : Bool) → (e ≡ true → q ≡ true) → (e || (m && q)) ≡ ((e || m) && q)
or_and true m q h = sym (h refl)
or_and false m q h = refl

and_none : (e m q : Bool) → (e ≡ true → q ≡ false) → (m && q) ≡ ((e || m) && q)
and_none true true q h = refl
and_none true false q h = sym (h refl)
and_none false m q h = refl

pub among-filter : (u : ℕ) (p : ℕ → Bool) (ts : List ℕ) → is_among u (filter p ts) ≡ (is_among u ts && p u)
among-filter u p [] = refl
among-filter u p (t ∷ ts) = step (p t) refl (among-filter u p ts)
  where
    step : (b : Bool) → p t ≡ b → is_among u (filter p ts) ≡ (is_among u ts && p u) → is_among u (cond b (t ∷ filter p ts) (filter p ts)) ≡ ((nat_eq u t || is_among u ts) && p u)
    step true k i = ap (λ r. nat_eq u t || r) i ∙ or_and (nat_eq u t) (is_among u ts) (p u) (λ e. ap p (eqb-true u t e) ∙ k)
    step false k i = i ∙ and_none (nat_eq u t) (is_among u ts) (p u) (λ e. ap p (eqb-true u t e) ∙ k)

pub among-first : (t : ℕ) (ts : List ℕ) → is_among t (t ∷ ts) ≡ true
among-first t ts = or-left (nat_eq t t) (is_among t ts) (eq-eqb t t refl)

-- what is in a list behind t comes behind t
pub behind-among : (d : Direction) (t u : ℕ) (us : List ℕ) → AllBehind d t us → is_among u us ≡ true → is_before d t u ≡ true
behind-among d t u [] h m = false_true m
behind-among d t u (v ∷ vs) h m = step (nat_eq u v) refl m (behind-among d t u vs h.1)
  where
    step : (e : Bool) → nat_eq u v ≡ e → (e || is_among u vs) ≡ true → (is_among u vs ≡ true → is_before d t u ≡ true) → is_before d t u ≡ true
    step true k i r = subst (λ w. is_before d t w ≡ true) (sym (eqb-true u v k)) h.0
    step false k i r = r i

-- a list of which each timestamp comes behind t is behind t
pub behind-all : (d : Direction) (t : ℕ) (us : List ℕ) → ((u : ℕ) → is_among u us ≡ true → is_before d t u ≡ true) → AllBehind d t us
behind-all d t [] h = tt
behind-all d t (u ∷ us) h = (h u (among-first u us), behind-all d t us (λ v m. h v (or-right (nat_eq v u) (is_among v us) m)))

-- a timestamp isn't in a list behind itself
pub among-self : (d : Direction) (t : ℕ) (us : List ℕ) → AllBehind d t us → is_among t us ≡ false
among-self d t us h = step (is_among t us) refl
  where
    step : (b : Bool) → is_among t us ≡ b → b ≡ false
    step false e = refl
    step true e = false_true (sym (before-self d t) ∙ behind-among d t t us h e)

-- the first of a list in order comes before none of it
pub first-least : (d : Direction) (t u : ℕ) (ts : List ℕ) → AllBehind d t ts → is_among u (t ∷ ts) ≡ true → is_before d u t ≡ false
first-least d t u ts h m = step (nat_eq u t) refl m
  where
    step : (e : Bool) → nat_eq u t ≡ e → (e || is_among u ts) ≡ true → is_before d u t ≡ false
    step true k i = subst (λ w. is_before d w t ≡ false) (sym (eqb-true u t k)) (before-self d t)
    step false k i = before-asym d t u (behind-among d t u ts h i)

-- whether a timestamp is in the rest of a list in order
among-rest : (d : Direction) (t u : ℕ) (ts : List ℕ) → AllBehind d t ts → is_among u ts ≡ (not (nat_eq u t) && is_among u (t ∷ ts))
among-rest d t u ts h = step (nat_eq u t) refl
  where
    step : (e : Bool) → nat_eq u t ≡ e → is_among u ts ≡ (not e && (e || is_among u ts))
    step true k = subst (λ w. is_among w ts ≡ false) (sym (eqb-true u t k)) (among-self d t ts h)
    step false k = refl

-- two lists in order with the same timestamps are the same
pub same-members : (d : Direction) (ts us : List ℕ) → IsInOrder d ts → IsInOrder d us → ((u : ℕ) → is_among u ts ≡ is_among u us) → ts ≡ us
same-members d [] [] h k e = refl
same-members d [] (u ∷ us) h k e = false_true (e u ∙ among-first u us)
same-members d (t ∷ ts) [] h k e = false_true (sym (e t) ∙ among-first t ts)
same-members d (t ∷ ts) (u ∷ us) h k e =
    let first : t ≡ u = before-total d t u
    (first-least d u t us k.0 (sym (e t) ∙ among-first t ts))
    (first-least d t u ts h.0 (e u ∙ among-first u us)) in
    let others = same-members d ts us h.1 k.1 (λ v.
    among-rest d t v ts h.0 ∙ ap (λ r. not (nat_eq v t) && r) (e v) ∙ ap (λ w. not (nat_eq v w) && is_among v (u ∷ us)) first ∙ sym (among-rest d u v us k.0)) in
    ap (λ w. w ∷ ts) first ∙ ap (λ r. u ∷ r) others
