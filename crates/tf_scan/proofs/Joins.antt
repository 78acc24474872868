-- What unions and intersections of lists in order are.
use Rattle.std.proofs.Common.{◌≡◌, ℕ, cond, List, [], ◌∷◌, Bool, true, false, ◌||◌, ◌&&◌, refl, sym, ◌∙◌, ap}
use Rattle.std.specs.Prelude.{nat_eq}
use Rattle.std.proofs.lemmas.Bool.{eq-eqb}
use Rattle.tf_scan.specs.declared.direction.Direction.{Direction}
use Rattle.tf_scan.specs.Order.{is_before, AllBehind, IsInOrder, those_before, those_behind}
use Rattle.tf_scan.specs.Sets.{is_among, with_timestamp, union_of, intersection_of}
use Rattle.tf_scan.proofs.Order.{before-total, behind-trans, AllBefore, in_order-filter, in_order-append}
use Rattle.tf_scan.proofs.Members.{among-append, among-filter}

-- those before t, t, and those behind it
around : (e m b c : Bool) → (e ≡ false → b ≡ false → c ≡ false → false ≡ true) → ((m && b) || (e || (m && c))) ≡ (e || m)
around true true true c h = refl
around true true false c h = refl
around true false b c h = refl
around false true true c h = refl
around false true false true h = refl
around false true false false h = absurd (let t : false ≡ true = h refl refl refl in cc)
around false false b c h = refl

pub among-with : (d : Direction) (t u : ℕ) (ts : List ℕ) → is_among u (with_timestamp d t ts) ≡ (nat_eq u t || is_among u ts)
among-with d t u ts =
    among-append u (those_before d t ts) (t ∷ those_behind d t ts)
    ∙ ap (λ r. r || (nat_eq u t || is_among u (those_behind d t ts))) (among-filter u (λ v. is_before d v t) ts)
    ∙ ap (λ r. (is_among u ts && is_before d u t) || (nat_eq u t || r)) (among-filter u (λ v. is_before d t v) ts)
    ∙ around (nat_eq u t) (is_among u ts) (is_before d u t) (is_before d t u) (λ e b c. sym e ∙ eq-eqb u t (before-total d u t b c))

-- a timestamp is in a union exactly where it is in one of the two
pub among-union : (d : Direction) (u : ℕ) (ts us : List ℕ) → is_among u (union_of d ts us) ≡ (is_among u ts || is_among u us)
among-union d u [] us = refl
among-union d u (t ∷ ts) us = among-with d t u (union_of d ts us) ∙ ap (λ r. nat_eq u t || r) (among-union d u ts us) ∙ assoc (nat_eq u t) (is_among u ts) (is_among u us)
  where
    assoc : (a b c : Bool) → (a || (b || c)) ≡ ((a || b) || c)
    assoc true b c = refl
    assoc false b c = refl

-- a timestamp is in an intersection exactly where it is in both
pub among-intersection : (u : ℕ) (ts us : List ℕ) → is_among u (intersection_of ts us) ≡ (is_among u ts && is_among u us)
among-intersection u ts us = among-filter u (λ t. is_among t us) ts

before-all : (d : Direction) (t : ℕ) (ts us : List ℕ) → AllBehind d t us → AllBefore d (those_before d t ts) (t ∷ us)
before-all d t [] us h = tt
before-all d t (u ∷ ts) us h = step (is_before d u t) refl (before-all d t ts us h)
  where
    step : (b : Bool) → is_before d u t ≡ b → AllBefore d (those_before d t ts) (t ∷ us) → AllBefore d (cond b (u ∷ those_before d t ts) (those_before d t ts)) (t ∷ us)
    step true k i = ((k, behind-trans d u t us k h), i)
    step false k i = i

behind-those : (d : Direction) (t : ℕ) (ts : List ℕ) → AllBehind d t (those_behind d t ts)
behind-those d t [] = tt
behind-those d t (u ∷ ts) = step (is_before d t u) refl (behind-those d t ts)
  where
    step : (b : Bool) → is_before d t u ≡ b → AllBehind d t (those_behind d t ts) → AllBehind d t (cond b (u ∷ those_behind d t ts) (those_behind d t ts))
    step true k i = (k, i)
    step false k i = i

in_order-with : (d : Direction) (t : ℕ) (ts : List ℕ) → IsInOrder d ts → IsInOrder d (with_timestamp d t ts)
in_order-with d t ts h =
    in_order-append d (those_before d t ts) (t ∷ those_behind d t ts) (in_order-filter d (λ u. is_before d u t) ts h)
    (behind-those d t ts, in_order-filter d (λ u. is_before d t u) ts h) (before-all d t ts (those_behind d t ts) (behind-those d t ts))

pub in_order-union : (d : Direction) (ts us : List ℕ) → IsInOrder d us → IsInOrder d (union_of d ts us)
in_order-union d [] us h = h
in_order-union d (t ∷ ts) us h = in_order-with d t (union_of d ts us) (in_order-union d ts us h)

pub in_order-intersection : (d : Direction) (ts us : List ℕ) → IsInOrder d ts → IsInOrder d (intersection_of ts us)
in_order-intersection d ts us h = in_order-filter d (λ t. is_among t us) ts h
