-- Lists of timestamps in order.
use Rattle.std.proofs.Common.{◌≡◌, ℕ, zero, suc, cond, arith, List, [], ◌∷◌, ◌++◌, Bool, true, false, drop}
use Rattle.std.specs.Prelude.{filter}
use Rattle.std.proofs.lemmas.Bool.{lt-ltb, ltb-true, le-ltb, ltb-false}
use Rattle.tf_scan.specs.declared.direction.Direction.{Direction}
use Rattle.tf_scan.specs.declared.direction.Direction.TheVariants.{Rising, Falling}
use Rattle.tf_scan.specs.Order.{is_before, AllBehind, IsInOrder}

-- nothing comes before itself
pub before-self : (d : Direction) (t : ℕ) → is_before d t t ≡ false
before-self Rising t = le-ltb t t (omega arith)
before-self Falling t = le-ltb t t (omega arith)

pub before-trans : (d : Direction) (t u v : ℕ) → is_before d t u ≡ true → is_before d u v ≡ true → is_before d t v ≡ true
before-trans Rising t u v a b = lt-ltb t v (let e = ltb-true t u a in let f = ltb-true u v b in omega arith)
before-trans Falling t u v a b = lt-ltb v t (let e = ltb-true u t a in let f = ltb-true v u b in omega arith)

-- of two timestamps at most one comes before the other
pub before-asym : (d : Direction) (t u : ℕ) → is_before d t u ≡ true → is_before d u t ≡ false
before-asym Rising t u a = le-ltb u t (let e = ltb-true t u a in omega arith)
before-asym Falling t u a = le-ltb t u (let e = ltb-true u t a in omega arith)

-- two timestamps are the same where neither comes before the other
pub before-total : (d : Direction) (t u : ℕ) → is_before d t u ≡ false → is_before d u t ≡ false → t ≡ u
before-total Rising t u a b = let e = ltb-false t u a in let f = ltb-false u t b in omega arith
before-total Falling t u a b = let e = ltb-false u t a in let f = ltb-false t u b in omega arith

-- what comes before t comes before what doesn't
pub before-past : (d : Direction) (u n t : ℕ) → is_before d u t ≡ true → is_before d n t ≡ false → is_before d u n ≡ true
before-past Rising u n t a b = lt-ltb u n (let e = ltb-true u t a in let f = ltb-false n t b in omega arith)
before-past Falling u n t a b = lt-ltb n u (let e = ltb-true t u a in let f = ltb-false t n b in omega arith)

pub not-before-trans : (d : Direction) (t u v : ℕ) → is_before d t u ≡ false → is_before d u v ≡ false → is_before d t v ≡ false
not-before-trans Rising t u v a b = le-ltb t v (let e = ltb-false t u a in let f = ltb-false u v b in omega arith)
not-before-trans Falling t u v a b = le-ltb v t (let e = ltb-false u t a in let f = ltb-false v u b in omega arith)

pub behind-trans : (d : Direction) (t u : ℕ) (us : List ℕ) → is_before d t u ≡ true → AllBehind d u us → AllBehind d t us
behind-trans d t u [] a h = tt
behind-trans d t u (v ∷ vs) a h = (before-trans d t u v a h.0, behind-trans d t u vs a h.1)

pub behind-filter : (d : Direction) (t : ℕ) (p : ℕ → Bool) (us : List ℕ) → AllBehind d t us → AllBehind d t (filter p us)
behind-filter d t p [] h = tt
behind-filter d t p (u ∷ us) h = kept (p u) (behind-filter d t p us h.1)
  where
    kept : (b : Bool) → AllBehind d t (filter p us) → AllBehind d t (cond b (u ∷ filter p us) (filter p us))
    kept true k = (h.0, k)
    kept false k = k

behind-append : (d : Direction) (t : ℕ) (us vs : List ℕ) → AllBehind d t us → AllBehind d t vs → AllBehind d t (us ++ vs)
behind-append d t [] vs h k = k
behind-append d t (u ∷ us) vs h k = (h.0, behind-append d t us vs h.1 k)

-- each of the first timestamps comes before all of the others
abbrev pub AllBefore : Direction → List ℕ → List ℕ → Type 0
AllBefore d [] us = Unit {0}
AllBefore d (t ∷ ts) us = AllBehind d t us × AllBefore d ts us

-- what is kept of a list in order is in order
pub in_order-filter : (d : Direction) (p : ℕ → Bool) (ts : List ℕ) → IsInOrder d ts → IsInOrder d (filter p ts)
in_order-filter d p [] h = tt
in_order-filter d p (t ∷ ts) h = kept (p t) (in_order-filter d p ts h.1)
  where
    kept : (b : Bool) → IsInOrder d (filter p ts) → IsInOrder d (cond b (t ∷ filter p ts) (filter p ts))
    kept true k = (behind-filter d t p ts h.0, k)
    kept false k = k

pub in_order-drop : (d : Direction) (ts : List ℕ) → IsInOrder d ts → IsInOrder d (drop 1 ts)
in_order-drop d [] h = tt
in_order-drop d (t ∷ ts) h = h.1

pub in_order-rest : (d : Direction) (n : ℕ) (ts : List ℕ) → IsInOrder d ts → IsInOrder d (drop n ts)
in_order-rest d zero ts h = h
in_order-rest d (suc n) [] h = tt
in_order-rest d (suc n) (t ∷ ts) h = in_order-rest d n ts h.1

-- two lists in order, all of the one before all of the other, are in order one after the other
pub in_order-append : (d : Direction) (ts us : List ℕ) → IsInOrder d ts → IsInOrder d us → AllBefore d ts us → IsInOrder d (ts ++ us)
in_order-append d [] us h k b = k
in_order-append d (t ∷ ts) us h k b = (behind-append d t ts us h.0 b.0, in_order-append d ts us h.1 k b.1)
