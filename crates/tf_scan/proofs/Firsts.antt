-- The first timestamps of unions and intersections.
use Rattle.std.proofs.Common.{◌≡◌, ℕ, ◌<◌, arith, List, [], ◌∷◌, Bool, true, false, not, ◌||◌, ◌&&◌, refl, sym, ◌∙◌, ap, subst, Option, Some, None, length, drop}
use Rattle.std.specs.Prelude.{nat_eq, slice_get}
use Rattle.tf_scan.specs.declared.direction.Direction.{Direction}
use Rattle.tf_scan.specs.Order.{is_before, AllBehind, IsInOrder, those_from}
use Rattle.tf_scan.specs.Sets.{is_among, union_of, intersection_of}
use Rattle.tf_scan.proofs.Order.{before-total, behind-trans, behind-filter, in_order-filter, in_order-drop}
use Rattle.tf_scan.proofs.Members.{among-filter, behind-all, behind-among, first-least, same-members, false_true}
use Rattle.tf_scan.proofs.Joins.{among-union, among-intersection, in_order-union, in_order-intersection}
use Rattle.tf_scan.proofs.Seeks.{from-behind, from-shorter}

pub first-none : (ts : List ℕ) → slice_get ts 0 ≡ None → ts ≡ []
first-none [] e = refl
first-none (t ∷ ts) e = absurd (let h : Some t ≡ None = e in cc)

or-elim : {P : Type 0} (a b : Bool) → (a || b) ≡ true → (a ≡ true → P) → (b ≡ true → P) → P
or-elim true b e f g = f refl
or-elim false b e f g = g e

behind-union : (d : Direction) (t : ℕ) (ts us : List ℕ) → AllBehind d t ts → AllBehind d t us → AllBehind d t (union_of d ts us)
behind-union d t ts us h k = behind-all d t (union_of d ts us) (λ u m.
    or-elim (is_among u ts) (is_among u us) (sym (among-union d u ts us) ∙ m) (λ i. behind-among d t u ts h i) (λ i. behind-among d t u us k i))

pub behind-next : (d : Direction) (t u : ℕ) (us : List ℕ) → is_before d t u ≡ true → AllBehind d u us → AllBehind d t (u ∷ us)
behind-next d t u us b h = (b, behind-trans d t u us b h)

or-assoc : (a b c : Bool) → ((a || b) || c) ≡ (a || (b || c))
or-assoc true b c = refl
or-assoc false b c = refl

or-swap : (a b c : Bool) → (a || (b || c)) ≡ (b || (a || c))
or-swap true true c = refl
or-swap true false c = refl
or-swap false b c = refl

or-shared : (a b c : Bool) → ((a || b) || (a || c)) ≡ (a || (b || c))
or-shared true b c = refl
or-shared false b c = refl

and-shared : (a b c : Bool) → ((a || b) && (a || c)) ≡ (a || (b && c))
and-shared true b c = refl
and-shared false b c = refl

union-left-cons : (d : Direction) (a b : ℕ) (ts us : List ℕ) → is_before d a b ≡ true → IsInOrder d (a ∷ ts) → IsInOrder d (b ∷ us) → union_of d (a ∷ ts) (b ∷ us) ≡ a ∷ union_of d ts (b ∷ us)
union-left-cons d a b ts us n h k =
    same-members d (union_of d (a ∷ ts) (b ∷ us)) (a ∷ union_of d ts (b ∷ us)) (in_order-union d (a ∷ ts) (b ∷ us) k)
    (behind-union d a ts (b ∷ us) h.0 (behind-next d a b us n k.0), in_order-union d ts (b ∷ us) k) (λ u.
    among-union d u (a ∷ ts) (b ∷ us) ∙ or-assoc (nat_eq u a) (is_among u ts) (is_among u (b ∷ us)) ∙ ap (λ r. nat_eq u a || r) (sym (among-union d u ts (b ∷ us))))

union-right-cons : (d : Direction) (a b : ℕ) (ts us : List ℕ) → is_before d b a ≡ true → IsInOrder d (a ∷ ts) → IsInOrder d (b ∷ us) → union_of d (a ∷ ts) (b ∷ us) ≡ b ∷ union_of d (a ∷ ts) us
union-right-cons d a b ts us n h k =
    same-members d (union_of d (a ∷ ts) (b ∷ us)) (b ∷ union_of d (a ∷ ts) us) (in_order-union d (a ∷ ts) (b ∷ us) k)
    (behind-union d b (a ∷ ts) us (behind-next d b a ts n h.0) k.0, in_order-union d (a ∷ ts) us k.1) (λ u.
    among-union d u (a ∷ ts) (b ∷ us) ∙ or-swap (is_among u (a ∷ ts)) (nat_eq u b) (is_among u us) ∙ ap (λ r. nat_eq u b || r) (sym (among-union d u (a ∷ ts) us)))

union-both-cons : (d : Direction) (a : ℕ) (ts us : List ℕ) → IsInOrder d (a ∷ ts) → IsInOrder d (a ∷ us) → union_of d (a ∷ ts) (a ∷ us) ≡ a ∷ union_of d ts us
union-both-cons d a ts us h k =
    same-members d (union_of d (a ∷ ts) (a ∷ us)) (a ∷ union_of d ts us) (in_order-union d (a ∷ ts) (a ∷ us) k)
    (behind-union d a ts us h.0 k.0, in_order-union d ts us k.1) (λ u.
    among-union d u (a ∷ ts) (a ∷ us) ∙ or-shared (nat_eq u a) (is_among u ts) (is_among u us) ∙ ap (λ r. nat_eq u a || r) (sym (among-union d u ts us)))

intersection-both-cons : (d : Direction) (a : ℕ) (ts us : List ℕ) → IsInOrder d (a ∷ ts) → IsInOrder d (a ∷ us) → intersection_of (a ∷ ts) (a ∷ us) ≡ a ∷ intersection_of ts us
intersection-both-cons d a ts us h k =
    same-members d (intersection_of (a ∷ ts) (a ∷ us)) (a ∷ intersection_of ts us) (in_order-intersection d (a ∷ ts) (a ∷ us) h)
    (behind-filter d a (λ t. is_among t us) ts h.0, in_order-intersection d ts us h.1) (λ u.
    among-intersection u (a ∷ ts) (a ∷ us) ∙ and-shared (nat_eq u a) (is_among u ts) (is_among u us) ∙ ap (λ r. nat_eq u a || r) (sym (among-intersection u ts us)))

-- the union where one part is at its end
pub union-left-none : (d : Direction) (ts us : List ℕ) → slice_get ts 0 ≡ None → union_of d ts us ≡ us
union-left-none d ts us e = rw (first-none ts e) refl

pub union-right-none : (d : Direction) (ts us : List ℕ) → IsInOrder d ts → slice_get us 0 ≡ None → union_of d ts us ≡ ts
union-right-none d ts us h e = rw (first-none us e)
    (same-members d (union_of d ts []) ts (in_order-union d ts [] tt) h (λ u. among-union d u ts [] ∙ or-none (is_among u ts)))
  where
    or-none : (a : Bool) → (a || false) ≡ a
    or-none true = refl
    or-none false = refl

-- the union where the first one of the left part comes before that of the right part, the other way round, and where both are the same
pub union-left : (d : Direction) (a b : ℕ) (ts us : List ℕ) → IsInOrder d ts → IsInOrder d us → slice_get ts 0 ≡ Some a → slice_get us 0 ≡ Some b → is_before d a b ≡ true → union_of d ts us ≡ a ∷ union_of d (drop 1 ts) us
union-left d a b [] us h k e f n = absurd (let t : None ≡ Some a = e in cc)
union-left d a b (x ∷ ts) [] h k e f n = absurd (let t : None ≡ Some b = f in cc)
union-left d a b (x ∷ ts) (y ∷ us) h k e f n =
    let i : Some x ≡ Some a = e in let j : Some y ≡ Some b = f in let p : x ≡ a = cc in let q : y ≡ b = cc in
    union-left-cons d x y ts us (ap (λ w. is_before d w y) p ∙ ap (λ w. is_before d a w) q ∙ n) h k ∙ ap (λ w. w ∷ union_of d ts (y ∷ us)) p

pub union-right : (d : Direction) (a b : ℕ) (ts us : List ℕ) → IsInOrder d ts → IsInOrder d us → slice_get ts 0 ≡ Some a → slice_get us 0 ≡ Some b → is_before d b a ≡ true → union_of d ts us ≡ b ∷ union_of d ts (drop 1 us)
union-right d a b [] us h k e f n = absurd (let t : None ≡ Some a = e in cc)
union-right d a b (x ∷ ts) [] h k e f n = absurd (let t : None ≡ Some b = f in cc)
union-right d a b (x ∷ ts) (y ∷ us) h k e f n =
    let i : Some x ≡ Some a = e in let j : Some y ≡ Some b = f in let p : x ≡ a = cc in let q : y ≡ b = cc in
    union-right-cons d x y ts us (ap (λ w. is_before d y w) p ∙ ap (λ w. is_before d w a) q ∙ n) h k ∙ ap (λ w. w ∷ union_of d (x ∷ ts) us) q

pub union-both : (d : Direction) (a b : ℕ) (ts us : List ℕ) → IsInOrder d ts → IsInOrder d us → slice_get ts 0 ≡ Some a → slice_get us 0 ≡ Some b → is_before d a b ≡ false → is_before d b a ≡ false → union_of d ts us ≡ b ∷ union_of d (drop 1 ts) (drop 1 us)
union-both d a b [] us h k e f n m = absurd (let t : None ≡ Some a = e in cc)
union-both d a b (x ∷ ts) [] h k e f n m = absurd (let t : None ≡ Some b = f in cc)
union-both d a b (x ∷ ts) (y ∷ us) h k e f n m =
    let i : Some x ≡ Some a = e in let j : Some y ≡ Some b = f in let o : a ≡ b = before-total d a b n m in let p : x ≡ y = cc in let q : y ≡ b = cc in
    ap (λ w. union_of d (w ∷ ts) (y ∷ us)) p ∙ union-both-cons d y ts us (subst (λ w. IsInOrder d (w ∷ ts)) p h) k ∙ ap (λ w. w ∷ union_of d ts us) q

-- the intersection where one part is at its end
pub intersection-left-none : (ts us : List ℕ) → slice_get ts 0 ≡ None → intersection_of ts us ≡ []
intersection-left-none ts us e = rw (first-none ts e) refl

none-among : (ts : List ℕ) → intersection_of ts [] ≡ []
none-among [] = refl
none-among (t ∷ ts) = none-among ts

pub intersection-right-none : (ts us : List ℕ) → slice_get us 0 ≡ None → intersection_of ts us ≡ []
intersection-right-none ts us e = rw (first-none us e) (none-among ts)

pub intersection-both : (d : Direction) (a b : ℕ) (ts us : List ℕ) → IsInOrder d ts → IsInOrder d us → slice_get ts 0 ≡ Some a → slice_get us 0 ≡ Some b → is_before d a b ≡ false → is_before d b a ≡ false → intersection_of ts us ≡ b ∷ intersection_of (drop 1 ts) (drop 1 us)
intersection-both d a b [] us h k e f n m = absurd (let t : None ≡ Some a = e in cc)
intersection-both d a b (x ∷ ts) [] h k e f n m = absurd (let t : None ≡ Some b = f in cc)
intersection-both d a b (x ∷ ts) (y ∷ us) h k e f n m =
    let i : Some x ≡ Some a = e in let j : Some y ≡ Some b = f in let o : a ≡ b = before-total d a b n m in let p : x ≡ y = cc in let q : y ≡ b = cc in
    ap (λ w. intersection_of (w ∷ ts) (y ∷ us)) p ∙ intersection-both-cons d y ts us (subst (λ w. IsInOrder d (w ∷ ts)) p h) k ∙ ap (λ w. w ∷ intersection_of ts us) q

-- nothing of a list comes before its first one
first-before-none : (d : Direction) (a u : ℕ) (ts : List ℕ) → IsInOrder d ts → slice_get ts 0 ≡ Some a → is_among u ts ≡ true → is_before d u a ≡ false
first-before-none d a u [] h e m = false_true m
first-before-none d a u (t ∷ ts) h e m = let i : Some t ≡ Some a = e in let p : t ≡ a = cc in subst (λ w. is_before d u w ≡ false) p (first-least d t u ts h.0 m)

and-left : (a b q : Bool) → (b ≡ true → q ≡ false) → ((a && not q) && b) ≡ (a && b)
and-left true true q h = rw (h refl) refl
and-left true false true h = refl
and-left true false false h = refl
and-left false b q h = refl

and-right : (a b q : Bool) → (a ≡ true → q ≡ false) → (a && (b && not q)) ≡ (a && b)
and-right true true q h = rw (h refl) refl
and-right true false q h = refl
and-right false b q h = refl

-- a part that seeks to the first one of the other loses nothing that both have
pub intersection-seek-left : (d : Direction) (b : ℕ) (ts us : List ℕ) → IsInOrder d ts → IsInOrder d us → slice_get us 0 ≡ Some b → intersection_of (those_from d b ts) us ≡ intersection_of ts us
intersection-seek-left d b ts us h k e =
    same-members d (intersection_of (those_from d b ts) us) (intersection_of ts us)
    (in_order-intersection d (those_from d b ts) us (in_order-filter d (λ u. not (is_before d u b)) ts h)) (in_order-intersection d ts us h) (λ u.
    among-intersection u (those_from d b ts) us
    ∙ ap (λ r. r && is_among u us) (among-filter u (λ v. not (is_before d v b)) ts)
    ∙ and-left (is_among u ts) (is_among u us) (is_before d u b) (λ m. first-before-none d b u us k e m)
    ∙ sym (among-intersection u ts us))

pub intersection-seek-right : (d : Direction) (a : ℕ) (ts us : List ℕ) → IsInOrder d ts → IsInOrder d us → slice_get ts 0 ≡ Some a → intersection_of ts (those_from d a us) ≡ intersection_of ts us
intersection-seek-right d a ts us h k e =
    same-members d (intersection_of ts (those_from d a us)) (intersection_of ts us) (in_order-intersection d ts (those_from d a us) h) (in_order-intersection d ts us h) (λ u.
    among-intersection u ts (those_from d a us)
    ∙ ap (λ r. is_among u ts && r) (among-filter u (λ v. not (is_before d v a)) us)
    ∙ and-right (is_among u ts) (is_among u us) (is_before d u a) (λ m. first-before-none d a u ts h e m)
    ∙ sym (among-intersection u ts us))

-- a part whose first one comes before t is shorter after a seek to it
pub seek-shortens : (d : Direction) (a t : ℕ) (ts : List ℕ) → slice_get ts 0 ≡ Some a → is_before d a t ≡ true → length (those_from d t ts) < length ts
seek-shortens d a t [] e b = absurd (let h : None ≡ Some a = e in cc)
seek-shortens d a t (u ∷ ts) e b =
    let i : Some u ≡ Some a = e in let p : u ≡ a = cc in
    let l : length (those_from d t (u ∷ ts)) ≡ length (those_from d t ts) = ap length (from-behind d u t ts (ap (λ w. is_before d w t) p ∙ b)) in
    let s = from-shorter d t ts in omega arith

-- ---- the first timestamp of a union, and what is left where it is taken out of the parts that have it

pub rest-left-none : (d : Direction) (ts us ts' us' : List ℕ) → None ≡ slice_get ts 0 → ts' ≡ ts → us' ≡ drop 1 us → union_of d ts' us' ≡ drop 1 (union_of d ts us)
rest-left-none d ts us ts' us' e f g = rw (f, g, union-left-none d ts us (sym e)) (union-left-none d ts (drop 1 us) (sym e))

pub rest-right-none : (d : Direction) (ts us ts' us' : List ℕ) → IsInOrder d ts → None ≡ slice_get us 0 → ts' ≡ drop 1 ts → us' ≡ us → union_of d ts' us' ≡ drop 1 (union_of d ts us)
rest-right-none d ts us ts' us' h e f g = rw (f, g, union-right-none d ts us h (sym e)) (union-right-none d (drop 1 ts) us (in_order-drop d ts h) (sym e))

module _ (d : Direction) (a b : ℕ) (ts us : List ℕ) (h : IsInOrder d ts) (k : IsInOrder d us) (e : Some a ≡ slice_get ts 0) (f : Some b ≡ slice_get us 0) where
  pub first-left : (r : Option ℕ) → is_before d a b ≡ true → r ≡ slice_get ts 0 → r ≡ slice_get (union_of d ts us) 0
  first-left r n i = rw (union-left d a b ts us h k (sym e) (sym f) n) (i ∙ sym e)

  pub first-right : (r : Option ℕ) → is_before d b a ≡ true → r ≡ slice_get us 0 → r ≡ slice_get (union_of d ts us) 0
  first-right r n i = rw (union-right d a b ts us h k (sym e) (sym f) n) (i ∙ sym f)

  pub first-both : (r : Option ℕ) → is_before d a b ≡ false → is_before d b a ≡ false → r ≡ slice_get us 0 → r ≡ slice_get (union_of d ts us) 0
  first-both r n m i = rw (union-both d a b ts us h k (sym e) (sym f) n m) (i ∙ sym f)

module _ (d : Direction) (a b : ℕ) (ts us ts' us' : List ℕ) (h : IsInOrder d ts) (k : IsInOrder d us) (e : Some a ≡ slice_get ts 0) (f : Some b ≡ slice_get us 0) where
  pub rest-left : is_before d a b ≡ true → ts' ≡ drop 1 ts → us' ≡ us → union_of d ts' us' ≡ drop 1 (union_of d ts us)
  rest-left n i j = rw (i, j, union-left d a b ts us h k (sym e) (sym f) n) refl

  pub rest-right : is_before d b a ≡ true → ts' ≡ ts → us' ≡ drop 1 us → union_of d ts' us' ≡ drop 1 (union_of d ts us)
  rest-right n i j = rw (i, j, union-right d a b ts us h k (sym e) (sym f) n) refl

  pub rest-both : is_before d a b ≡ false → is_before d b a ≡ false → ts' ≡ drop 1 ts → us' ≡ drop 1 us → union_of d ts' us' ≡ drop 1 (union_of d ts us)
  rest-both n m i j = rw (i, j, union-both d a b ts us h k (sym e) (sym f) n m) refl

  pub rest-shared : is_before d a b ≡ false → is_before d b a ≡ false → ts' ≡ drop 1 ts → us' ≡ drop 1 us → intersection_of ts' us' ≡ drop 1 (intersection_of ts us)
  rest-shared n m i j = rw (i, j, intersection-both d a b ts us h k (sym e) (sym f) n m) refl
