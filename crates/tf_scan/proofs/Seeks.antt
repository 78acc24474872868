-- What a seek leaves.
use Rattle.std.proofs.Common.{◌≡◌, ℕ, suc, ◌≤◌, cond, arith, List, [], ◌∷◌, Bool, true, false, not, ◌||◌, ◌&&◌, refl, sym, ◌∙◌, ap, subst, length}
use Rattle.std.specs.Prelude.{filter, nat_eq}
use Rattle.std.proofs.lemmas.Bool.{eqb-true}
use Rattle.tf_scan.specs.declared.direction.Direction.{Direction}
use Rattle.tf_scan.specs.declared.operation.Operation.{Operation}
use Rattle.tf_scan.specs.declared.operation.Operation.TheVariants.{Union, Intersection}
use Rattle.tf_scan.specs.Order.{is_before, AllBehind, IsInOrder, those_from}
use Rattle.tf_scan.specs.Sets.{is_among, union_of, intersection_of}
use Rattle.tf_scan.specs.Node.{join_of}
use Rattle.tf_scan.proofs.Order.{before-trans, in_order-filter}
use Rattle.tf_scan.proofs.Members.{among-filter, among-first, behind-among, same-members, or-right, false_true}
use Rattle.tf_scan.proofs.Joins.{among-union, among-intersection, in_order-union, in_order-intersection}

filter-all : (p : ℕ → Bool) (ts : List ℕ) → ((u : ℕ) → is_among u ts ≡ true → p u ≡ true) → filter p ts ≡ ts
filter-all p [] h = refl
filter-all p (t ∷ ts) h = rw (h t (among-first t ts)) (ap (λ r. t ∷ r) (filter-all p ts (λ u m. h u (or-right (nat_eq u t) (is_among u ts) m))))

-- nothing comes before what the first one of a list doesn't come before
pub none-before : (d : Direction) (f t u : ℕ) (ts : List ℕ) → AllBehind d f ts → is_before d f t ≡ false → is_among u (f ∷ ts) ≡ true → is_before d u t ≡ false
none-before d f t u ts h n m = step (is_before d u t) refl (nat_eq u f) refl m
  where
    step : (b : Bool) → is_before d u t ≡ b → (e : Bool) → nat_eq u f ≡ e → (e || is_among u ts) ≡ true → b ≡ false
    step false i e j k = refl
    step true i true j k = false_true (sym n ∙ subst (λ w. is_before d w t ≡ true) (eqb-true u f j) i)
    step true i false j k = false_true (sym n ∙ before-trans d f u t (behind-among d f u ts h k) i)

-- a seek leaves all where the first one stays
pub from-first : (d : Direction) (f t : ℕ) (ts : List ℕ) → AllBehind d f ts → is_before d f t ≡ false → those_from d t (f ∷ ts) ≡ f ∷ ts
from-first d f t ts h n = filter-all (λ u. not (is_before d u t)) (f ∷ ts) (λ u m. rw (none-before d f t u ts h n m) refl)

-- a seek takes the first one out where it comes before
pub from-behind : (d : Direction) (f t : ℕ) (ts : List ℕ) → is_before d f t ≡ true → those_from d t (f ∷ ts) ≡ those_from d t ts
from-behind d f t ts b = rw b refl

or-and : (a b q : Bool) → ((a || b) && q) ≡ ((a && q) || (b && q))
or-and true true q = step q
  where
    step : (q : Bool) → q ≡ (q || q)
    step true = refl
    step false = refl
or-and true false true = refl
or-and true false false = refl
or-and false b q = refl

and-and : (a b q : Bool) → ((a && b) && q) ≡ ((a && q) && (b && q))
and-and true true true = refl
and-and true true false = refl
and-and true false true = refl
and-and true false false = refl
and-and false b q = refl

pub from-union : (d : Direction) (t : ℕ) (ts us : List ℕ) → IsInOrder d us → those_from d t (union_of d ts us) ≡ union_of d (those_from d t ts) (those_from d t us)
from-union d t ts us k =
    same-members d _ _ (in_order-filter d (λ u. not (is_before d u t)) (union_of d ts us) (in_order-union d ts us k)) (in_order-union d (those_from d t ts) (those_from d t us) (in_order-filter d (λ u. not (is_before d u t)) us k)) (λ u.
    among-filter u (λ v. not (is_before d v t)) (union_of d ts us)
    ∙ ap (λ r. r && not (is_before d u t)) (among-union d u ts us)
    ∙ or-and (is_among u ts) (is_among u us) (not (is_before d u t))
    ∙ ap (λ r. r || (is_among u us && not (is_before d u t))) (sym (among-filter u (λ v. not (is_before d v t)) ts))
    ∙ ap (λ r. is_among u (those_from d t ts) || r) (sym (among-filter u (λ v. not (is_before d v t)) us))
    ∙ sym (among-union d u (those_from d t ts) (those_from d t us)))

pub from-intersection : (d : Direction) (t : ℕ) (ts us : List ℕ) → IsInOrder d ts → those_from d t (intersection_of ts us) ≡ intersection_of (those_from d t ts) (those_from d t us)
from-intersection d t ts us k =
    same-members d _ _ (in_order-filter d (λ u. not (is_before d u t)) (intersection_of ts us) (in_order-intersection d ts us k)) (in_order-intersection d (those_from d t ts) (those_from d t us) (in_order-filter d (λ u. not (is_before d u t)) ts k)) (λ u.
    among-filter u (λ v. not (is_before d v t)) (intersection_of ts us)
    ∙ ap (λ r. r && not (is_before d u t)) (among-intersection u ts us)
    ∙ and-and (is_among u ts) (is_among u us) (not (is_before d u t))
    ∙ ap (λ r. r && (is_among u us && not (is_before d u t))) (sym (among-filter u (λ v. not (is_before d v t)) ts))
    ∙ ap (λ r. is_among u (those_from d t ts) && r) (sym (among-filter u (λ v. not (is_before d v t)) us))
    ∙ sym (among-intersection u (those_from d t ts) (those_from d t us)))

-- a seek in a join is one in both parts
pub from-join : (o : Operation) (d : Direction) (t : ℕ) (ts us : List ℕ) → IsInOrder d ts → IsInOrder d us → those_from d t (join_of o d ts us) ≡ join_of o d (those_from d t ts) (those_from d t us)
from-join Union d t ts us h k = from-union d t ts us k
from-join Intersection d t ts us h k = from-intersection d t ts us h

pub from-shorter : (d : Direction) (t : ℕ) (ts : List ℕ) → length (those_from d t ts) ≤ length ts
from-shorter d t [] = omega arith
from-shorter d t (u ∷ ts) = step (is_before d u t) (from-shorter d t ts)
  where
    step : (b : Bool) → length (those_from d t ts) ≤ length ts → length (cond (not b) (u ∷ those_from d t ts) (those_from d t ts)) ≤ suc (length ts)
    step true i = omega arith
    step false i = omega arith
