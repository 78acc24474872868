-- Parts of scans are in order.
use Rattle.std.proofs.Common.{◌≡◌, ◌<◌, ◌+◌, arith, length, Some, None, true, ℕ, List, [], ◌∷◌, sym, ◌∙◌, ap, subst, drop, Box}
use Rattle.std.specs.Prelude.{slice_get}
use Rattle.tf_scan.specs.declared.direction.Direction.{Direction}
use Rattle.tf_scan.specs.declared.head.Head.{Head}
use Rattle.tf_scan.specs.declared.head.Head.TheVariants.{Unread, At, End}
use Rattle.tf_scan.specs.declared.node.Kind.{Kind}
use Rattle.tf_scan.specs.declared.node.Kind.TheVariants.{Leaf, Join}
use Rattle.tf_scan.specs.declared.operation.Operation.{Operation}
use Rattle.tf_scan.specs.declared.operation.Operation.TheVariants.{Union, Intersection}
use Rattle.tf_scan.specs.Order.{is_before, AllBehind, IsInOrder, those_from}
use Rattle.tf_scan.specs.Sets.{intersection_of}
use Rattle.tf_scan.specs.Part.{Part}
use Rattle.tf_scan.specs.Node.{join_of, left_behind, with_head, height_of, IsPartOf, KeepsPart, IsKind, IsNode}
use Rattle.tf_scan.proofs.Joins.{in_order-union, in_order-intersection}
use Rattle.tf_scan.proofs.Firsts.{intersection-seek-left, intersection-seek-right, seek-shortens}

pub in_order-join : (o : Operation) (d : Direction) (ts us : List ℕ) → IsInOrder d ts → IsInOrder d us → IsInOrder d (join_of o d ts us)
in_order-join Union d ts us h k = in_order-union d ts us k
in_order-join Intersection d ts us h k = in_order-intersection d ts us h

pub in_order-kind : {P A : Type 0} (direction : P → Direction) (left : P → List ℕ) (d : Direction) (k : Kind P A) → IsKind direction left d k → IsInOrder d (left_behind left d k)
in_order-kind direction left d (Leaf p) h = h.1
in_order-kind direction left d (Join o a b) h = in_order-join o d a.value.left b.value.left h.0.in_order h.1.in_order

pub in_order-node : {P A : Type 0} (direction : P → Direction) (left : P → List ℕ) (d : Direction) (head : Head) (k : Kind P A) → IsNode direction left d head k → IsInOrder d (with_head head (left_behind left d k))
in_order-node direction left d Unread k h = in_order-kind direction left d k h.below
in_order-node direction left d (At t) k h = (h.first, in_order-kind direction left d k h.below)
in_order-node direction left d End k h = tt

-- a part that keeps its direction and height, in order
pub keeps : (old : Part) (d : Direction) (ts : List ℕ) (h : ℕ) → d ≡ old.direction → h ≡ old.height → IsInOrder d ts → KeepsPart old (record { direction = d; left = ts; height = h })
keeps old d ts h e f i = record { direction = e; height = f; in_order = subst (λ w. IsInOrder w ts) e i }

-- what a part keeps is a part of its direction
pub still : (d : Direction) (old new : Part) → IsPartOf d old → KeepsPart old new → IsPartOf d new
still d old new h k = record { direction = k.direction ∙ h.direction; in_order = subst (λ w. IsInOrder w new.left) h.direction k.in_order }

pub seek-left : (d : Direction) (t : ℕ) (old : Part) (new : List ℕ) → IsPartOf d old → new ≡ those_from old.direction t old.left → new ≡ those_from d t old.left
seek-left d t old new h e = e ∙ ap (λ w. those_from w t old.left) h.direction

-- the first timestamp of a list in order comes before the rest
pub read-behind : (d : Direction) (t : ℕ) (ts us : List ℕ) → IsInOrder d ts → Some t ≡ slice_get ts 0 → us ≡ drop 1 ts → AllBehind d t us
read-behind d t [] us h e f = absurd (let i : Some t ≡ None = e in cc)
read-behind d t (u ∷ ts) us h e f = let i : Some t ≡ Some u = e in let p : u ≡ t = cc in rw f (subst (λ w. AllBehind d w ts) p h.0)

pub keeps-again : (a b c : Part) → KeepsPart a b → KeepsPart b c → KeepsPart a c
keeps-again a b c h k = record { direction = k.direction ∙ h.direction; height = k.height ∙ h.height; in_order = subst (λ w. IsInOrder w c.left) h.direction k.in_order }

-- the parts of an intersection while they seek each other: they keep what both have
pub record IsMeeting (l r p q : Part) : Type 0 where
  pub left_kept : KeepsPart l p
  pub right_kept : KeepsPart r q
  pub both : intersection_of p.left q.left ≡ intersection_of l.left r.left

module _ (d : Direction) (t : ℕ) (l r p q peeked_p peeked_q new : Part) (left : IsPartOf d l) (right : IsPartOf d r) (met : IsMeeting l r p q) (same_p : peeked_p ≡ p) (same_q : peeked_q ≡ q) where
  pub meeting-left : Some t ≡ slice_get q.left 0 → new.left ≡ those_from peeked_p.direction t peeked_p.left → KeepsPart peeked_p new → IsMeeting l r new peeked_q
  meeting-left first others kept =
      let p_is = still d l p left met.left_kept in
      let q_is = still d r q right met.right_kept in
      let seeks = seek-left d t p new.left p_is (subst (λ (x : Part). new.left ≡ those_from x.direction t x.left) same_p others) in
      record {
        left_kept = keeps-again l p new met.left_kept (subst (λ (x : Part). KeepsPart x new) same_p kept);
        right_kept = subst (λ (x : Part). KeepsPart r x) (sym same_q) met.right_kept;
        both = rw (seeks, same_q) (intersection-seek-left d t p.left q.left p_is.in_order q_is.in_order (sym first) ∙ met.both);
      }

  pub meeting-right : Some t ≡ slice_get p.left 0 → new.left ≡ those_from peeked_q.direction t peeked_q.left → KeepsPart peeked_q new → IsMeeting l r peeked_p new
  meeting-right first others kept =
      let p_is = still d l p left met.left_kept in
      let q_is = still d r q right met.right_kept in
      let seeks = seek-left d t q new.left q_is (subst (λ (x : Part). new.left ≡ those_from x.direction t x.left) same_q others) in
      record {
        left_kept = subst (λ (x : Part). KeepsPart l x) (sym same_p) met.left_kept;
        right_kept = keeps-again r q new met.right_kept (subst (λ (x : Part). KeepsPart x new) same_q kept);
        both = rw (seeks, same_p) (intersection-seek-right d t p.left q.left p_is.in_order q_is.in_order (sym first) ∙ met.both);
      }

  pub shorter-left : (a : ℕ) → Some a ≡ slice_get p.left 0 → is_before d a t ≡ true → new.left ≡ those_from peeked_p.direction t peeked_p.left → length new.left + length peeked_q.left < length p.left + length q.left
  shorter-left a first before others =
      let seeks = seek-left d t p new.left (still d l p left met.left_kept) (subst (λ (x : Part). new.left ≡ those_from x.direction t x.left) same_p others) in
      let shorter = seek-shortens d a t p.left (sym first) before in
      rw (seeks, same_q) (omega arith)

  pub shorter-right : (a : ℕ) → Some a ≡ slice_get q.left 0 → is_before d a t ≡ true → new.left ≡ those_from peeked_q.direction t peeked_q.left → length peeked_p.left + length new.left < length p.left + length q.left
  shorter-right a first before others =
      let seeks = seek-left d t q new.left (still d r q right met.right_kept) (subst (λ (x : Part). new.left ≡ those_from x.direction t x.left) same_q others) in
      let shorter = seek-shortens d a t q.left (sym first) before in
      rw (seeks, same_p) (omega arith)

-- of a leaf that isn't read yet its own timestamps are left
pub leaf-left : {P A : Type 0} (left : P → List ℕ) (d : Direction) (head : Head) (kind : Kind P A) (p : Box P A) (part : Part) → head ≡ Unread → kind ≡ Leaf p → record { direction = d; left = with_head head (left_behind left d kind); height = height_of kind } ≡ part → left p.value ≡ part.left
leaf-left left d head kind p part h k e = sym (ap (left_behind left d) k) ∙ sym (ap (λ x. with_head x (left_behind left d kind)) h) ∙ ap (λ (q : Part). q.left) e
