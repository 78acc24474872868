-- Runs of one part of a union.
use Rattle.std.proofs.Common.{◌≡◌, ℕ, ◌+◌, ◌<◌, ◌≤◌, List, [], ◌∷◌, ◌++◌, Option, Some, None, true, false, refl, sym, ◌∙◌, ap, subst, arith, length, drop, set}
use Rattle.std.specs.Prelude.{suc, max, slice_get}
use Rattle.std.proofs.lemmas.List.{append_assoc}
use Rattle.tf_scan.specs.declared.direction.Direction.{Direction}
use Rattle.tf_scan.specs.declared.head.Head.{Head}
use Rattle.tf_scan.specs.declared.head.Head.TheVariants.{Unread}
use Rattle.tf_scan.specs.declared.operation.Operation.{Operation}
use Rattle.tf_scan.specs.Order.{IsInOrder}
use Rattle.tf_scan.specs.Sets.{union_of}
use Rattle.tf_scan.specs.Part.{Part}
use Rattle.tf_scan.specs.Place.{is_past}
use Rattle.tf_scan.specs.Node.{join_of, with_head, ArePast, IsNotPast, IsPartOf, KeepsPart, WritesPart, WritesUnion}
use Rattle.tf_scan.proofs.Members.{false_true}
use Rattle.tf_scan.proofs.Firsts.{first-none, union-right-none, union-left, union-right}
use Rattle.tf_scan.proofs.Moves.{written-none, written-more, first-split}
use Rattle.tf_scan.proofs.Nodes.{in_order-join, keeps, keeps-again, still}

-- ---- a run of one part

pub keeps-self : (d : Direction) (part : Part) → IsPartOf d part → KeepsPart part part
keeps-self d part h = record { direction = refl; height = refl; in_order = subst (λ w. IsInOrder w part.left) (sym h.direction) h.in_order }

past-more : (d : Direction) (until : Option ℕ) (ts : List ℕ) (t : ℕ) → ArePast d until ts → is_past d t until ≡ true → ArePast d until (ts ++ t ∷ [])
past-more d until [] t h p = (p, tt)
past-more d until (u ∷ ts) t h p = (h.0, past-more d until ts t h.1 p)

pub part-none : (until : Option ℕ) (from : ℕ) (part : Part) (out : List ℕ) → from ≤ length out → IsInOrder part.direction part.left → WritesPart until from from part part out out
part-none until from part out l h = record { ts = []; past = tt; front = refl; kept = record { direction = refl; height = refl; in_order = h }; written = written-none from out l }

module _ (until : Option ℕ) (from to : ℕ) (old now : Part) (out_old out : List ℕ) (w : WritesPart until from to old now out_old out) (peeked : Part) (same : peeked ≡ now) where
  pub part-peeked : WritesPart until from to old peeked out_old out
  part-peeked = subst (λ (p : Part). WritesPart until from to old p out_old out) (sym same) w

  pub part-more : (new : Part) (t : ℕ) → Some t ≡ slice_get now.left 0 → new.left ≡ drop 1 peeked.left → KeepsPart peeked new → is_past peeked.direction t until ≡ true → to < length out_old → WritesPart until from (to + 1) old new out_old (set out to t)
  part-more new t first others kept past l =
      let v = part-peeked in
      record {
        ts = v.ts ++ t ∷ [];
        past = past-more old.direction until v.ts t v.past (subst (λ d. is_past d t until ≡ true) v.kept.direction past);
        front =
            v.front
            ∙ ap (λ (xs : List ℕ). v.ts ++ xs) (first-split peeked.left new.left t (first ∙ ap (λ (p : Part). slice_get p.left 0) (sym same)) others)
            ∙ sym (append_assoc v.ts (t ∷ []) new.left);
        kept = keeps-again old peeked new v.kept kept;
        written = written-more v.ts from to out_old out v.written t l;
      }

  -- the run ends at the end of the part, and at a timestamp that comes later
  pub ends-none : None ≡ slice_get now.left 0 → IsNotPast old.direction until (slice_get peeked.left 0)
  ends-none e = subst (IsNotPast old.direction until) (e ∙ ap (λ (p : Part). slice_get p.left 0) (sym same)) tt

  pub ends-later : (t : ℕ) → Some t ≡ slice_get now.left 0 → is_past peeked.direction t until ≡ false → IsNotPast old.direction until (slice_get peeked.left 0)
  ends-later t e p =
      subst (IsNotPast old.direction until) (e ∙ ap (λ (p : Part). slice_get p.left 0) (sym same)) (subst (λ d. is_past d t until ≡ false) part-peeked.kept.direction p)

-- ---- a run of one part is one of the union

run-left : (d : Direction) (us ts rest : List ℕ) → IsInOrder d (ts ++ rest) → IsInOrder d us → ArePast d (slice_get us 0) ts → union_of d (ts ++ rest) us ≡ ts ++ union_of d rest us
run-left d us [] rest h k p = refl
run-left d [] (t ∷ ts) rest h k p =
    union-right-none d (t ∷ (ts ++ rest)) [] h refl
    ∙ ap (λ (xs : List ℕ). t ∷ xs) (sym (union-right-none d (ts ++ rest) [] h.1 refl) ∙ run-left d [] ts rest h.1 k p.1)
run-left d (u ∷ us) (t ∷ ts) rest h k p =
    union-left d t u (t ∷ (ts ++ rest)) (u ∷ us) h k refl refl p.0 ∙ ap (λ (xs : List ℕ). t ∷ xs) (run-left d (u ∷ us) ts rest h.1 k p.1)

run-right : (d : Direction) (us ts rest : List ℕ) → IsInOrder d (ts ++ rest) → IsInOrder d us → ArePast d (slice_get us 0) ts → union_of d us (ts ++ rest) ≡ ts ++ union_of d us rest
run-right d us [] rest h k p = refl
run-right d [] (t ∷ ts) rest h k p = refl
run-right d (u ∷ us) (t ∷ ts) rest h k p =
    union-right d u t (u ∷ us) (t ∷ (ts ++ rest)) k h refl refl p.0 ∙ ap (λ (xs : List ℕ). t ∷ xs) (run-right d (u ∷ us) ts rest h.1 k p.1)

module _ (d : Direction) (until : Option ℕ) (from to : ℕ) (left right peeked_left peeked_right new : Part) (out_old out : List ℕ) (l : IsPartOf d left) (r : IsPartOf d right) (same_left : peeked_left ≡ left) (same_right : peeked_right ≡ right) where
  pub writes-left : until ≡ slice_get right.left 0 → WritesPart until from to peeked_left new out_old out → WritesUnion d from to left right new peeked_right out_old out
  writes-left first w =
      let v = subst (λ (p : Part). WritesPart until from to p new out_old out) same_left w in
      let past = subst (λ o. ArePast d o v.ts) first (subst (λ e. ArePast e until v.ts) l.direction v.past) in
      record {
        ts = v.ts;
        front =
            ap (λ (xs : List ℕ). union_of d xs right.left) v.front
            ∙ run-left d right.left v.ts new.left (subst (IsInOrder d) v.front l.in_order) r.in_order past
            ∙ ap (λ (p : Part). v.ts ++ union_of d new.left p.left) (sym same_right);
        left_kept = v.kept;
        right_kept = subst (λ (p : Part). KeepsPart right p) (sym same_right) (keeps-self d right r);
        written = v.written;
      }

  pub writes-right : until ≡ slice_get left.left 0 → WritesPart until from to peeked_right new out_old out → WritesUnion d from to left right peeked_left new out_old out
  writes-right first w =
      let v = subst (λ (p : Part). WritesPart until from to p new out_old out) same_right w in
      let past = subst (λ o. ArePast d o v.ts) first (subst (λ e. ArePast e until v.ts) r.direction v.past) in
      record {
        ts = v.ts;
        front =
            ap (λ (xs : List ℕ). union_of d left.left xs) v.front
            ∙ run-right d left.left v.ts new.left (subst (IsInOrder d) v.front r.in_order) l.in_order past
            ∙ ap (λ (p : Part). v.ts ++ union_of d p.left new.left) (sym same_left);
        left_kept = subst (λ (p : Part). KeepsPart left p) (sym same_left) (keeps-self d left l);
        right_kept = v.kept;
        written = v.written;
      }

-- ---- a run of no timestamp

module _ (d : Direction) (until : Option ℕ) (from to : ℕ) (part peeked new : Part) (out_old out : List ℕ) (p : IsPartOf d part) (same : peeked ≡ part) (w : WritesPart until from to peeked new out_old out) (last : to < length out_old → IsNotPast peeked.direction until (slice_get new.left 0)) (room : from < length out_old) (none : to ≡ from) where
  stays : IsNotPast d until (slice_get part.left 0)
  stays =
      let v = subst (λ (q : Part). WritesPart until from to q new out_old out) same w in
      let left : part.left ≡ new.left = v.front ∙ ap (λ (ts : List ℕ). ts ++ new.left) (empty v.ts v.written.count) in
      subst (λ e. IsNotPast e until (slice_get part.left 0)) (ap (λ (q : Part). q.direction) same ∙ p.direction)
      (subst (λ (xs : List ℕ). IsNotPast peeked.direction until (slice_get xs 0)) (sym left) (last (omega (arith, none))))
    where
      empty : (ts : List ℕ) → from + length ts ≡ to → ts ≡ []
      empty [] c = refl
      empty (t ∷ ts) c = absurd (omega (arith, c, none))

  pub never-stays : (t : ℕ) → Some t ≡ slice_get part.left 0 → is_past d t until ≡ true → ⊥
  never-stays t first past = false_true (sym (subst (IsNotPast d until) (sym first) stays) ∙ past)

  pub stays-none : until ≡ None → part.left ≡ []
  stays-none e = first-none part.left (by (slice_get part.left 0) (subst (λ o. IsNotPast d o (slice_get part.left 0)) e stays))
    where
      by : (o : Option ℕ) → IsNotPast d None o → o ≡ None
      by None h = refl
      by (Some t) h = false_true (sym h)

-- ---- a join whose parts were read

pub join-kept : (d : Direction) (head : Head) (o : Operation) (part l r read_l read_r new_l new_r : Part) → IsPartOf d l → IsPartOf d r → read_l ≡ l → read_r ≡ r → KeepsPart read_l new_l → KeepsPart read_r new_r → head ≡ Unread
    → record { direction = d; left = with_head head (join_of o d l.left r.left); height = suc (max l.height r.height) } ≡ part
    → KeepsPart part (record { direction = d; left = with_head head (join_of o d new_l.left new_r.left); height = suc (max new_l.height new_r.height) })
join-kept d head o part l r read_l read_r new_l new_r hl hr same_l same_r kept_l kept_r unread view =
    let kl = subst (λ (p : Part). KeepsPart p new_l) same_l kept_l in
    let kr = subst (λ (p : Part). KeepsPart p new_r) same_r kept_r in
    keeps part d _ _ (ap (λ (p : Part). p.direction) view)
    (ap (λ n. suc (max n new_r.height)) kl.height ∙ ap (λ n. suc (max l.height n)) kr.height ∙ ap (λ (p : Part). p.height) view)
    (subst (λ h. IsInOrder d (with_head h (join_of o d new_l.left new_r.left))) (sym unread)
    (in_order-join o d new_l.left new_r.left (still d l new_l hl kl).in_order (still d r new_r hr kr).in_order))
