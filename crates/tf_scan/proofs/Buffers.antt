-- Timestamps that lie in a buffer, and those that come behind them.
use Rattle.std.proofs.Common.{◌≡◌, ◌≢◌, ℕ, ◌+◌, ◌-◌, ◌<◌, ◌≤◌, List, [], ◌∷◌, ◌++◌, Bool, true, false, not, refl, sym, ◌∙◌, ap, subst, arith, length, min, take, drop, get_or}
use Rattle.std.specs.Prelude.{nat_lt}
use Rattle.std.specs.List.{slice_range}
use Rattle.std.proofs.lemmas.Bool.{ltb-true, ltb-false}
use Rattle.std.proofs.lemmas.List.{append_assoc, append-nil, length-take-le, length-drop, take-append-drop, take_all, take_rest, drop_all, drop_more, drop-take, drop-drop}
use Rattle.std.proofs.lemmas.List.Elements.{filter-append}
use Rattle.tf_table.proofs.Determined.{bool_cases}
use Rattle.tf_scan.specs.declared.direction.Direction.{Direction}
use Rattle.tf_scan.specs.Order.{is_before, AllBehind, IsInOrder, those_from}
use Rattle.tf_scan.specs.Run.{AreWritten}
use Rattle.tf_scan.proofs.Order.{in_order-rest}
use Rattle.tf_scan.proofs.Seeks.{from-first, from-behind}
use Rattle.tf_scan.proofs.Moves.{HasMoved, written-both, written-long}

-- what is left from a later place on
pub range-rest : (xs : List ℕ) (a b n : ℕ) → a + n ≤ b → slice_range xs (a + n) b ≡ drop n (slice_range xs a b)
range-rest xs a b n l =
    let count : b - a ≡ n + (b - (a + n)) = omega arith in
    sym (ap (λ k. drop n (take k (drop a xs))) count ∙ drop-take n (b - (a + n)) (drop a xs) ∙ ap (take (b - (a + n))) (drop-drop n a xs))

-- the first so many come before t
module _ (d : Direction) (t : ℕ) (ts : List ℕ) (count : ℕ) (inside : count < length ts) (same : those_from d t (drop count ts) ≡ those_from d t ts) where
  pub before-more : is_before d (get_or ts count 0) t ≡ true → those_from d t (drop (count + 1) ts) ≡ those_from d t ts
  before-more b = sym (from-behind d (get_or ts count 0) t (drop (count + 1) ts) b) ∙ ap (those_from d t) (sym (drop_more ts count 0 inside)) ∙ same

  pub before-end : IsInOrder d ts → is_before d (get_or ts count 0) t ≡ false → drop count ts ≡ those_from d t ts
  before-end h b =
      let split = drop_more ts count 0 inside in
      let rest : IsInOrder d (get_or ts count 0 ∷ drop (count + 1) ts) = subst (IsInOrder d) split (in_order-rest d count ts h) in
      split ∙ sym (from-first d (get_or ts count 0) t (drop (count + 1) ts) rest.0 b) ∙ ap (those_from d t) (sym split) ∙ same

-- ---- a seek over a buffer and what comes behind it

behind-front : (d : Direction) (t : ℕ) (us vs : List ℕ) → AllBehind d t (us ++ vs) → AllBehind d t us
behind-front d t [] vs h = tt
behind-front d t (u ∷ us) vs h = (h.0, behind-front d t us vs h.1)

pub in_order-front : (d : Direction) (ts us : List ℕ) → IsInOrder d (ts ++ us) → IsInOrder d ts
in_order-front d [] us h = tt
in_order-front d (t ∷ ts) us h = (behind-front d t ts us h.0, in_order-front d ts us h.1)

-- where one of the first stays, all that come behind them stay
from-both : (d : Direction) (t : ℕ) (ts us : List ℕ) → IsInOrder d (ts ++ us) → those_from d t ts ≢ [] → those_from d t ts ++ us ≡ those_from d t (ts ++ us)
from-both d t [] us h n = absurd (n refl)
from-both d t (x ∷ ts) us h n = step (from-both d t ts us h.1) (is_before d x t) refl
  where
    step : (those_from d t ts ≢ [] → those_from d t ts ++ us ≡ those_from d t (ts ++ us)) → (b : Bool) → is_before d x t ≡ b → those_from d t (x ∷ ts) ++ us ≡ those_from d t (x ∷ (ts ++ us))
    step others true e =
        ap (λ (xs : List ℕ). xs ++ us) (from-behind d x t ts e)
        ∙ others (λ m. n (from-behind d x t ts e ∙ m))
        ∙ sym (from-behind d x t (ts ++ us) e)
    step others false e = ap (λ (xs : List ℕ). xs ++ us) (from-first d x t ts (behind-front d x ts us h.0) e) ∙ sym (from-first d x t (ts ++ us) h.0 e)

module _ (d : Direction) (t : ℕ) (buffer left new : List ℕ) (sought : new ≡ those_from d t buffer) where
  pub seek-kept : IsInOrder d (buffer ++ left) → new ≢ [] → new ++ left ≡ those_from d t (buffer ++ left)
  seek-kept h n = ap (λ (xs : List ℕ). xs ++ left) sought ∙ from-both d t buffer left h (λ e. n (sought ∙ e))

  pub seek-passed : (rest : List ℕ) → rest ≡ those_from d t left → new ++ rest ≡ those_from d t (buffer ++ left)
  seek-passed rest e =
      ap (λ (xs : List ℕ). xs ++ rest) sought
      ∙ ap (λ (xs : List ℕ). those_from d t buffer ++ xs) e
      ∙ sym (filter-append (λ u. not (is_before d u t)) buffer left)

-- ---- what is moved out of a buffer, and then from behind it

front-both : (b l : List ℕ) (n m : ℕ) → (n < length b → m ≡ 0) → b ++ l ≡ (take n b ++ take m l) ++ (drop n b ++ drop m l)
front-both b l n m h = bool_cases (nat_lt n (length b)) part whole
  where
    part : nat_lt n (length b) ≡ true → b ++ l ≡ (take n b ++ take m l) ++ (drop n b ++ drop m l)
    part e =
        let none : m ≡ 0 = h (ltb-true n (length b) e) in
        ap (λ (xs : List ℕ). xs ++ l) (sym (take-append-drop n b))
        ∙ append_assoc (take n b) (drop n b) l
        ∙ ap (λ (xs : List ℕ). xs ++ (drop n b ++ l)) (sym (append-nil (take n b)))
        ∙ ap (λ k. (take n b ++ take k l) ++ (drop n b ++ drop k l)) (sym none)

    whole : nat_lt n (length b) ≡ false → b ++ l ≡ (take n b ++ take m l) ++ (drop n b ++ drop m l)
    whole e =
        let all : length b ≤ n = ltb-false n (length b) e in
        ap (λ (xs : List ℕ). b ++ xs) (sym (take-append-drop m l))
        ∙ sym (append_assoc b (take m l) (drop m l))
        ∙ ap (λ (xs : List ℕ). (xs ++ take m l) ++ drop m l) (sym (take_all n b all))
        ∙ ap (λ (xs : List ℕ). (take n b ++ take m l) ++ (xs ++ drop m l)) (sym (drop_all n b all))

module _ (buffer left kept rest out mid end : List ℕ) (n m : ℕ) (count : n ≡ min (length out) (length buffer)) (moved : mid ≡ take n buffer ++ drop n out) (others : kept ≡ drop n buffer)
    (count_more : m ≡ min (length (slice_range mid n (length mid))) (length left)) (moved_more : end ≡ take m left ++ drop m (slice_range mid n (length mid))) (others_more : rest ≡ drop m left) where
  first : AreWritten (take n buffer) 0 n out mid
  first = record { count = omega (arith, length-take-le n buffer (omega (arith, count))); inside = omega (arith, count); list = moved }

  long : length mid ≡ length out
  long = written-long (take n buffer) 0 n out mid first

  room : length (slice_range mid n (length mid)) ≡ length out - n
  room = ap length (take_rest mid n) ∙ omega (arith, length-drop n mid, long)

  more : AreWritten (take m left) n (n + m) mid (take n mid ++ (end ++ drop (length mid - n) (drop n mid)))
  more =
      let behind : drop (length mid - n) (drop n mid) ≡ [] = drop_all (length mid - n) (drop n mid) (omega (arith, length-drop n mid)) in
      record {
        count = omega (arith, length-take-le m left (omega (arith, count_more)));
        inside = omega (arith, count, count_more, room, long);
        list =
            ap (λ (xs : List ℕ). take n mid ++ xs)
            (ap (λ (xs : List ℕ). end ++ xs) behind
            ∙ append-nil end
            ∙ moved_more
            ∙ ap (λ (xs : List ℕ). take m left ++ drop m xs) (take_rest mid n)
            ∙ ap (λ (xs : List ℕ). take m left ++ xs) (drop-drop m n mid));
      }

  pub moved-both : HasMoved (buffer ++ left) (kept ++ rest) (n + m) out (take n mid ++ (end ++ drop (length mid - n) (drop n mid)))
  moved-both =
      record {
        ts = take n buffer ++ take m left;
        front =
            front-both buffer left n m (λ l. omega (arith, count, count_more, room))
            ∙ ap (λ (xs : List ℕ). (take n buffer ++ take m left) ++ (xs ++ drop m left)) (sym others)
            ∙ ap (λ (xs : List ℕ). (take n buffer ++ take m left) ++ (kept ++ xs)) (sym others_more);
        written = written-both (take n buffer) 0 n out mid first (take m left) (n + m) _ more;
      }
