-- Reading timestamps off a scan within bounds.
use Rattle.std.proofs.Common.{◌≡◌, ◌⊎◌, inl, inr, ◌∙◌, sym, refl, ap, subst, ℕ, zero, suc, ◌+◌, ◌-◌, ◌<◌, ◌≤◌, arith, cond, Bool, true, false, not, ◌&&◌, ◌||◌, List, [], ◌∷◌, ◌++◌, append_assoc, get_or, IfSome, min, length, take, drop}
use Rattle.std.specs.Prelude.{nat_lt, nat_le, nat_eq, slice_get}
use Rattle.std.proofs.Math.Seq.{take-append-add}
use Rattle.std.proofs.lemmas.List.{append-nil, drop_all, length-append, length-drop, length-take-le, take_at, take-take}
use Rattle.std.specs.List.{filter, AllByRecursion}
use Rattle.std.proofs.lemmas.Bool.{cases_lt, ltb-true, ltb-false, leb-false, le-leb, lt-leb, and_parts, and_right, and_left, false≢true, true≢false, ne_eqb, le-ltb}
use Rattle.tf_journal.specs.Filter.{is_within}
use Rattle.tf_scan.specs.declared.direction.Direction.{Direction}
use Rattle.tf_scan.specs.declared.direction.Direction.TheVariants.{Rising, Falling}
use Rattle.tf_scan.specs.Order.{is_before, AllBehind, IsInOrder, those_from}
use Rattle.tf_scan.proofs.Order.{in_order-filter}
use Rattle.tf_query.specs.declared.window.Window.{Window}
use Rattle.tf_query.specs.Windows.{first_within}
use Rattle.tf_query.specs.Reading.{is_early, all_within, AreFrom, AreRead, IsPart}

-- ---- lists

take-none : {X : Type 0} (n : ℕ) (xs : List X) → xs ≡ [] → take n xs ≡ []
take-none zero [] e = refl
take-none (suc n) [] e = refl
take-none n (x ∷ xs) e = cc

take-zero : {X : Type 0} (xs : List X) → take 0 xs ≡ []
take-zero [] = refl
take-zero (x ∷ xs) = refl

-- what a second test keeps is what it kept before, where it accepts nothing that the first drops
keep-both : (p q : ℕ → Bool) (ts : List ℕ) → ((t : ℕ) → q t ≡ false → p t ≡ false) → filter p (filter q ts) ≡ filter p ts
keep-both p q [] h = refl
keep-both p q (t ∷ ts) h = by (q t) refl (keep-both p q ts h)
  where
    by : (b : Bool) → q t ≡ b → filter p (filter q ts) ≡ filter p ts → filter p (cond b (t ∷ filter q ts) (filter q ts)) ≡ filter p (t ∷ ts)
    by true e i = ap (λ (us : List ℕ). cond (p t) (t ∷ us) us) i
    by false e i = rw (h t e) i

keep-none : (p : ℕ → Bool) (ts : List ℕ) → AllByRecursion (λ (t : ℕ). p t ≡ false) ts → filter p ts ≡ []
keep-none p [] h = refl
keep-none p (t ∷ ts) h = rw h.0 (keep-none p ts h.1)

-- ---- bounds

early-outside : (d : Direction) (w : Window) (t : ℕ) → is_early d w t ≡ true → is_within w.low w.high t ≡ false
early-outside Rising w t e = and_left _ _ (lt-leb w.low t (ltb-true t w.low e))
early-outside Falling w t e =
    let parts = and_parts (not (nat_eq w.high 0)) (nat_lt w.high t) e in
    let above : nat_le t w.high ≡ false = lt-leb t w.high (ltb-true w.high t parts.1) in
    and_right (nat_le w.low t) _ (by (nat_eq w.high 0) parts.0 above)
  where
    by : (b : Bool) → not b ≡ true → nat_le t w.high ≡ false → (b || nat_le t w.high) ≡ false
    by true e f = cc
    by false e f = f

-- what isn't early and isn't within both bounds is past the last one
abbrev pub late : Direction → Window → ℕ → Type 0
late Rising w t = (nat_eq w.high 0 ≡ false) × (w.high < t)
late Falling w t = t < w.low

late-is : (d : Direction) (w : Window) (t : ℕ) → is_early d w t ≡ false → is_within w.low w.high t ≡ false → late d w t
late-is Rising w t e f =
    let low : nat_le w.low t ≡ true = le-leb w.low t (ltb-false t w.low e) in
    by (nat_le w.low t) (nat_eq w.high 0) refl low f
  where
    by : (a b : Bool) → nat_eq w.high 0 ≡ b → a ≡ true → (a && (b || nat_le t w.high)) ≡ false → (nat_eq w.high 0 ≡ false) × (w.high < t)
    by true true i g h = absurd (true≢false h)
    by true false i g h = (i, leb-false t w.high h)
    by false b i g h = absurd (false≢true g)
late-is Falling w t e f = by (nat_le w.low t) (nat_eq w.high 0) (nat_lt w.high t) refl refl e f
  where
    by : (a b c : Bool) → nat_le w.low t ≡ a → nat_lt w.high t ≡ c → (not b && c) ≡ false → (a && (b || nat_le t w.high)) ≡ false → t < w.low
    by false b c i j g h = leb-false w.low t i
    by true true c i j g h = absurd (true≢false h)
    by true false true i j g h = absurd (true≢false g)
    by true false false i j g h =
        let above = leb-false t w.high h in
        let below = ltb-false w.high t j in
        absurd (omega arith)

late-outside : (d : Direction) (w : Window) (t : ℕ) → late d w t → is_within w.low w.high t ≡ false
late-outside Rising w t l = and_right (nat_le w.low t) _ (rw l.0 (lt-leb t w.high l.1))
late-outside Falling w t l = and_left _ _ (lt-leb w.low t l)

late-behind : (d : Direction) (w : Window) (t u : ℕ) → late d w t → is_before d t u ≡ true → late d w u
late-behind Rising w t u l b = let e = ltb-true t u b in let f = l.1 in (l.0, omega arith)
late-behind Falling w t u l b = let e = ltb-true u t b in let f : t < w.low = l in omega arith

all-late : (d : Direction) (w : Window) (t : ℕ) (us : List ℕ) → late d w t → AllBehind d t us → AllByRecursion (λ (u : ℕ). is_within w.low w.high u ≡ false) us
all-late d w t [] l b = tt
all-late d w t (u ∷ us) l b = (late-outside d w u (late-behind d w t u l b.0), all-late d w t us l b.1)

-- ---- what a seek leaves

sought-all : (d : Direction) (w : Window) (first : ℕ) → ((t : ℕ) → is_before d t first ≡ is_early d w t) → (ts : List ℕ) → AllByRecursion (λ (t : ℕ). is_early d w t ≡ false) (those_from d first ts)
sought-all d w first h [] = tt
sought-all d w first h (t ∷ ts) = by (is_before d t first) refl (sought-all d w first h ts)
  where
    by : (b : Bool) → is_before d t first ≡ b → AllByRecursion (λ (u : ℕ). is_early d w u ≡ false) (those_from d first ts) → AllByRecursion (λ (u : ℕ). is_early d w u ≡ false) (cond (not b) (t ∷ those_from d first ts) (those_from d first ts))
    by true e i = i
    by false e i = (sym (h t) ∙ e, i)

-- the first bound in a direction, where there is one
pub sought-from : (d : Direction) (w : Window) (first : ℕ) (ts : List ℕ) → ((t : ℕ) → is_before d t first ≡ is_early d w t) → IsInOrder d ts → AreFrom d w (those_from d first ts)
sought-from d w first ts h o = record { in_order = in_order-filter d (λ u. not (is_before d u first)) ts o; from = sought-all d w first h ts }

pub sought-same : (d : Direction) (w : Window) (first : ℕ) (ts : List ℕ) → ((t : ℕ) → is_before d t first ≡ is_early d w t) → all_within w (those_from d first ts) ≡ all_within w ts
sought-same d w first ts h = keep-both (is_within w.low w.high) (λ u. not (is_before d u first)) ts (λ t e. early-outside d w t (sym (h t) ∙ not-false' (is_before d t first) e))
  where
    not-false' : (b : Bool) → not b ≡ false → b ≡ true
    not-false' true e = refl
    not-false' false e = cc

-- the same of what a seek left, in a direction that was asked for
pub sought : (d r : Direction) (w : Window) (first : ℕ) (ts new : List ℕ) → r ≡ d → ((t : ℕ) → is_before r t first ≡ is_early r w t) → new ≡ those_from d first ts → IsInOrder d ts → AreFrom d w new
sought d r w first ts new e h f o =
    let early = subst (λ (x : Direction). (t : ℕ) → is_before x t first ≡ is_early x w t) e h in
    subst (AreFrom d w) (sym f) (sought-from d w first ts early o)

pub sought-within : (d r : Direction) (w : Window) (first : ℕ) (ts new : List ℕ) → r ≡ d → ((t : ℕ) → is_before r t first ≡ is_early r w t) → new ≡ those_from d first ts → all_within w new ≡ all_within w ts
sought-within d r w first ts new e h f =
    let early = subst (λ (x : Direction). (t : ℕ) → is_before x t first ≡ is_early x w t) e h in
    ap (all_within w) f ∙ sought-same d w first ts early

none-early : (d : Direction) (w : Window) (ts : List ℕ) → ((t : ℕ) → is_early d w t ≡ false) → AllByRecursion (λ (t : ℕ). is_early d w t ≡ false) ts
none-early d w [] e = tt
none-early d w (t ∷ ts) e = (e t, none-early d w ts e)

-- where there is no first bound, nothing is early
pub unbounded-from : (d r : Direction) (w : Window) (ts : List ℕ) → r ≡ d → ((t : ℕ) → is_early r w t ≡ false) → IsInOrder d ts → AreFrom d w ts
unbounded-from d r w ts e h o = record {
  in_order = o;
  from = none-early d w ts (subst (λ (x : Direction). (t : ℕ) → is_early x w t ≡ false) e h);
}

-- ---- the first bound

pub no-lower : (w : Window) → w.low ≡ 0 → (t : ℕ) → is_early Rising w t ≡ false
no-lower w e t = le-ltb t w.low (omega (arith, e))

pub no-upper : (w : Window) → w.high ≡ 0 → (t : ℕ) → is_early Falling w t ≡ false
no-upper w e t = rw e refl

pub upper : (w : Window) → (w.high ≡ 0 → ⊥) → (t : ℕ) → is_before Falling t w.high ≡ is_early Falling w t
upper w e t = rw (ne_eqb w.high 0 e) refl

-- ---- parts

all-drop : (P : ℕ → Type 0) (k : ℕ) (ts : List ℕ) → AllByRecursion P ts → AllByRecursion P (drop k ts)
all-drop P zero ts h = h
all-drop P (suc k) [] h = tt
all-drop P (suc k) (t ∷ ts) h = all-drop P k ts h.1

-- one more lies in the window
pub all-more : (P : ℕ → Type 0) (i : ℕ) (ts : List ℕ) (other : ℕ) → i < length ts → AllByRecursion P (take i ts) → P (get_or ts i other) → AllByRecursion P (take (i + 1) ts)
all-more P i [] other l h p = absurd (omega arith)
all-more P zero (t ∷ ts) other l h p = (p, subst (AllByRecursion P) (sym (take-zero ts)) tt)
all-more P (suc i) (t ∷ ts) other l h p = rw (suc-more i) (h.0, all-more P i ts other (omega arith) h.1 p)
  where
    suc-more : (n : ℕ) → suc n + 1 ≡ suc (n + 1)
    suc-more n = omega arith

-- what is at a place
pub some-at : (P : ℕ → Type 0) (i : ℕ) (ts : List ℕ) (other : ℕ) → i < length ts → P (get_or ts i other) → IfSome (slice_get ts i) P
some-at P i [] other l p = absurd (omega arith)
some-at P zero (t ∷ ts) other l p = p
some-at P (suc i) (t ∷ ts) other l p = some-at P i ts other (omega arith) p

from-rest : (d : Direction) (w : Window) (t : ℕ) (ts : List ℕ) → AreFrom d w (t ∷ ts) → AreFrom d w ts
from-rest d w t ts f = record { in_order = f.in_order.1; from = f.from.1 }

from-drop : (d : Direction) (w : Window) (k : ℕ) (ts : List ℕ) → AreFrom d w ts → AreFrom d w (drop k ts)
from-drop d w zero ts f = f
from-drop d w (suc k) [] f = f
from-drop d w (suc k) (t ∷ ts) f = from-drop d w k ts (from-rest d w t ts f)

-- of so many that are taken out those before a place lie in the window, and nothing of what is left where one stands there
record IsSplit (w : Window) (n k : ℕ) (ts : List ℕ) : Type 0 where
  kept : all_within w ts ≡ take n ts ++ all_within w (drop k ts)
  none : n < k → all_within w (drop k ts) ≡ []

split : (d : Direction) (w : Window) (n k : ℕ) (ts : List ℕ) → AreFrom d w ts → n ≤ k → k ≤ length ts → AllByRecursion (λ (t : ℕ). is_within w.low w.high t ≡ true) (take n ts) → IfSome (slice_get (take k ts) n) (λ t. is_within w.low w.high t ≡ false) → IsSplit w n k ts
split d w zero zero ts f l h inside outside = record {
  kept = sym (ap (λ (us : List ℕ). us ++ all_within w ts) (take-zero ts));
  none = λ m. absurd (omega arith);
}
split d w zero (suc k) [] f l h inside outside = absurd (omega arith)
split d w zero (suc k) (t ∷ ts) f l h inside outside =
    let late = all-late d w t ts (late-is d w t f.from.0 outside) f.in_order.0 in
    let none = keep-none (is_within w.low w.high) (drop k ts) (all-drop (λ (u : ℕ). is_within w.low w.high u ≡ false) k ts late) in
    record {
      kept = keep-none (is_within w.low w.high) (t ∷ ts) (outside, late) ∙ sym none;
      none = λ m. none;
    }
split d w (suc n) zero ts f l h inside outside = absurd (omega arith)
split d w (suc n) (suc k) [] f l h inside outside = absurd (omega arith)
split d w (suc n) (suc k) (t ∷ ts) f l h inside outside =
    let rest = split d w n k ts (from-rest d w t ts f) (omega arith) (omega arith) inside.1 outside in
    record {
      kept = rw inside.0 (ap (λ (us : List ℕ). t ∷ us) rest.kept);
      none = λ m. rest.none (omega arith);
    }

-- nothing more is asked for where so many were given, and else nothing is left
part-ends : (n taken most room full : ℕ) (old left : List ℕ) → n ≤ taken → room ≡ min most full → taken ≡ min room (length old) → n < full → (n < taken → left ≡ []) → (length old ≤ taken → left ≡ []) → take (most - n) left ≡ []
part-ends n taken most room full old left l e g short cut all = by (nat_lt n taken) (nat_lt taken (length old)) refl refl
  where
    by : (a b : Bool) → nat_lt n taken ≡ a → nat_lt taken (length old) ≡ b → take (most - n) left ≡ []
    by true b i j = take-none (most - n) left (cut (ltb-true n taken i))
    by false false i j = take-none (most - n) left (all (ltb-false taken (length old) j))
    by false true i j =
        let same : taken ≤ n = ltb-false n taken i in
        let more : taken < length old = ltb-true taken (length old) j in
        let none : most - n ≡ 0 = omega arith in
        rw none (take-zero left)

-- so many were taken out of a list into the front of a part. Of these those that lie in the window are the next of the list
pub part-read : (d : Direction) (w : Window) (most full room taken n : ℕ) (was out rest old new : List ℕ) → AreFrom d w old → length was ≡ full → room ≡ min most full → taken ≡ min (length (take room was)) (length old) → out ≡ take taken old ++ drop taken (take room was) → rest ≡ drop room was → new ≡ drop taken old → n ≤ length (take taken (out ++ rest)) → AllByRecursion (λ (t : ℕ). is_within w.low w.high t ≡ true) (take n (take taken (out ++ rest))) → IfSome (slice_get (take taken (out ++ rest)) n) (λ t. is_within w.low w.high t ≡ false) → IsPart d w most n (out ++ rest) old new
part-read d w most full room taken n was out rest old new f e r g moved behind others few inside outside =
    let wide : length (take room was) ≡ room = length-take-le room was (omega (arith, e)) in
    let held : length (take taken old) ≡ taken = length-take-le taken old (omega arith) in
    let joined : out ++ rest ≡ take taken old ++ (drop taken (take room was) ++ rest) = ap (λ (ts : List ℕ). ts ++ rest) moved ∙ append_assoc (take taken old) (drop taken (take room was)) rest in
    let front : take taken (out ++ rest) ≡ take taken old = ap (take taken) joined ∙ take_at (take taken old) (drop taken (take room was) ++ rest) taken held in
    let l : n ≤ taken = omega (arith, few, ap length front, held) in
    let long : length (out ++ rest) ≡ full =
    omega (arith, length-append out rest, ap length moved, length-append (take taken old) (drop taken (take room was)), length-drop taken (take room was), ap length behind, length-drop room was, held, wide, e) in
    let both : take n (out ++ rest) ≡ take n old = sym (take-take n taken (out ++ rest) l) ∙ ap (take n) front ∙ take-take n taken old l in
    let cut : IsSplit w n taken old = split d w n taken old f l (omega arith)
    (subst (AllByRecursion (λ (t : ℕ). is_within w.low w.high t ≡ true)) (ap (take n) front ∙ take-take n taken old l) inside)
    (subst (λ (ts : List ℕ). IfSome (slice_get ts n) (λ t. is_within w.low w.high t ≡ false)) front outside) in
    let left : all_within w new ≡ all_within w (drop taken old) = ap (all_within w) others in
    let kept : length (take n old) ≡ n = length-take-le n old (omega arith) in
    record {
      few = omega arith;
      inside = omega (arith, long);
      left_from = subst (AreFrom d w) (sym others) (from-drop d w taken old f);
      whole =
          ap (λ (ts : List ℕ). ts ++ all_within w new) both
          ∙ ap (λ (ts : List ℕ). take n old ++ ts) left
          ∙ sym cut.kept;
      joined =
          ap (λ (ts : List ℕ). ts ++ take (most - n) (all_within w new)) both
          ∙ ap (λ (ts : List ℕ). take n old ++ take (most - n) ts) left
          ∙ sym (take-append-add (take n old) (all_within w (drop taken old)) (most - n))
          ∙ ap (λ (i : ℕ). take i (take n old ++ all_within w (drop taken old))) (omega (arith, kept))
          ∙ ap (take most) (sym cut.kept);
      ends = λ short. part-ends n taken most room full old (all_within w new) l r (g ∙ ap (λ (i : ℕ). min i (length old)) wide) (omega (arith, long)) (λ m. left ∙ cut.none m) (λ whole. left ∙ ap (all_within w) (drop_all taken old whole));
    }

-- ---- what is read part by part

-- the same in a direction that was asked for
pub part-in : (d r : Direction) (w : Window) (most count : ℕ) (part old new : List ℕ) → r ≡ d → IsPart r w most count part old new → IsPart d w most count part old new
part-in d r w most count part old new e p = subst (λ (x : Direction). IsPart x w most count part old new) e p

-- a part is put behind what was read
pub read-more : (d : Direction) (w : Window) (count full : ℕ) (part read more old new whole : List ℕ) → length read ≤ w.most → read ++ take (w.most - length read) (all_within w old) ≡ first_within w whole → IsPart d w (w.most - length read) count part old new → full ≡ length part → more ≡ read ++ take count part → AreRead d w count full more new whole
read-more d w count full part read more old new whole few joined p e m =
    let long : length more ≡ length read + count = ap length m ∙ length-append read (take count part) ∙ ap (λ (i : ℕ). length read + i) (length-take-le count part p.inside) in
    let left : w.most - length more ≡ (w.most - length read) - count = omega (arith, long) in
    record {
      few = omega (arith, long, p.few);
      inside = omega (arith, p.inside);
      left_from = p.left_from;
      joined =
          ap (λ (ts : List ℕ). ts ++ take (w.most - length more) (all_within w new)) m
          ∙ append_assoc read (take count part) (take (w.most - length more) (all_within w new))
          ∙ ap (λ (i : ℕ). read ++ (take count part ++ take i (all_within w new))) left
          ∙ ap (λ (ts : List ℕ). read ++ ts) p.joined
          ∙ joined;
      ends = λ short. ap (λ (i : ℕ). take i (all_within w new)) left ∙ p.ends (omega arith);
    }

pub read-next : (d : Direction) (w : Window) (last count full asked : ℕ) (part read more old new whole : List ℕ) → AreRead d w last full read old whole → asked ≡ w.most - length read → IsPart d w asked count part old new → full ≡ length part → more ≡ read ++ take count part → AreRead d w count full more new whole
read-next d w last count full asked part read more old new whole r few p e m =
    read-more d w count full part read more old new whole r.few r.joined (subst (λ (i : ℕ). IsPart d w i count part old new) few p) e m

-- a part that has room for all that are asked for has the first timestamps in a window
pub whole-part : (d : Direction) (w : Window) (count : ℕ) (part was left whole : List ℕ) → IsPart d w w.most count part was left → w.most ≤ length part → all_within w was ≡ all_within w whole → take count part ≡ first_within w whole
whole-part d w count part was left whole p room same =
    sym (append-nil (take count part))
    ∙ ap (λ (ts : List ℕ). take count part ++ ts) (sym (rest (cases_lt count (length part))))
    ∙ p.joined
    ∙ ap (take w.most) same
  where
    rest : (count < length part) ⊎ (length part ≤ count) → take (w.most - count) (all_within w left) ≡ []
    rest (inl l) = p.ends l
    rest (inr l) = let none : w.most - count ≡ 0 = omega arith in ap (λ n. take n (all_within w left)) none
