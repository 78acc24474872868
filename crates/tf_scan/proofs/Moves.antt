-- Timestamps that move from the front of one list into another.
use Rattle.std.proofs.Common.{◌≡◌, ℕ, ◌+◌, ◌<◌, ◌≤◌, List, [], ◌∷◌, ◌++◌, length, take, drop, set, get_or, Some, None, min, refl, sym, ◌∙◌, ap, arith}
use Rattle.std.specs.Prelude.{slice_get}
use Rattle.std.proofs.lemmas.List.{append_assoc, length-append, length-take-le, length-drop, length_push, take-append-drop, drop_more, set_at, take_at, drop_at, drop-drop}
use Rattle.tf_scan.specs.Run.{AreWritten}
use Rattle.tf_scan.proofs.Firsts.{first-none}

pub written-none : (i : ℕ) (xs : List ℕ) → i ≤ length xs → AreWritten [] i i xs xs
written-none i xs l = record { count = omega arith; inside = l; list = sym (take-append-drop i xs) }

module _ (ts : List ℕ) (from to : ℕ) (old now : List ℕ) (w : AreWritten ts from to old now) where
  within : from ≤ length old
  within = omega (arith, w.count, w.inside)

  long : length (take from old ++ ts) ≡ to
  long = omega (arith, length-append (take from old) ts, length-take-le from old within, w.count)

  shown : now ≡ (take from old ++ ts) ++ drop to old
  shown = w.list ∙ sym (append_assoc (take from old) ts (drop to old))

  pub written-long : length now ≡ length old
  written-long = omega (arith, ap length shown, length-append (take from old ++ ts) (drop to old), long, length-drop to old, w.inside)

  -- one more is written behind them
  pub written-more : (t : ℕ) → to < length old → AreWritten (ts ++ t ∷ []) from (to + 1) old (set now to t)
  written-more t l =
      let front = take from old ++ ts in
      let rest = drop (to + 1) old in
      let was : now ≡ front ++ get_or old to 0 ∷ rest = shown ∙ ap (λ (xs : List ℕ). front ++ xs) (drop_more old to 0 l) in
      record {
        count = omega (arith, length_push ts t, w.count);
        inside = omega arith;
        list =
            ap (λ (xs : List ℕ). set xs to t) was
            ∙ set_at front (get_or old to 0) rest t to long
            ∙ append_assoc (take from old) ts (t ∷ rest)
            ∙ ap (λ (xs : List ℕ). take from old ++ xs) (sym (append_assoc ts (t ∷ []) rest));
      }

  -- others are written behind them
  pub written-both : (us : List ℕ) (end : ℕ) (new : List ℕ) → AreWritten us to end now new → AreWritten (ts ++ us) from end old new
  written-both us end new x =
      let front = take from old ++ ts in
      let first : take to now ≡ front = ap (take to) shown ∙ take_at front (drop to old) to long in
      let rest : drop end now ≡ drop end old =
      ap (λ n. drop n now) (sym x.count)
      ∙ sym (drop-drop (length us) to now)
      ∙ ap (drop (length us)) (ap (drop to) shown ∙ drop_at front (drop to old) to long)
      ∙ drop-drop (length us) to old
      ∙ ap (λ n. drop n old) x.count in
      record {
        count = omega (arith, length-append ts us, w.count, x.count);
        inside = omega (arith, x.inside, written-long);
        list =
            x.list
            ∙ ap (λ (xs : List ℕ). xs ++ (us ++ drop end now)) first
            ∙ ap (λ (xs : List ℕ). front ++ (us ++ xs)) rest
            ∙ append_assoc (take from old) ts (us ++ drop end old)
            ∙ ap (λ (xs : List ℕ). take from old ++ xs) (sym (append_assoc ts us (drop end old)));
      }

-- so many timestamps were moved from the one list into the other
pub record HasMoved (left_old left : List ℕ) (count : ℕ) (out_old out : List ℕ) : Type 0 where
  pub ts : List ℕ
  pub front : left_old ≡ ts ++ left
  pub written : AreWritten ts 0 count out_old out

pub moved-none : (left out : List ℕ) → HasMoved left left 0 out out
moved-none left out = record { ts = []; front = refl; written = written-none 0 out (omega arith) }

pub first-split : (ts us : List ℕ) (t : ℕ) → Some t ≡ slice_get ts 0 → us ≡ drop 1 ts → ts ≡ t ∷ us
first-split [] us t e f = absurd (let i : Some t ≡ None = e in cc)
first-split (u ∷ ts) us t e f = let i : Some t ≡ Some u = e in let p : u ≡ t = cc in ap (λ x. x ∷ ts) p ∙ ap (λ (xs : List ℕ). t ∷ xs) (sym f)

module _ (left_old left : List ℕ) (count : ℕ) (out_old out : List ℕ) (m : HasMoved left_old left count out_old out) where
  pub moved-next : (next : List ℕ) (t : ℕ) → Some t ≡ slice_get left 0 → next ≡ drop 1 left → count < length out_old → HasMoved left_old next (count + 1) out_old (set out count t)
  moved-next next t e f l =
      record {
        ts = m.ts ++ t ∷ [];
        front = m.front ∙ ap (λ (xs : List ℕ). m.ts ++ xs) (first-split left next t e f) ∙ sym (append_assoc m.ts (t ∷ []) next);
        written = written-more m.ts 0 count out_old out m.written t l;
      }

  pub moved-run : (us next : List ℕ) (to : ℕ) (now : List ℕ) → left ≡ us ++ next → AreWritten us count to out now → HasMoved left_old next to out_old now
  moved-run us next to now e w =
      record {
        ts = m.ts ++ us;
        front = m.front ∙ ap (λ (xs : List ℕ). m.ts ++ xs) e ∙ sym (append_assoc m.ts us next);
        written = written-both m.ts 0 count out_old out m.written us to now w;
      }

  moved-long : length m.ts ≡ count
  moved-long = omega (arith, m.written.count)

  pub moved-list : out ≡ take count left_old ++ drop count out_old
  moved-list = m.written.list ∙ ap (λ (xs : List ℕ). xs ++ drop count out_old) (sym (ap (take count) m.front ∙ take_at m.ts left count moved-long))

  pub moved-count : count ≤ length left_old
  moved-count = omega (arith, moved-long, ap length m.front, length-append m.ts left)

  pub moved-rest : left ≡ drop count left_old
  moved-rest = sym (ap (drop count) m.front ∙ drop_at m.ts left count moved-long)

  -- the list is full, or there is nothing more to move
  pub moved-full : length out_old ≤ count → count ≡ min (length out_old) (length left_old)
  moved-full l = omega (arith, m.written.inside, moved-long, ap length m.front, length-append m.ts left)

  pub moved-all : None ≡ slice_get left 0 → count ≡ min (length out_old) (length left_old)
  moved-all e = omega (arith, m.written.inside, moved-long, ap length m.front, length-append m.ts left, ap length (first-none left (sym e)))

  pub moved-end : (next : List ℕ) → None ≡ slice_get left 0 → next ≡ drop 1 left → next ≡ drop count left_old
  moved-end next e f = let none = first-none left (sym e) in f ∙ ap (drop 1) none ∙ sym none ∙ moved-rest

-- nothing is left behind what is moved out of nothing
pub none-behind : (ts us : List ℕ) → [] ≡ ts ++ us → us ≡ []
none-behind [] us e = sym e
none-behind (t ∷ ts) us e = absurd (let i : [] ≡ t ∷ (ts ++ us) = e in cc)
