-- Where four tables of one level stand, and that a full row has them.
use Rattle.std.proofs.Common.{◌≡◌, ◌≢◌, ℕ, zero, suc, ◌+◌, ◌*◌, ◌^◌, ◌<◌, ◌≤◌, ◌==◌, ◌⊎◌, inl, inr, List, [], ◌∷◌, ◌++◌, length, take, drop, filter, cond, leb, get_or, Some, None, Bool, true, false, slice_get, refl, sym, ◌∙◌, ap, subst, add-one, arith}
use Rattle.std.proofs.Math.Pow.{pow_mono}
use Rattle.std.proofs.lemmas.Bool.Decides.{eqb_tells, leb_tells}
use Rattle.std.proofs.lemmas.Option.{slice_get_within, slice_get_cases, slice_get-map}
use Rattle.std.specs.Option.{option_map}
use Rattle.tf_registry.specs.Table.{Shown}
use Rattle.tf_registry.specs.Row.{levels_of, OldestIsLast, AllFrom, LevelsRise, weight, IsRow}
use Rattle.tf_registry.specs.Run.{Run, run_of, IsRun, count_at, IsFourAt, NoFourBefore, NoFour, IsPicked, numbers_of, StandsAt, Stands}
use Rattle.tf_registry.proofs.Maps.{read_one}
use Rattle.tf_registry.proofs.Rows.{AllFrom-lower, AllFrom-above}

pub some_same : {a b : ℕ} → Some a ≡ Some b → a ≡ b
some_same e = cc

low_of : (a b w : ℕ) → a ≡ b → 2 ^ a + (2 ^ b + w) ≤ 2 ^ 20 → b < 20
low_of a b w e h = by_order (leb_tells 20 b) where
  by_order : ((leb 20 b ≡ true) × (20 ≤ b)) ⊎ ((leb 20 b ≡ false) × (b < 20)) → b < 20
  by_order (inr k) = k.1
  by_order (inl k) = let more : 2 ^ 20 ≤ 2 ^ b = pow_mono k.1 in let same : 2 ^ a ≡ 2 ^ b = ap (λ (n : ℕ). 2 ^ n) e in absurd (omega (arith, more, same, h))

module _ {V : Type 0} where
  abbrev at_level : ℕ → List (Shown V) → List (Shown V)
  at_level l ts = filter (λ (t : Shown V). t.table.level == l) ts

  count-here : (l : ℕ) (t : Shown V) (ts : List (Shown V)) → t.table.level ≡ l → count_at l (t ∷ ts) ≡ suc (count_at l ts)
  count-here l t ts e = by_test (eqb_tells t.table.level l) where
    by_test : (((t.table.level == l) ≡ true) × (t.table.level ≡ l)) ⊎ (((t.table.level == l) ≡ false) × (t.table.level ≢ l)) → count_at l (t ∷ ts) ≡ suc (count_at l ts)
    by_test (inl h) = ap (λ (b : Bool). length (cond b (t ∷ at_level l ts) (at_level l ts))) h.0
    by_test (inr h) = absurd (h.1 e)

  count-there : (l : ℕ) (t : Shown V) (ts : List (Shown V)) → t.table.level ≢ l → count_at l (t ∷ ts) ≡ count_at l ts
  count-there l t ts n = by_test (eqb_tells t.table.level l) where
    by_test : (((t.table.level == l) ≡ true) × (t.table.level ≡ l)) ⊎ (((t.table.level == l) ≡ false) × (t.table.level ≢ l)) → count_at l (t ∷ ts) ≡ count_at l ts
    by_test (inl h) = absurd (n h.1)
    by_test (inr h) = ap (λ (b : Bool). length (cond b (t ∷ at_level l ts) (at_level l ts))) h.0

  by_level : (l : ℕ) (t : Shown V) (P : Type 0) → (t.table.level ≡ l → P) → (t.table.level ≢ l → P) → P
  by_level l t P same other = by_test (eqb_tells t.table.level l) where
    by_test : (((t.table.level == l) ≡ true) × (t.table.level ≡ l)) ⊎ (((t.table.level == l) ≡ false) × (t.table.level ≢ l)) → P
    by_test (inl h) = same h.1
    by_test (inr h) = other h.1

  count-above : (l : ℕ) (ts : List (Shown V)) → AllFrom (l + 1) ts → count_at l ts ≡ 0
  count-above l [] f = refl
  count-above l (t ∷ ts) f = count-there l t ts (λ e. omega (arith, f.0, e)) ∙ count-above l ts f.1

  -- the tables of the least level come first
  run_at : (l : ℕ) (ts : List (Shown V)) (i : ℕ) → AllFrom l ts → LevelsRise ts → i < count_at l ts → slice_get (levels_of ts) i ≡ Some l
  run_at l [] i f r h = absurd (omega arith)
  run_at l (t ∷ ts) i f r h = by_level l t (slice_get (levels_of (t ∷ ts)) i ≡ Some l) (λ e. here e (λ i k. run_at l ts i f.1 r.1 k) i h)
      (λ n. let more : l + 1 ≤ t.table.level = omega (arith, f.0, n) in
      absurd (omega (arith, count-there l t ts n, count-above l ts (AllFrom-lower (l + 1) t.table.level ts more r.0)))) where
        here : t.table.level ≡ l → ((i : ℕ) → i < count_at l ts → slice_get (levels_of ts) i ≡ Some l) → (i : ℕ) → i < count_at l (t ∷ ts) → slice_get (levels_of (t ∷ ts)) i ≡ Some l
        here e again zero k = ap Some e
        here e again (suc i) k = again i (omega (arith, count-here l t ts e))

  run_end : (l : ℕ) (ts : List (Shown V)) (n : ℕ) → AllFrom l ts → LevelsRise ts → n ≡ count_at l ts → slice_get (levels_of ts) n ≢ Some l
  run_end l [] n f r h = λ e. absurd (cc)
  run_end l (t ∷ ts) n f r h = by_level l t (slice_get (levels_of (t ∷ ts)) n ≢ Some l) (λ e. here e (λ n k. run_end l ts n f.1 r.1 k) n h)
      (λ other. let more : l + 1 ≤ t.table.level = omega (arith, f.0, other) in
      there other n (h ∙ count-there l t ts other ∙ count-above l ts (AllFrom-lower (l + 1) t.table.level ts more r.0))) where
        here : t.table.level ≡ l → ((n : ℕ) → n ≡ count_at l ts → slice_get (levels_of ts) n ≢ Some l) → (n : ℕ) → n ≡ count_at l (t ∷ ts) → slice_get (levels_of (t ∷ ts)) n ≢ Some l
        here e again zero k = absurd (omega (arith, count-here l t ts e))
        here e again (suc n) k = again n (omega (arith, count-here l t ts e))

        there : t.table.level ≢ l → (n : ℕ) → n ≡ 0 → slice_get (levels_of (t ∷ ts)) n ≢ Some l
        there other zero k = λ e. other (some_same e)
        there other (suc n) k = absurd (omega arith)

  four_under : (t : Shown V) (ts : List (Shown V)) (place level : ℕ) → IsFourAt ts place level → IsFourAt (t ∷ ts) (suc place) level
  four_under t ts place level f = record {
    first = f.first;
    fourth = let e : suc place + 3 ≡ suc (place + 3) = omega arith in rw e f.fourth;
    next = let e : suc place + 4 ≡ suc (place + 4) = omega arith in rw e f.next;
  }

  -- a level that has at least four tables has its last four somewhere
  pub four_somewhere : (l : ℕ) (ts : List (Shown V)) → LevelsRise ts → 4 ≤ count_at l ts → (place : ℕ) × IsFourAt ts place l
  four_somewhere l [] r h = absurd (omega arith)
  four_somewhere l (t ∷ ts) r h = by_more (leb_tells 4 (count_at l ts)) (λ m. four_somewhere l ts r.1 m) where
    by_more : ((leb 4 (count_at l ts) ≡ true) × (4 ≤ count_at l ts)) ⊎ ((leb 4 (count_at l ts) ≡ false) × (count_at l ts < 4)) → (4 ≤ count_at l ts → (place : ℕ) × IsFourAt ts place l)
        → (place : ℕ) × IsFourAt (t ∷ ts) place l
    by_more (inl m) again = let found = again m.1 in (suc found.0, four_under t ts found.0 l found.1)
    by_more (inr less) again = by_level l t ((place : ℕ) × IsFourAt (t ∷ ts) place l)
        (λ e. let from : AllFrom l ts = AllFrom-lower l t.table.level ts (omega (arith, e)) r.0 in
        let three : 3 ≡ count_at l ts = omega (arith, count-here l t ts e) in
        (0, record { first = ap Some e; fourth = run_at l ts 2 from r.1 (omega arith); next = run_end l ts 3 from r.1 three }))
        (λ n. absurd (omega (arith, count-there l t ts n)))

  level-from : (l : ℕ) (ts : List (Shown V)) (k b : ℕ) → AllFrom l ts → slice_get (levels_of ts) k ≡ Some b → l ≤ b
  level-from l [] k b f e = absurd (cc)
  level-from l (t ∷ ts) zero b f e = let same : t.table.level ≡ b = cc in omega (arith, f.0)
  level-from l (t ∷ ts) (suc k) b f e = level-from l ts k b f.1 e

  -- an older table has no lower level
  pub rising_at : (ts : List (Shown V)) (i k a b : ℕ) → LevelsRise ts → slice_get (levels_of ts) i ≡ Some a → slice_get (levels_of ts) k ≡ Some b → i ≤ k → a ≤ b
  rising_at [] i k a b r p q h = absurd (cc)
  rising_at (t ∷ ts) zero zero a b r p q h = let same : a ≡ b = cc in omega (arith, same)
  rising_at (t ∷ ts) zero (suc k) a b r p q h = let same : t.table.level ≡ a = cc in let more = level-from t.table.level ts k b r.0 q in omega (arith, same, more)
  rising_at (t ∷ ts) (suc i) zero a b r p q h = absurd (omega arith)
  rising_at (t ∷ ts) (suc i) (suc k) a b r p q h = rising_at ts i k a b r.1 p q (omega arith)

  -- between two tables of one level all have that level
  between : (ts : List (Shown V)) (place l k : ℕ) → LevelsRise ts → IsFourAt ts place l → place ≤ k → k ≤ place + 3 → slice_get (levels_of ts) k ≡ Some l
  between ts place l k r f low high = by_place (slice_get_cases (levels_of ts) k).1 where
    by_place : ((x : ℕ) × (k < length (levels_of ts)) × (slice_get (levels_of ts) k ≡ Some x) × (get_or (levels_of ts) k x ≡ x)) ⊎ ((length (levels_of ts) ≤ k) × (slice_get (levels_of ts) k ≡ None))
        → slice_get (levels_of ts) k ≡ Some l
    by_place (inl h) =
        let at_least = rising_at ts place k l h.0 r f.first h.2 low in
        let at_most = rising_at ts k (place + 3) h.0 l r h.2 f.fourth high in
        let same : h.0 ≡ l = omega (arith, at_least, at_most) in
        h.2 ∙ ap Some same
    by_place (inr h) = absurd (omega (arith, slice_get_within (levels_of ts) (place + 3) l f.fourth, h.0))

  four_counted : (l : ℕ) (ts : List (Shown V)) (i : ℕ) → ((k : ℕ) → i ≤ k → k ≤ i + 3 → slice_get (levels_of ts) k ≡ Some l) → 4 ≤ count_at l ts
  four_counted l [] zero h = let e = h 0 (omega arith) (omega arith) in absurd (cc)
  four_counted l (a ∷ []) zero h = let e = h 1 (omega arith) (omega arith) in absurd (cc)
  four_counted l (a ∷ b ∷ []) zero h = let e = h 2 (omega arith) (omega arith) in absurd (cc)
  four_counted l (a ∷ b ∷ c ∷ []) zero h = let e = h 3 (omega arith) (omega arith) in absurd (cc)
  four_counted l (a ∷ b ∷ c ∷ d ∷ ts) zero h =
      omega (
        arith,
        count-here l a (b ∷ c ∷ d ∷ ts) (some_same (h 0 (omega arith) (omega arith))),
        count-here l b (c ∷ d ∷ ts) (some_same (h 1 (omega arith) (omega arith))),
        count-here l c (d ∷ ts) (some_same (h 2 (omega arith) (omega arith))),
        count-here l d ts (some_same (h 3 (omega arith) (omega arith))),
      )
  four_counted l [] (suc i) h = let e = h (suc i) (omega arith) (omega arith) in absurd (cc)
  four_counted l (t ∷ ts) (suc i) h =
      let rest = four_counted l ts i (λ k low high. h (suc k) (omega arith) (omega arith)) in
      by_level l t (4 ≤ count_at l (t ∷ ts)) (λ e. omega (arith, count-here l t ts e, rest)) (λ n. omega (arith, count-there l t ts n, rest))

  from_behind : (ts : List (Shown V)) (i l : ℕ) → LevelsRise ts → slice_get (levels_of ts) i ≡ Some l → AllFrom l (drop (suc i) ts)
  from_behind [] i l r e = tt
  from_behind (t ∷ ts) zero l r e = subst (λ (a : ℕ). AllFrom a ts) (some_same e) r.0
  from_behind (t ∷ ts) (suc i) l r e = from_behind ts i l r.1 e

  rise_behind : (ts : List (Shown V)) (n : ℕ) → LevelsRise ts → LevelsRise (drop n ts)
  rise_behind ts zero r = r
  rise_behind [] (suc n) r = tt
  rise_behind (t ∷ ts) (suc n) r = rise_behind ts n r.1

  pub next_behind : (ts : List (Shown V)) (n : ℕ) → slice_get (levels_of (drop n ts)) 0 ≡ slice_get (levels_of ts) n
  next_behind ts zero = refl
  next_behind [] (suc n) = refl
  next_behind (t ∷ ts) (suc n) = next_behind ts n

  -- the list round two elements that stand one behind the other
  pub two_at : (ts : List (Shown V)) (i j k : ℕ) (a b : Shown V) → j ≡ i + 1 → k ≡ i + 2 → slice_get ts i ≡ Some a → slice_get ts j ≡ Some b → ts ≡ take i ts ++ a ∷ b ∷ drop k ts
  two_at [] i j k a b ej ek ea eb = absurd (cc)
  two_at (t ∷ []) zero zero k a b ej ek ea eb = absurd (omega arith)
  two_at (t ∷ []) zero (suc j) k a b ej ek ea eb = absurd (cc)
  two_at (t ∷ u ∷ ts) zero j k a b ej ek ea eb =
      let at_one = subst (λ (n : ℕ). slice_get (t ∷ u ∷ ts) n ≡ Some b) ej eb in
      let behind : drop k (t ∷ u ∷ ts) ≡ ts = ap (λ (n : ℕ). drop n (t ∷ u ∷ ts)) ek in
      subst (λ (rest : List (Shown V)). t ∷ u ∷ ts ≡ a ∷ b ∷ rest) (sym behind) (cc)
  two_at (t ∷ ts) (suc i) zero k a b ej ek ea eb = absurd (omega arith)
  two_at (t ∷ ts) (suc i) (suc j) zero a b ej ek ea eb = absurd (omega arith)
  two_at (t ∷ ts) (suc i) (suc j) (suc k) a b ej ek ea eb = ap (λ (rest : List (Shown V)). t ∷ rest) (two_at ts i j k a b (omega arith) (omega arith) ea eb)

  level_at : (ts : List (Shown V)) (i l : ℕ) (t : Shown V) → slice_get ts i ≡ Some t → slice_get (levels_of ts) i ≡ Some l → t.table.level ≡ l
  level_at ts i l t e f = some_same (sym (slice_get-map (λ (u : Shown V). u.table.level) ts i ∙ ap (option_map (λ (u : Shown V). u.table.level)) e) ∙ f)

  -- the last two of the first four tables of one level are those to be merged
  pub picked : (ts : List (Shown V)) (run : Run V) (place l : ℕ) → LevelsRise ts → IsFourAt ts place l → ((j m : ℕ) → j < place → IsFourAt ts j m → ⊥)
      → slice_get ts (place + 2) ≡ Some run.newer → slice_get ts (place + 3) ≡ Some run.older → IsPicked ts run
  picked ts run place l r f none newer older =
      let third = between ts place l (place + 2) r f (omega arith) (omega arith) in
      let newer_level : run.newer.table.level ≡ l = level_at ts (place + 2) l run.newer newer third in
      let older_level : run.older.table.level ≡ l = level_at ts (place + 3) l run.older older f.fourth in
      let at_four : suc (place + 3) ≡ place + 4 = omega arith in
      let from : AllFrom l (drop (place + 4) ts) = subst (λ (n : ℕ). AllFrom l (drop n ts)) at_four (from_behind ts (place + 3) l r f.fourth) in
      let above : AllFrom (l + 1) (drop (place + 4) ts) = AllFrom-above l (drop (place + 4) ts) from (rise_behind ts (place + 4) r) (λ e. f.next (sym (next_behind ts (place + 4)) ∙ e)) in
      let counted : 4 ≤ count_at l ts = four_counted l ts place (λ k low high. between ts place l k r f low high) in
      record {
        before = take (place + 2) ts;
        after = drop (place + 4) ts;
        was = two_at ts (place + 2) (place + 3) (place + 4) run.newer run.older (omega arith) (omega arith) newer older;
        level = newer_level ∙ sym older_level;
        four = subst (λ (m : ℕ). 4 ≤ count_at m ts) (sym older_level) counted;
        lowest = λ m below. by_more m (omega (arith, below, older_level)) (leb_tells 4 (count_at m ts));
        last = subst (λ (m : ℕ). count_at m (drop (place + 4) ts) ≡ 0) (sym older_level) (count-above l (drop (place + 4) ts) above);
      } where
        by_order : (m : ℕ) → m < l → (j : ℕ) → IsFourAt ts j m → ((leb place j ≡ true) × (place ≤ j)) ⊎ ((leb place j ≡ false) × (j < place)) → ⊥
        by_order m below j found (inl h) = omega (arith, rising_at ts place j l m r f.first found.first h.1)
        by_order m below j found (inr h) = none j m h.1 found

        by_more : (m : ℕ) → m < l → ((leb 4 (count_at m ts) ≡ true) × (4 ≤ count_at m ts)) ⊎ ((leb 4 (count_at m ts) ≡ false) × (count_at m ts < 4)) → count_at m ts < 4
        by_more m below (inr h) = h.1
        by_more m below (inl h) = let found = four_somewhere m ts r h.1 in absurd (by_order m below found.0 found.1 (leb_tells place found.0))

  -- where four tables of one level stand nowhere, no level has four
  pub none_picked : (ts : List (Shown V)) → LevelsRise ts → ((j m : ℕ) → IsFourAt ts j m → ⊥) → (l : ℕ) → count_at l ts < 4
  none_picked ts r none l = by_more (leb_tells 4 (count_at l ts)) where
    by_more : ((leb 4 (count_at l ts) ≡ true) × (4 ≤ count_at l ts)) ⊎ ((leb 4 (count_at l ts) ≡ false) × (count_at l ts < 4)) → count_at l ts < 4
    by_more (inr h) = h.1
    by_more (inl h) = let found = four_somewhere l ts r h.1 in absurd (none found.0 l found.1)

  weight_part : (before rest : List (Shown V)) → weight rest ≤ weight (before ++ rest)
  weight_part [] rest = omega arith
  weight_part (t ∷ before) rest = omega (arith, weight_part before rest)

  above_of : (run : Run V) (before after : List (Shown V)) → OldestIsLast (before ++ run.newer ∷ run.older ∷ after) → run.newer.table.oldest ≡ false
  above_of run [] after h = h.0
  above_of run (t ∷ before) after h = above_of run before after h.1

  -- what is picked in a row can be merged
  pub picked_run : (ts : List (Shown V)) (run : Run V) → IsRow ts → IsPicked ts run → IsRun run
  picked_run ts run h p =
      let row : IsRow (p.before ++ run.newer ∷ run.older ∷ p.after) = subst (λ (us : List (Shown V)). IsRow us) p.was h in
      record {
        level = p.level;
        above = above_of run p.before p.after row.oldest;
        low = low_of run.newer.table.level run.older.table.level (weight p.after) p.level (omega (arith, weight_part p.before (run.newer ∷ run.older ∷ p.after), row.light));
      }

  -- the same of a row by another name
  pub pick_at : (now ts : List (Shown V)) (run : Run V) (place l : ℕ) → ts ≡ now → IsRow now → IsFourAt ts place l → NoFourBefore ts place
      → slice_get ts (place + 2) ≡ Some run.newer → slice_get ts (place + 3) ≡ Some run.older → IsPicked now run × IsRun run
  pick_at now ts run place l e h f none newer older =
      let row : IsRow ts = subst (λ (us : List (Shown V)). IsRow us) (sym e) h in
      let p : IsPicked ts run = picked ts run place l row.levels f none newer older in
      (subst (λ (us : List (Shown V)). IsPicked us run) e p, picked_run ts run row p)

  -- the references of a run that is picked stand in the row
  pub picked_stands : (now ts : List (Shown V)) (run : Run V) (place l : ℕ) → ts ≡ now → LevelsRise now → IsFourAt ts place l
      → slice_get ts (place + 2) ≡ Some run.newer → slice_get ts (place + 3) ≡ Some run.older → Stands now run
  picked_stands now ts run place l e r f newer older =
      let second : place + 2 + 1 ≡ place + 3 = omega arith in
      let third : place + 2 + 2 ≡ place + 4 = omega arith in
      let level : run.older.table.level ≡ l = level_at ts (place + 3) l run.older older f.fourth in
      let next : slice_get (levels_of ts) (place + 2 + 2) ≢ Some run.older.table.level = λ n. f.next (ap (λ (k : ℕ). slice_get (levels_of ts) k) (sym third) ∙ n ∙ ap Some level) in
      let at_second : slice_get (numbers_of ts) (place + 2 + 1) ≡ Some run.older.number = ap (λ (k : ℕ). slice_get (numbers_of ts) k) second ∙ slice_get-map (λ (u : Shown V). u.number) ts (place + 3) ∙ ap (option_map (λ (u : Shown V). u.number)) older in
      let at_first : slice_get (numbers_of ts) (place + 2) ≡ Some run.newer.number = slice_get-map (λ (u : Shown V). u.number) ts (place + 2) ∙ ap (option_map (λ (u : Shown V). u.number)) newer in
      let stands : StandsAt ts (place + 2) run.newer.number run.older.number run.older.table.level = record { first = at_first; second = at_second; next = next } in
      subst (λ (us : List (Shown V)). Stands us run) e (place + 2, stands)

  pub none_at : (now ts : List (Shown V)) → ts ≡ now → IsRow now → NoFour ts → (l : ℕ) → count_at l now < 4
  none_at now ts e h none =
      let row : IsRow ts = subst (λ (us : List (Shown V)). IsRow us) (sym e) h in
      subst (λ (us : List (Shown V)). (l : ℕ) → count_at l us < 4) e (none_picked ts row.levels none)

  -- how many tables have at most this level
  abbrev upto : ℕ → List (Shown V) → ℕ
  upto n ts = length (filter (λ (t : Shown V). leb t.table.level n) ts)

  abbrev among : ℕ → List (Shown V) → List (Shown V)
  among n ts = filter (λ (t : Shown V). leb t.table.level n) ts

  upto-here : (n : ℕ) (t : Shown V) (ts : List (Shown V)) → t.table.level ≤ n → upto n (t ∷ ts) ≡ suc (upto n ts)
  upto-here n t ts h = by_test (leb_tells t.table.level n) where
    by_test : ((leb t.table.level n ≡ true) × (t.table.level ≤ n)) ⊎ ((leb t.table.level n ≡ false) × (n < t.table.level)) → upto n (t ∷ ts) ≡ suc (upto n ts)
    by_test (inl k) = ap (λ (b : Bool). length (cond b (t ∷ among n ts) (among n ts))) k.0
    by_test (inr k) = absurd (omega (arith, h, k.1))

  upto-there : (n : ℕ) (t : Shown V) (ts : List (Shown V)) → n < t.table.level → upto n (t ∷ ts) ≡ upto n ts
  upto-there n t ts h = by_test (leb_tells t.table.level n) where
    by_test : ((leb t.table.level n ≡ true) × (t.table.level ≤ n)) ⊎ ((leb t.table.level n ≡ false) × (n < t.table.level)) → upto n (t ∷ ts) ≡ upto n ts
    by_test (inl k) = absurd (omega (arith, h, k.1))
    by_test (inr k) = ap (λ (b : Bool). length (cond b (t ∷ among n ts) (among n ts))) k.0

  upto-more : (n : ℕ) (ts : List (Shown V)) → upto (n + 1) ts ≤ upto n ts + count_at (n + 1) ts
  upto-more n [] = omega arith
  upto-more n (t ∷ ts) = by_level (n + 1) t (upto (n + 1) (t ∷ ts) ≤ upto n (t ∷ ts) + count_at (n + 1) (t ∷ ts))
      (λ e. omega (arith, upto-here (n + 1) t ts (omega (arith, e)), upto-there n t ts (omega (arith, e)), count-here (n + 1) t ts e, upto-more n ts))
      (λ other. by_order other (upto-more n ts) (leb_tells t.table.level n)) where
        by_order : t.table.level ≢ n + 1 → upto (n + 1) ts ≤ upto n ts + count_at (n + 1) ts → ((leb t.table.level n ≡ true) × (t.table.level ≤ n)) ⊎ ((leb t.table.level n ≡ false) × (n < t.table.level))
            → upto (n + 1) (t ∷ ts) ≤ upto n (t ∷ ts) + count_at (n + 1) (t ∷ ts)
        by_order other rest (inl k) = omega (arith, upto-here (n + 1) t ts (omega (arith, k.1)), upto-here n t ts k.1, count-there (n + 1) t ts other, rest)
        by_order other rest (inr k) = omega (arith, upto-there (n + 1) t ts (omega (arith, k.1, other)), upto-there n t ts k.1, count-there (n + 1) t ts other, rest)

  upto-none : (ts : List (Shown V)) → upto 0 ts ≤ count_at 0 ts
  upto-none [] = omega arith
  upto-none (t ∷ ts) = by_level 0 t (upto 0 (t ∷ ts) ≤ count_at 0 (t ∷ ts))
      (λ e. omega (arith, upto-here 0 t ts (omega (arith, e)), count-here 0 t ts e, upto-none ts))
      (λ other. omega (arith, upto-there 0 t ts (omega (arith, other)), count-there 0 t ts other, upto-none ts))

  three_each : (ts : List (Shown V)) → ((l : ℕ) → count_at l ts < 4) → (n : ℕ) → upto n ts ≤ 3 * n + 3
  three_each ts few zero = omega (arith, upto-none ts, few 0)
  three_each ts few (suc n) =
      let one_more : n + 1 ≡ suc n = add-one n in
      let step : upto (suc n) ts ≤ upto n ts + count_at (suc n) ts = subst (λ (k : ℕ). upto k ts ≤ upto n ts + count_at k ts) one_more (upto-more n ts) in
      omega (arith, step, three_each ts few n, few (suc n))

  all_upto : (ts : List (Shown V)) → weight ts ≤ 2 ^ 20 → upto 20 ts ≡ length ts
  all_upto [] h = refl
  all_upto (t ∷ ts) h =
      upto-here 20 t ts (by_order (leb_tells t.table.level 20)) ∙ ap suc (all_upto ts (omega arith)) where
        by_order : ((leb t.table.level 20 ≡ true) × (t.table.level ≤ 20)) ⊎ ((leb t.table.level 20 ≡ false) × (20 < t.table.level)) → t.table.level ≤ 20
        by_order (inl k) = k.1
        by_order (inr k) = let more : 2 ^ 21 ≤ 2 ^ t.table.level = pow_mono {i = 21} (omega (arith, k.1)) in absurd (omega (arith, more, h))

  -- a row in which no level has four tables isn't full
  pub room_left : (ts : List (Shown V)) → IsRow ts → ((l : ℕ) → count_at l ts < 4) → length ts < 64
  room_left ts h few = omega (arith, all_upto ts h.light, three_each ts few 20)

  -- what is known of a run that is picked
  pub record IsPickedRun (now : List (Shown V)) (run : Run V) : Type 0 where
    pub picked : IsPicked now run
    pub is_run : IsRun run
    pub stands : Stands now run

  -- the same of the references that are read at the two places
  pub picked_by : (now ts : List (Shown V)) (place l : ℕ) (x y : Shown V) → ts ≡ now → IsRow now → IsFourAt ts place l → NoFourBefore ts place → place + 3 < length ts
      → x ≡ get_or ts (place + 2) x → y ≡ get_or ts (place + 3) y → IsPickedRun now (run_of x y)
  picked_by now ts place l x y e h f none within ex ey =
      let at_newer : slice_get ts (place + 2) ≡ Some x = read_one ts (place + 2) x (omega (arith, within)) ex in
      let at_older : slice_get ts (place + 3) ≡ Some y = read_one ts (place + 3) y within ey in
      let there = pick_at now ts (run_of x y) place l e h f none at_newer at_older in
      record { picked = there.0; is_run = there.1; stands = picked_stands now ts (run_of x y) place l e h.levels f at_newer at_older }
