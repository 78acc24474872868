-- Children that are filled, before and after an edit of their list.
use Rattle.tf_btree.proofs.Words.{◌≡◌, ℕ, suc, ◌+◌, ◌-◌, ◌<◌, ◌≤◌, List, [], ◌∷◌, ◌++◌, length, take, drop, set, get_or, Bool, true, false, eqb, inl, inr, ◌≢◌, refl, sym, ◌∙◌, ap, subst, arith, cases_lt, eqb_tells, take-suc-set, length-append, length-drop, drop_all, set-get_or, set_split, set-set}
use Rattle.tf_btree.proofs.Words.{set_past, set_comm, set_at, set-append_right, get_or_at, get_or-append_right, get_or-set_same, get_or-set_other, drop-set-lt, insert_end, IsPairIn, half_full, no_entries, Shape, childless, child, Fill, shape_of, edge_before, edge_at, AreFilled, AllFilled, IsFilled}
use Rattle.tf_btree.proofs.Words.{one_more, one_more_at, Subtree, fill_of}
use Rattle.std.specs.List.{insert, remove}
use Rattle.tf_btree.proofs.Pair.{put_one, put_two}

-- on the right edge less is asked
AreFilled-edge : (s : Shape) → AreFilled s false → AreFilled s true
AreFilled-edge childless h = tt
AreFilled-edge (child n below childless) h = (λ e. h.0 refl, AreFilled-edge below h.1, tt)
AreFilled-edge (child n below (child m b others)) h = (λ e. h.0 refl, h.1, AreFilled-edge (child m b others) h.2)

AreFilled-any : (edge : Bool) (s : Shape) → AreFilled s false → AreFilled s edge
AreFilled-any true s h = AreFilled-edge s h
AreFilled-any false s h = h

pub IsFilled-any : (edge : Bool) (f : Fill) → IsFilled false f → IsFilled edge f
IsFilled-any edge f h = record { half = λ e. h.half refl; below = AreFilled-any edge f.below h.below }

-- one entry more leaves a node filled
pub IsFilled-more : (edge : Bool) (f : Fill) → IsFilled edge f → IsFilled edge (one_more f)
IsFilled-more edge f h = record { half = λ e. let n = h.half e in omega arith; below = h.below }

-- the first child, by what lies behind it
pub filled_first : (edge : Bool) (f : Fill) (fs : List Fill) → AllFilled edge (f ∷ fs) → IsFilled (edge_before (shape_of fs) edge) f
filled_first edge f fs h = record { half = h.0; below = h.1 }

pub filled_before : (edge : Bool) (f : Fill) (fs : List Fill) → AllFilled edge (f ∷ fs) → 0 < length fs → IsFilled false f
filled_before edge f [] h some = absurd (omega arith)
filled_before edge f (g ∷ fs) h some = record { half = h.0; below = h.1 }

pub filled_off : (f : Fill) (fs : List Fill) → AllFilled false (f ∷ fs) → IsFilled false f
filled_off f [] h = record { half = h.0; below = h.1 }
filled_off f (g ∷ fs) h = record { half = h.0; below = h.1 }

-- one more child before the others
pub filled_put : (edge : Bool) (f : Fill) (fs : List Fill) → IsFilled (edge_before (shape_of fs) edge) f → AllFilled edge fs → AllFilled edge (f ∷ fs)
filled_put edge f fs h rest = (h.half, h.below, rest)

pub filled_cons : (edge : Bool) (f : Fill) (fs : List Fill) → IsFilled false f → AllFilled edge fs → AllFilled edge (f ∷ fs)
filled_cons edge f fs h rest = filled_put edge f fs (IsFilled-any (edge_before (shape_of fs) edge) f h) rest

pub filled_append : (edge : Bool) (fs gs : List Fill) → AllFilled false fs → AllFilled edge gs → AllFilled edge (fs ++ gs)
filled_append edge [] gs a b = b
filled_append edge (f ∷ fs) gs a b = filled_cons edge f (fs ++ gs) (filled_off f fs a) (filled_append edge fs gs a.2 b)

-- the first children and those behind them
pub filled_split : (edge : Bool) (fs gs : List Fill) → 0 < length gs → AllFilled edge (fs ++ gs) → AllFilled false fs × AllFilled edge gs
filled_split edge [] gs some h = (tt, h)
filled_split edge (f ∷ []) [] some h = absurd (omega arith)
filled_split edge (f ∷ []) (g ∷ gs) some h = (filled_put false f [] (filled_before edge f (g ∷ gs) h some) tt, h.2)
filled_split edge (f ∷ x ∷ fs) gs some h = let rest = filled_split edge (x ∷ fs) gs some h.2 in (filled_put false f (x ∷ fs) (record { half = h.0; below = h.1 }) rest.0, rest.1)

edge_before-off : (s : Shape) → edge_before s false ≡ false
edge_before-off childless = refl
edge_before-off (child n below others) = refl

edge_before-some : (edge : Bool) (fs : List Fill) → 0 < length fs → edge_before (shape_of fs) edge ≡ false
edge_before-some edge [] some = absurd (omega arith)
edge_before-some edge (f ∷ fs) some = refl

pub edge_at_on : (edge last : Bool) (fs : List Fill) (i n : ℕ) → edge ≡ true → last ≡ eqb (i + 1) n → n ≡ length fs → i < length fs → last ≡ edge_at edge fs i
edge_at_on edge last fs i n on is many lt = elim (eqb_tells (i + 1) n) [
  | inl t ↦ is ∙ t.0 ∙ sym (let end : drop (suc i) fs ≡ [] = drop_all (suc i) fs (omega (arith, t.1)) in ap (λ (ds : List Fill). edge_before (shape_of ds) edge) end ∙ on)
  | inr f ↦ is ∙ f.0 ∙ sym (edge_before-some edge (drop (suc i) fs) (let ne : i + 1 ≢ n = f.1 in omega (arith, length-drop (suc i) fs)))
]

-- the children before one, that one, and those behind it
filled_around : (edge : Bool) (xs : List Fill) (f : Fill) (ys : List Fill) → AllFilled edge (xs ++ f ∷ ys) → AllFilled false xs × IsFilled (edge_before (shape_of ys) edge) f × AllFilled edge ys
filled_around edge xs f ys h = let parts = filled_split edge xs (f ∷ ys) (omega arith) h in (parts.0, filled_first edge f ys parts.1, parts.1.2)

filled_between : (edge : Bool) (xs : List Fill) (f : Fill) (ys : List Fill) → AllFilled false xs → IsFilled (edge_before (shape_of ys) edge) f → AllFilled edge ys → AllFilled edge (xs ++ f ∷ ys)
filled_between edge xs f ys before here behind = filled_append edge xs (f ∷ ys) before (filled_put edge f ys here behind)

split_at : {X : Type 0} (xs : List X) (i : ℕ) (d : X) → i < length xs → xs ≡ take i xs ++ get_or xs i d ∷ drop (suc i) xs
split_at xs i d lt = sym (set-get_or xs i d) ∙ set_split xs i (get_or xs i d) lt

filled_parts : (edge : Bool) (fs : List Fill) (i : ℕ) (d : Fill) → i < length fs → AllFilled edge fs → AllFilled false (take i fs) × IsFilled (edge_at edge fs i) (get_or fs i d) × AllFilled edge (drop (suc i) fs)
filled_parts edge fs i d lt h = filled_around edge (take i fs) (get_or fs i d) (drop (suc i) fs) (subst (λ (gs : List Fill). AllFilled edge gs) (split_at fs i d lt) h)

pub filled_at : (edge : Bool) (fs : List Fill) (i : ℕ) (d : Fill) → i < length fs → AllFilled edge fs → IsFilled (edge_at edge fs i) (get_or fs i d)
filled_at edge fs i d lt h = (filled_parts edge fs i d lt h).1

-- the child at i edited, and what was split off it behind it
pub filled_edited : (edge : Bool) (fs : List Fill) (i : ℕ) (f : Fill) → i < length fs → AllFilled edge fs → IsFilled (edge_at edge fs i) f → AllFilled edge (set fs i f)
filled_edited edge fs i f lt h new = let parts = filled_parts edge fs i f lt h in rw (set_split fs i f lt) (filled_between edge (take i fs) f (drop (suc i) fs) parts.0 new parts.2)

pub filled_parted : (edge : Bool) (fs : List Fill) (i : ℕ) (f g : Fill) → i < length fs → AllFilled edge fs → IsFilled false f → IsFilled (edge_at edge fs i) g → AllFilled edge (insert (set fs i f) (suc i) g)
filled_parted edge fs i f g lt h new behind =
    let parts = filled_parts edge fs i f lt h in
    let front = filled_append false (take i fs) (f ∷ []) parts.0 (filled_put false f [] new tt) in
    rw (take-suc-set fs i f lt, drop-set-lt (suc i) fs i f (omega arith)) (filled_between edge (take i fs ++ f ∷ []) g (drop (suc i) fs) front behind parts.2)

-- the child at i with one entry less
pub filled_short : (edge : Bool) (fs : List Fill) (i : ℕ) (f : Fill) → i < length fs → AllFilled edge fs → IsFilled (edge_at edge fs i) (one_more f) → AllFilled edge (one_more_at i (set fs i f))
filled_short edge fs i f lt h new = rw (get_or-set_same fs i f no_entries lt, set-set fs i f (one_more f)) (filled_edited edge fs i (one_more f) lt h new)

-- a child without entries was on the right edge, so the others are filled without it
pub empty_edge : (edge : Bool) (fs : List Fill) (i : ℕ) (f : Fill) → IsFilled (edge_at edge fs i) (one_more f) → f.entries ≡ 0 → edge ≡ false → ⊥
empty_edge true fs i f new empty off = cc
empty_edge false fs i f new empty off = let n = new.half (edge_before-off (shape_of (drop (suc i) fs))) in omega arith

pub filled_without : (edge : Bool) (fs : List Fill) (i : ℕ) → i < length fs → AllFilled edge fs → AllFilled edge (remove fs i)
filled_without edge fs i lt h = let parts = filled_parts edge fs i no_entries lt h in filled_append edge (take i fs) (drop (suc i) fs) parts.0 parts.2

-- one entry more leaves the children filled
pub filled_more : (edge : Bool) (i : ℕ) (fs : List Fill) → AllFilled edge fs → AllFilled edge (one_more_at i fs)
filled_more edge i fs h = elim (cases_lt i (length fs)) [
  | inl lt ↦ filled_edited edge fs i _ lt h (IsFilled-more _ _ (filled_at edge fs i no_entries lt h))
  | inr le ↦ rw (set_past fs i (one_more (get_or fs i no_entries)) le) h
]

-- and so does one less, unless it leaves a node off the right edge less than half full
pub filled_less : (edge : Bool) (i : ℕ) (fs : List Fill) → (i < length fs → edge_at edge fs i ≡ false → half_full ≤ (get_or fs i no_entries).entries) → AllFilled edge (one_more_at i fs) → AllFilled edge fs
filled_less edge i fs enough h = elim (cases_lt i (length fs)) [
  | inl lt ↦
      let own = get_or fs i no_entries in
      let parts = filled_around edge (take i fs) (one_more own) (drop (suc i) fs) (rw (set_split fs i (one_more own) lt) at h) in
      subst (λ (gs : List Fill). AllFilled edge gs) (sym (split_at fs i no_entries lt)) (filled_between edge (take i fs) own (drop (suc i) fs) parts.0 (record { half = enough lt; below = parts.1.below }) parts.2)
  | inr le ↦ rw (set_past fs i (one_more (get_or fs i no_entries)) le) at h
]

-- where two neighbours may each lack an entry
module _ (edge : Bool) (fs : List Fill) (i : ℕ) (f g : Fill) (rest : List Fill) (pair : IsPairIn fs i f g rest) (h : AllFilled edge (one_more_at i (one_more_at (i + 1) fs))) where
  -- the right edge, as the second one sees it
  abbrev pub pair_edge : Bool
  pair_edge = edge_before (shape_of pair.back) edge

  pair_inside : AllFilled edge (pair.front ++ one_more f ∷ one_more g ∷ pair.back)
  pair_inside =
      let place = pair.place in
      let second = set-append_right pair.front (f ∷ g ∷ pair.back) i (i + 1) (one_more g) place (omega arith) in
      let here = get_or-append_right pair.front (f ∷ g ∷ pair.back) i (i + 1) no_entries place (omega arith) in
      let one : i + 1 - i ≡ 1 = omega arith in
      let both : one_more_at i (one_more_at (i + 1) (pair.front ++ f ∷ g ∷ pair.back)) ≡ pair.front ++ one_more f ∷ one_more g ∷ pair.back =
      rw (here, one, second, one, get_or_at pair.front f (one_more g ∷ pair.back) no_entries i place) (set_at pair.front f (one_more g ∷ pair.back) (one_more f) i place) in
      subst (λ (gs : List Fill). AllFilled edge gs) (ap (λ (gs : List Fill). one_more_at i (one_more_at (i + 1) gs)) pair.all ∙ both) h

  -- the others are filled
  pair_others : AllFilled false pair.front × IsFilled false (one_more f) × IsFilled pair_edge (one_more g) × AllFilled edge pair.back
  pair_others =
      let first = filled_around edge pair.front (one_more f) (one_more g ∷ pair.back) pair_inside in
      let second = filled_around edge [] (one_more g) pair.back first.2 in
      (first.0, first.1, second.1, second.2)

  pub pair_filled : IsFilled false (one_more f) × IsFilled pair_edge (one_more g)
  pair_filled = (pair_others.1, pair_others.2)

  -- and so are all with one node in place of the two, or two others
  pub pair_as_one : (j : Fill) → IsFilled pair_edge j → AllFilled edge (insert rest i j)
  pair_as_one j new = rw (put_one fs i f g rest pair j) (filled_between edge pair.front j pair.back pair_others.0 new pair_others.3)

  pub pair_as_two : (j k : Fill) → IsFilled false j → IsFilled pair_edge k → AllFilled edge (insert (insert rest i k) i j)
  pair_as_two j k first second =
      rw (put_two fs i f g rest pair j k) (filled_between edge pair.front j (k ∷ pair.back) pair_others.0 first (filled_between edge [] k pair.back tt second pair_others.3))

pub filled_branch : {K V : Type 0} (edge : Bool) (s : Subtree K V) (fs : List Fill) → s.fills ≡ fs → AllFilled edge fs → (edge ≡ false → half_full ≤ length s.parts) → IsFilled edge (fill_of s)
filled_branch edge s fs is all half = record { half = half; below = subst (λ (gs : List Fill). AllFilled edge gs) (sym is) all }

-- a node that lost at most one entry
pub filled_fewer_than : {K V : Type 0} (edge : Bool) (s : Subtree K V) → AllFilled edge s.fills → (edge ≡ false → half_full ≤ suc (length s.parts)) → IsFilled edge (one_more (fill_of s))
filled_fewer_than edge s all half = record { half = half; below = all }

pub filled_fewer : {K V : Type 0} (edge : Bool) (old new : Subtree K V) → new.fills ≡ old.fills → length old.parts ≤ suc (length new.parts) → IsFilled edge (fill_of old) → IsFilled edge (one_more (fill_of new))
filled_fewer edge old new same less h = filled_fewer_than edge new (subst (λ (fs : List Fill). AllFilled edge fs) (sym same) h.below) (λ off. let n = h.half off in omega arith)

-- both parts are filled where the whole is, the first one off the edge
pub filled_apart : (edge : Bool) (fs gs hs : List Fill) → fs ++ gs ≡ hs → 0 < length gs → AllFilled edge hs → AllFilled false fs × AllFilled edge gs
filled_apart edge fs gs hs all some h = filled_split edge fs gs some (rw (← all) at h)

-- the first child moved behind others, which aren't on the right edge
pub first_moved : (edge : Bool) (fs gs : List Fill) (n : ℕ) (f : Fill) → n ≡ length fs → 1 < length gs → get_or gs 0 f ≡ f → AllFilled false fs → AllFilled edge gs → AllFilled false (insert fs n f) × AllFilled edge (remove gs 0)
first_moved edge fs [] n f end more is a b = absurd (omega arith)
first_moved edge fs (g ∷ gs) n f end more is a b =
    let first : IsFilled false f = subst (λ (x : Fill). IsFilled false x) is (filled_before edge g gs b (omega arith)) in
    let last : insert fs n f ≡ fs ++ f ∷ [] = ap (λ (m : ℕ). insert fs m f) end ∙ insert_end fs f in
    (subst (λ (xs : List Fill). AllFilled false xs) (sym last) (filled_append false fs (f ∷ []) a (filled_put false f [] first tt)), b.2)

-- the last child moved before others
pub last_moved : (edge : Bool) (fs gs : List Fill) (n : ℕ) (f : Fill) → n < length fs → get_or fs n f ≡ f → AllFilled false fs → AllFilled edge gs → AllFilled false (remove fs n) × AllFilled edge (insert gs 0 f)
last_moved edge fs gs n f lt is a b =
    let at : IsFilled false (get_or fs n f) = subst (λ (e : Bool). IsFilled e (get_or fs n f)) (edge_before-off (shape_of (drop (suc n) fs))) (filled_at false fs n f lt a) in
    (filled_without false fs n lt a, filled_cons edge f gs (subst (λ (x : Fill). IsFilled false x) is at) b)

-- where a child may lack an entry, it and the one behind it may
pub pair_from_first : (edge : Bool) (i : ℕ) (fs : List Fill) → AllFilled edge (one_more_at i fs) → AllFilled edge (one_more_at i (one_more_at (i + 1) fs))
pair_from_first edge i fs h =
    let n = no_entries in
    let there = get_or-set_other fs i (i + 1) (one_more (get_or fs i n)) n (omega arith) in
    let here = get_or-set_other fs (i + 1) i (one_more (get_or fs (i + 1) n)) n (omega arith) in
    let apart = set_comm fs i (i + 1) (one_more (get_or fs i n)) (one_more (get_or fs (i + 1) n)) (omega arith) in
    rw (here, ← apart) (rw there at (filled_more edge (i + 1) (one_more_at i fs) h))

-- two nodes as one, where each may lack an entry
pub joined_filled : {K V : Type 0} (edge : Bool) (first second new : Subtree K V) → new.parts ≡ first.parts ++ second.parts → new.fills ≡ first.fills ++ second.fills → 0 < length second.parts
    → IsFilled false (one_more (fill_of first)) → IsFilled edge (one_more (fill_of second)) → IsFilled edge (fill_of new)
joined_filled edge first second new parts fills some a b =
    filled_branch edge new (first.fills ++ second.fills) fills (filled_append edge first.fills second.fills a.below b.below)
    (λ off. let n = a.half refl in let m = b.half off in let e = ap length parts in omega (arith, length-append first.parts second.parts))
