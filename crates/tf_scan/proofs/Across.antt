-- Steps of all places of a prefix together.
use Rattle.std.proofs.Common.{◌≡◌, ℕ, zero, ◌+◌, ◌<◌, ◌≤◌, List, [], ◌∷◌, ◌++◌, Option, Some, None, Bool, true, false, not, cond, ◌⊎◌, inl, inr, refl, sym, ◌∙◌, ap, subst, arith, length, get_or, sum_by}
use Rattle.std.specs.Prelude.{suc, nat_eq, is_some, take}
use Rattle.std.specs.List.{AllByRecursion, AllZip}
use Rattle.std.specs.Option.{option_map, option_copied, option_flatten}
use Rattle.std.proofs.lemmas.List.{append-nil, take_all, take_more}
use Rattle.std.proofs.lemmas.List.Sums.{sum_by-cons}
use Rattle.std.proofs.lemmas.Slice.Zip.{AllZip-long}
use Rattle.std.proofs.Math.ListN.{drop_of_length-le}
use Rattle.std.specs.List.{refill}
use denote.Ref.{Bor}
use Rattle.tf_table.specs.declared.key.Key.{Key}
use Rattle.tf_table.specs.Content.{entry_at, entry_of, first_some}
use Rattle.tf_table.proofs.Determined.{bool_cases, first_some-none}
use Rattle.tf_registry.specs.Row.{lists_of}
use Rattle.tf_manifest.specs.Rows.{key_of}
use Rattle.tf_registry.specs.Table.{Shown}
use Rattle.tf_scan.specs.declared.direction.Direction.{Direction}
use Rattle.tf_scan.specs.declared.place.Place.{Place}
use Rattle.tf_scan.specs.Order.{is_before, those_from}
use Rattle.tf_scan.specs.Prefix.{has_timestamp, prefix_of}
use Rattle.tf_scan.specs.Place.{rows_left, lists_left, nearest_in, nearest_of, nearer, is_past, IsFrom, IsPlace, Keeps, steps_left, Takes, Seeks}
use Rattle.tf_scan.proofs.Order.{before-self, before-trans, before-past, not-before-trans}
use Rattle.tf_scan.proofs.Members.{false_true}
use Rattle.tf_scan.proofs.Prefixes.{none-prefix, seek-prefix, pass-prefix, first-prefix}
use Rattle.tf_scan.proofs.Walked.{IsWalked, walked-next}
use Rattle.tf_scan.proofs.Taking.{place-first}

-- what holds of each element holds of the one at a place
pub each-at : {X : Type 0} (P : X → Type 0) (xs : List X) (i : ℕ) (x : X) → AllByRecursion P xs → i < length xs → get_or xs i x ≡ x → P x
each-at P [] i x h l e = absurd (omega arith)
each-at P (y ∷ ys) zero x h l e = subst P e h.0
each-at P (y ∷ ys) (suc i) x h l e = each-at P ys i x h.1 (omega arith) e

first_some-assoc : {X : Type 0} (x y z : Option X) → first_some x (first_some y z) ≡ first_some (first_some x y) z
first_some-assoc (Some x) y z = refl
first_some-assoc None y z = refl

module _ (d : Direction) where
  pub nearer-past : (u : ℕ) (a b : Option ℕ) → is_past d u (nearer d a b) ≡ true → (is_past d u a ≡ true) × (is_past d u b ≡ true)
  nearer-past u None b e = (refl, e)
  nearer-past u (Some x) None e = (e, refl)
  nearer-past u (Some x) (Some y) e = step (is_before d y x) refl e
    where
      step : (c : Bool) → is_before d y x ≡ c → is_past d u (cond c (Some y) (Some x)) ≡ true → (is_before d u x ≡ true) × (is_before d u y ≡ true)
      step true i k = (before-trans d u y x k i, k)
      step false i k = (k, before-past d u y x k i)

  nearer-from : (t : ℕ) (a b : Option ℕ) → IsFrom d t (nearer d a b) → IsFrom d t a × IsFrom d t b
  nearer-from t None b e = (tt, e)
  nearer-from t (Some x) None e = (e, tt)
  nearer-from t (Some x) (Some y) e = step (is_before d y x) refl e
    where
      step : (c : Bool) → is_before d y x ≡ c → IsFrom d t (cond c (Some y) (Some x)) → (is_before d x t ≡ false) × (is_before d y t ≡ false)
      step true i k = (bool_cases (is_before d x t) (λ b. false_true (sym k ∙ before-trans d y x t i b)) (λ b. b), k)
      step false i k = (k, not-before-trans d y x t i k)

  nearer-one : (t : ℕ) (a b : Option ℕ) → nearer d a b ≡ Some t → (a ≡ Some t) ⊎ (b ≡ Some t)
  nearer-one t None b e = inr e
  nearer-one t (Some x) None e = inl e
  nearer-one t (Some x) (Some y) e = step (is_before d y x) e
    where
      step : (c : Bool) → cond c (Some y) (Some x) ≡ Some t → (Some x ≡ Some t) ⊎ (Some y ≡ Some t)
      step true k = inr k
      step false k = inl k

module _ {V A : Type 0} (d : Direction) (v : ℕ) where
  -- no row comes before the nearest timestamp of all
  pub first-all : (ps : List (Place V A)) → AllByRecursion (IsPlace d v) ps → (u : ℕ) → is_past d u (nearest_of d ps) ≡ true → entry_of (key_of v u) (lists_left d v ps) ≡ None
  first-all [] h u e = refl
  first-all (p ∷ ps) h u e =
      let k = nearer-past d u (nearest_in d p) (nearest_of d ps) e in
      ap (λ x. first_some x (entry_of (key_of v u) (lists_left d v ps))) (place-first d v p h.0 u k.0) ∙ first-all ps h.1 u k.1

  from-each : (t : ℕ) (ps : List (Place V A)) → IsFrom d t (nearest_of d ps) → AllByRecursion (λ p. IsFrom d t (nearest_in d p)) ps
  from-each t [] e = tt
  from-each t (p ∷ ps) e = let k = nearer-from d t (nearest_in d p) (nearest_of d ps) e in (k.0, from-each t ps k.1)

  -- no nearest timestamp comes before the nearest of all
  pub from-all : (t : ℕ) (ps : List (Place V A)) → Some t ≡ nearest_of d ps → AllByRecursion (λ p. IsFrom d t (nearest_in d p)) ps
  from-all t ps e = from-each t ps (subst (IsFrom d t) e (before-self d t))

  -- where each place keeps entries, all together do
  keeps-all : (stays : ℕ → Bool) (R : Place V A → Place V A → Type 0) → ((o n : Place V A) → R o n → Keeps v stays (rows_left d v o) (rows_left d v n)) → (old new : List (Place V A)) → AllZip R old new
      → (u : ℕ) → entry_of (key_of v u) (lists_left d v new) ≡ cond (stays u) (entry_of (key_of v u) (lists_left d v old)) None
  keeps-all stays R f [] [] h u = either (stays u) None
    where
      either : (b : Bool) (x : Option (Option V)) → x ≡ cond b x x
      either true x = refl
      either false x = refl
  keeps-all stays R f [] (n ∷ new) h u = absurd h
  keeps-all stays R f (o ∷ old) [] h u = absurd h
  keeps-all stays R f (o ∷ old) (n ∷ new) h u =
      ap (λ x. first_some x (entry_of (key_of v u) (lists_left d v new))) (f o n h.0 u)
      ∙ ap (first_some (cond (stays u) (entry_at (key_of v u) (rows_left d v o)) None)) (keeps-all stays R f old new h.1 u)
      ∙ both-kept (stays u) (entry_at (key_of v u) (rows_left d v o)) (entry_of (key_of v u) (lists_left d v old))
    where
      both-kept : (b : Bool) (x y : Option (Option V)) → first_some (cond b x None) (cond b y None) ≡ cond b (first_some x y) None
      both-kept true x y = refl
      both-kept false x y = refl

  right-each : (R : Place V A → Place V A → Type 0) → ((o n : Place V A) → R o n → IsPlace d v n) → (old new : List (Place V A)) → AllZip R old new → AllByRecursion (IsPlace d v) new
  right-each R f [] [] h = tt
  right-each R f [] (n ∷ new) h = absurd h
  right-each R f (o ∷ old) [] h = absurd h
  right-each R f (o ∷ old) (n ∷ new) h = (f o n h.0, right-each R f old new h.1)

  module _ (t : ℕ) (old new : List (Place V A)) where
    pub takes-right : AllZip (Takes d v t) old new → AllByRecursion (IsPlace d v) new
    takes-right h = right-each (Takes d v t) (λ o n k. k.right) old new h

    pub seeks-right : AllZip (Seeks d v t) old new → AllByRecursion (IsPlace d v) new
    seeks-right h = right-each (Seeks d v t) (λ o n k. k.right) old new h

    pub takes-keep : AllZip (Takes d v t) old new → (u : ℕ) → entry_of (key_of v u) (lists_left d v new) ≡ cond (not (nat_eq u t)) (entry_of (key_of v u) (lists_left d v old)) None
    takes-keep h = keeps-all (λ u. not (nat_eq u t)) (Takes d v t) (λ o n k. k.others) old new h

    pub seeks-keep : AllZip (Seeks d v t) old new → (u : ℕ) → entry_of (key_of v u) (lists_left d v new) ≡ cond (not (is_before d u t)) (entry_of (key_of v u) (lists_left d v old)) None
    seeks-keep h = keeps-all (λ u. not (is_before d u t)) (Seeks d v t) (λ o n k. k.others) old new h

  takes-steps : (t : ℕ) (old new : List (Place V A)) → AllZip (Takes d v t) old new → sum_by (steps_left d v) new ≤ sum_by (steps_left d v) old
  takes-steps t [] [] h = omega arith
  takes-steps t [] (n ∷ new) h = absurd h
  takes-steps t (o ∷ old) [] h = absurd h
  takes-steps t (o ∷ old) (n ∷ new) h =
      let i = takes-steps t old new h.1 in
      let k = h.0.steps in
      omega (arith, sum_by-cons (steps_left d v) o old, sum_by-cons (steps_left d v) n new)

  -- a step is done where the timestamp is the nearest of all
  pub takes-fewer : (t : ℕ) (old new : List (Place V A)) → AllZip (Takes d v t) old new → Some t ≡ nearest_of d old → sum_by (steps_left d v) new < sum_by (steps_left d v) old
  takes-fewer t [] new h e = absurd (let k : Some t ≡ None = e in cc)
  takes-fewer t (o ∷ old) [] h e = absurd h
  takes-fewer t (o ∷ old) (n ∷ new) h e =
      let ol = sum_by-cons (steps_left d v) o old in
      let nl = sum_by-cons (steps_left d v) n new in
      elim (nearer-one d t (nearest_in d o) (nearest_of d old) (sym e)) [
        | inl k ↦ let i = takes-steps t old new h.1 in let l = h.0.fewer k in omega arith
        | inr k ↦ let i = takes-fewer t old new h.1 (sym k) in let l = h.0.steps in omega arith
      ]

module _ {V A : Type 0} (d : Direction) (v : ℕ) where
  -- one more place
  pub entry_of-push : (u : ℕ) (ps : List (Place V A)) (p : Place V A) → entry_of (key_of v u) (lists_left d v (ps ++ p ∷ [])) ≡ first_some (entry_of (key_of v u) (lists_left d v ps)) (entry_at (key_of v u) (rows_left d v p))
  entry_of-push u [] p = first_some-none (entry_at (key_of v u) (rows_left d v p))
  entry_of-push u (q ∷ ps) p =
      ap (first_some (entry_at (key_of v u) (rows_left d v q))) (entry_of-push u ps p)
      ∙ first_some-assoc (entry_at (key_of v u) (rows_left d v q)) (entry_of (key_of v u) (lists_left d v ps)) (entry_at (key_of v u) (rows_left d v p))

-- whether an entry by reference is a value
is_live : {V : Type 0} (r : Option (Option (Bor V))) → is_some (option_flatten (option_map option_copied r)) ≡ is_some (option_flatten r)
is_live None = refl
is_live (Some None) = refl
is_live (Some (Some x)) = refl

-- what was written back whole
pub refilled : {X : Type 0} (xs ws : List X) → length ws ≡ length xs → refill (length xs) xs ws ≡ ws
refilled xs ws e =
    ap (λ ys. take (length xs) (ws ++ ys)) (drop_of_length-le xs {i = length ws} (omega (arith, e))) ∙ ap (take (length xs)) (append-nil ws) ∙ take_all (length xs) ws (omega (arith, e))

module _ {V A : Type 0} (d : Direction) (v : ℕ) where
  -- at the end of all places nothing is left
  pub end-prefix : (ps : List (Place V A)) → AllByRecursion (IsPlace d v) ps → None ≡ nearest_of d ps → prefix_of d v (lists_left d v ps) ≡ []
  end-prefix ps h e = none-prefix d v (lists_left d v ps) (λ u. first-all d v ps h u (ap (is_past d u) (sym e)))

  module _ (t : ℕ) (old new : List (Place V A)) (taken : AllZip (Takes d v t) old new) where
    -- the nearest timestamp with a value is the first
    pub taken-first : AllByRecursion (IsPlace d v) old → Some t ≡ nearest_of d old → has_timestamp v (lists_left d v old) t ≡ true → prefix_of d v (lists_left d v old) ≡ t ∷ prefix_of d v (lists_left d v new)
    taken-first h e = first-prefix d v t (lists_left d v old) (lists_left d v new) (takes-keep d v t old new taken) (λ u b. first-all d v old h u (subst (λ x. is_past d u x ≡ true) e b))

    -- a tombstone there leaves all as it is
    pub taken-pass : has_timestamp v (lists_left d v old) t ≡ false → prefix_of d v (lists_left d v new) ≡ prefix_of d v (lists_left d v old)
    taken-pass = pass-prefix d v t (lists_left d v old) (lists_left d v new) (takes-keep d v t old new taken)

  pub sought : (t : ℕ) (old new : List (Place V A)) → AllZip (Seeks d v t) old new → prefix_of d v (lists_left d v new) ≡ those_from d t (prefix_of d v (lists_left d v old))
  sought t old new h = seek-prefix d v t (lists_left d v old) (lists_left d v new) (seeks-keep d v t old new h)

  pub seeks-long : (t : ℕ) (old new : List (Place V A)) → AllZip (Seeks d v t) old new → length new ≡ length old
  seeks-long t old new h = AllZip-long (Seeks d v t) old new h

-- the entry of the newest table that has one, with one more table
pub newest-more : {V : Type 0} (newest entry next : Option (Option (Bor V))) (b : Bool) → is_some newest ≡ not b → next ≡ cond b entry newest → option_map option_copied next ≡ first_some (option_map option_copied newest) (option_map option_copied entry)
newest-more None entry next true e f = ap (option_map option_copied) f
newest-more None entry next false e f = false_true e
newest-more (Some x) entry next true e f = false_true (sym e)
newest-more (Some x) entry next false e f = ap (option_map option_copied) f

module _ {V A : Type 0} (d : Direction) (v t : ℕ) (old now : List (Place V A)) (count : ℕ) (p : Place V A) (walked : IsWalked (Takes d v t) count old now) (inside : count < length now) (is : p ≡ get_or now count p) where
  pub entry-more : (newest entry next : Option (Option (Bor V))) (b : Bool) → is_some newest ≡ not b → next ≡ cond b entry newest
      → option_map option_copied newest ≡ entry_of (key_of v t) (lists_left d v (take count old)) → option_map option_copied entry ≡ entry_at (key_of v t) (rows_left d v p)
      → option_map option_copied next ≡ entry_of (key_of v t) (lists_left d v (take (count + 1) old))
  entry-more newest entry next b e f so here =
      let there = walked-next (Takes d v t) count old now p walked inside is in
      newest-more newest entry next b e f
      ∙ ap (λ x. first_some x (option_map option_copied entry)) so
      ∙ ap (first_some (entry_of (key_of v t) (lists_left d v (take count old)))) here
      ∙ sym (entry_of-push d v t (take count old) p)
      ∙ ap (λ q. entry_of (key_of v t) (lists_left d v (take count old ++ q ∷ []))) (sym there.1)
      ∙ ap (λ ps. entry_of (key_of v t) (lists_left d v ps)) (sym (take_more old count p there.0))

  -- the next place is as it was at first
  pub place-there : (P : Place V A → Type 0) → AllByRecursion P old → P p
  place-there P h = let there = walked-next (Takes d v t) count old now p walked inside is in each-at P old count p h there.0 there.1

-- whether the prefix has the timestamp is whether its entry is a value
pub has-entry : {V A : Type 0} (d : Direction) (v t : ℕ) (ps : List (Place V A)) (r : Option (Option (Bor V))) (f : Option (Bor V)) (b : Bool) → option_map option_copied r ≡ entry_of (key_of v t) (lists_left d v ps) → f ≡ option_flatten r → b ≡ is_some f → has_timestamp v (lists_left d v ps) t ≡ b
has-entry d v t ps r f b e g h = ap (λ x. is_some (option_flatten x)) (sym e) ∙ is_live r ∙ ap is_some (sym g) ∙ sym h

pub each-push : {X : Type 0} (P : X → Type 0) (xs : List X) (x : X) → AllByRecursion P xs → P x → AllByRecursion P (xs ++ x ∷ [])
each-push P [] x h p = (p, tt)
each-push P (y ∷ ys) x h p = (h.0, each-push P ys x h.1 p)

-- one more table of a row
pub shown-push : {V : Type 0} (key : Key) (xs : List (Shown V)) (x : Shown V) → entry_of key (lists_of (xs ++ x ∷ [])) ≡ first_some (entry_of key (lists_of xs)) (entry_at key x.table.rows)
shown-push key [] x = first_some-none (entry_at key x.table.rows)
shown-push key (y ∷ xs) x =
    ap (first_some (entry_at key y.table.rows)) (shown-push key xs x)
    ∙ first_some-assoc (entry_at key y.table.rows) (entry_of key (lists_of xs)) (entry_at key x.table.rows)
