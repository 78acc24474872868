-- Pending transfers in the order of their expiry.
use Rattle.std.proofs.Common.{◌≡◌, ◌≢◌, ℕ, ◌<◌, ◌≤◌, ◌⊎◌, List, [], ◌∷◌, Bool, true, false, ◌&&◌, ◌||◌, cond, fold, filter, refl, ap, sym, ◌∙◌, arith, inl, inr}
use Rattle.std.proofs.lemmas.Bool.{cases_lt, cond_both, or_left, or_right, or_parts, and_from, and_parts, lt-ltb, le-ltb, ltb-true, ltb-false, eqb-true, eq-eqb}
use Rattle.std.specs.Prelude.{◌==◌, nat_lt}
use Rattle.std.specs.List.{AllByRecursion}
use Rattle.tf_records.specs.declared.transfer.Transfer.{Transfer}
use Rattle.tf_journal.specs.Due.{by_expiry, expires_before, with_expiring}
use Rattle.tf_journal.specs.Verdict.{expires_at}

-- a transfer expires before another, and each has a timestamp of its own
pub record Precedes (first second : Transfer) : Type 0 where
  pub before : expires_before first second ≡ true
  pub differ : first.timestamp ≢ second.timestamp

-- each transfer precedes all those behind it
abbrev pub IsInOrder : List Transfer → Type 0
IsInOrder [] = Unit {0}
IsInOrder (first ∷ rest) = AllByRecursion (Precedes first) rest × IsInOrder rest

pub before_cases : (a b : Transfer) → expires_before a b ≡ true
    → (expires_at a < expires_at b) ⊎ ((expires_at a ≡ expires_at b) × (a.timestamp < b.timestamp))
before_cases a b is =
    elim (cases_lt (expires_at a) (expires_at b)) [
      | inl less ↦ inl less
      | inr other ↦
          let not_sooner : nat_lt (expires_at a) (expires_at b) ≡ false = le-ltb (expires_at a) (expires_at b) other in
          let rest : (expires_at a == expires_at b && nat_lt a.timestamp b.timestamp) ≡ true =
          sym (ap (λ x. x || (expires_at a == expires_at b && nat_lt a.timestamp b.timestamp)) not_sooner) ∙ is in
          let both = and_parts _ _ rest in
          inr (eqb-true _ _ both.0, ltb-true _ _ both.1)
    ]

before_from : (a b : Transfer) → (expires_at a < expires_at b) ⊎ ((expires_at a ≡ expires_at b) × (a.timestamp < b.timestamp))
    → expires_before a b ≡ true
before_from a b (inl less) = or_left _ _ (lt-ltb _ _ less)
before_from a b (inr same) = or_right _ _ (and_from _ _ (eq-eqb _ _ same.0) (lt-ltb _ _ same.1))

before_chain : (a b c : Transfer) → expires_before a b ≡ true → expires_before b c ≡ true → expires_before a c ≡ true
before_chain a b c ab bc = before_from a c (chain (before_cases a b ab) (before_cases b c bc))
  where
    chain : (expires_at a < expires_at b) ⊎ ((expires_at a ≡ expires_at b) × (a.timestamp < b.timestamp))
        → (expires_at b < expires_at c) ⊎ ((expires_at b ≡ expires_at c) × (b.timestamp < c.timestamp))
        → (expires_at a < expires_at c) ⊎ ((expires_at a ≡ expires_at c) × (a.timestamp < c.timestamp))
    chain (inl x) (inl y) = inl (omega arith)
    chain (inl x) (inr y) = inl (omega (arith, y.0))
    chain (inr x) (inl y) = inl (omega (arith, x.0))
    chain (inr x) (inr y) = inr (omega (arith, x.0, y.0), omega (arith, x.1, y.1))

-- of two transfers with timestamps of their own, one expires before the other
before_total : (a b : Transfer) → a.timestamp ≢ b.timestamp → expires_before a b ≡ false → expires_before b a ≡ true
before_total a b differ not_sooner = before_from b a (elim (cases_lt (expires_at b) (expires_at a)) [
  | inl less ↦ inl less
  | inr other ↦
      let parts = or_parts _ _ not_sooner in
      let le : expires_at b ≤ expires_at a = ltb-false _ _ parts.0 in
      let same : expires_at a ≡ expires_at b = omega arith in
      let tie : nat_lt a.timestamp b.timestamp ≡ false =
      sym (ap (λ x. x && nat_lt a.timestamp b.timestamp) (eq-eqb (expires_at a) (expires_at b) same)) ∙ parts.1 in
      let later = ltb-false _ _ tie in
      inr (sym same, omega arith)
])

precedes_chain : (a b c : Transfer) → Precedes a b → expires_before b c ≡ true → expires_before a c ≡ true
precedes_chain a b c ab bc = before_chain a b c ab.before bc

-- what holds of a transfer and of others holds of them all when it is put in its place
pub placed_all : (P : Transfer → Type 0) (rest : List Transfer) (t : Transfer) → P t → AllByRecursion P rest → AllByRecursion P (with_expiring rest t)
placed_all P [] t here all = (here, tt)
placed_all P (first ∷ rest) t here all =
    cond_both (expires_before t first) (t ∷ first ∷ rest) (first ∷ with_expiring rest t) (AllByRecursion P)
    (λ _. (here, all)) (λ _. (all.0, placed_all P rest t here all.1))

pub all_weaker : (P Q : Transfer → Type 0) → ((x : Transfer) → P x → Q x) → (rest : List Transfer) → AllByRecursion P rest → AllByRecursion Q rest
all_weaker P Q f [] all = tt
all_weaker P Q f (x ∷ rest) all = (f x all.0, all_weaker P Q f rest all.1)

pub all_both : (P Q R : Transfer → Type 0) → ((x : Transfer) → P x → Q x → R x) → (rest : List Transfer) → AllByRecursion P rest → AllByRecursion Q rest → AllByRecursion R rest
all_both P Q R f [] ps qs = tt
all_both P Q R f (x ∷ rest) ps qs = (f x ps.0 qs.0, all_both P Q R f rest ps.1 qs.1)

-- a transfer has a timestamp of its own among others
abbrev IsApart : Transfer → List Transfer → Type 0
IsApart t rest = AllByRecursion (λ x. x.timestamp ≢ t.timestamp) rest

-- a transfer that is put in its place keeps the order
placed_in_order : (rest : List Transfer) (t : Transfer) → IsInOrder rest → IsApart t rest → IsInOrder (with_expiring rest t)
placed_in_order [] t ordered apart = (tt, tt)
placed_in_order (first ∷ rest) t ordered apart =
    cond_both (expires_before t first) (t ∷ first ∷ rest) (first ∷ with_expiring rest t) IsInOrder
    (λ sooner.
    let front : Precedes t first = record { before = sooner; differ = λ e. apart.0 (sym e) } in
    let behind = all_both (Precedes first) (λ x. x.timestamp ≢ t.timestamp) (Precedes t)
    (λ x p q. record { before = before_chain t first x sooner p.before; differ = λ e. q (sym e) }) rest ordered.0 apart.1 in
    ((front, behind), ordered))
    (λ not_sooner.
    let ahead : Precedes first t = record { before = before_total t first (λ e. apart.0 (sym e)) not_sooner; differ = apart.0 } in
    (placed_all (Precedes first) rest t ahead ordered.0, placed_in_order rest t ordered.1 apart.1))

-- a transfer that expires before all others stands in front of them
placed_first : (rest : List Transfer) (t : Transfer) → AllByRecursion (λ x. expires_before t x ≡ true) rest → with_expiring rest t ≡ t ∷ rest
placed_first [] t all = refl
placed_first (first ∷ rest) t all = ap (λ b. cond b (t ∷ first ∷ rest) (first ∷ with_expiring rest t)) all.0

pub all_filtered : (P : Transfer → Type 0) (q : Transfer → Bool) (rest : List Transfer) → AllByRecursion P rest → AllByRecursion P (filter q rest)
all_filtered P q [] all = tt
all_filtered P q (x ∷ rest) all = cond_both (q x) (x ∷ filter q rest) (filter q rest) (AllByRecursion P) (λ _. (all.0, all_filtered P q rest all.1)) (λ _. all_filtered P q rest all.1)

-- a transfer that is kept has the same place among those that are kept
placed_kept : (q : Transfer → Bool) (rest : List Transfer) (t : Transfer) → IsInOrder rest → q t ≡ true
    → filter q (with_expiring rest t) ≡ with_expiring (filter q rest) t
placed_kept q [] t ordered kept = ap (λ b. cond b (t ∷ []) []) kept
placed_kept q (first ∷ rest) t ordered kept =
    let goal : List Transfer → Type 0 = λ placed. filter q placed ≡ with_expiring (filter q (first ∷ rest)) t in
    cond_both (expires_before t first) (t ∷ first ∷ rest) (first ∷ with_expiring rest t) goal
    (λ sooner.
    let behind = all_weaker (Precedes first) (λ x. expires_before t x ≡ true) (λ x p. before_chain t first x sooner p.before) rest ordered.0 in
    ap (λ b. cond b (t ∷ filter q (first ∷ rest)) (filter q (first ∷ rest))) kept
    ∙ sym (placed_first (filter q (first ∷ rest)) t (all_filtered (λ x. expires_before t x ≡ true) q (first ∷ rest) (sooner, behind))))
    (λ not_sooner.
    let more = placed_kept q rest t ordered.1 kept in
    let shape : Bool → Type 0 = λ b. cond b (first ∷ filter q (with_expiring rest t)) (filter q (with_expiring rest t)) ≡ with_expiring (cond b (first ∷ filter q rest) (filter q rest)) t in
    let cases : (b : Bool) → shape b
    = elim [ true ↦ ap (λ xs. first ∷ xs) more ∙ sym (ap (λ b. cond b (t ∷ first ∷ filter q rest) (first ∷ with_expiring (filter q rest) t)) not_sooner) | false ↦ more ] in
    cases (q first))

-- a transfer that isn't kept leaves no trace
placed_dropped : (q : Transfer → Bool) (rest : List Transfer) (t : Transfer) → q t ≡ false → filter q (with_expiring rest t) ≡ filter q rest
placed_dropped q [] t dropped = ap (λ b. cond b (t ∷ []) []) dropped
placed_dropped q (first ∷ rest) t dropped =
    let goal : List Transfer → Type 0 = λ placed. filter q placed ≡ filter q (first ∷ rest) in
    cond_both (expires_before t first) (t ∷ first ∷ rest) (first ∷ with_expiring rest t) goal
    (λ _. ap (λ b. cond b (t ∷ filter q (first ∷ rest)) (filter q (first ∷ rest))) dropped)
    (λ _. ap (λ xs. cond (q first) (first ∷ xs) xs) (placed_dropped q rest t dropped))

-- the timestamps of transfers rise from this one
abbrev pub IsRising : ℕ → List Transfer → Type 0
IsRising low [] = Unit {0}
IsRising low (t ∷ transfers) = (low < t.timestamp) × IsRising t.timestamp transfers

-- transfers in the order of their expiry, none of them later than this moment
record IsSorted (moment : ℕ) (transfers : List Transfer) : Type 0 where
  pub ordered : IsInOrder transfers
  pub earlier : AllByRecursion (λ t. t.timestamp ≤ moment) transfers

sorted_more : (moment : ℕ) (transfers : List Transfer) (t : Transfer) → IsSorted moment transfers → moment < t.timestamp → IsSorted t.timestamp (with_expiring transfers t)
sorted_more moment transfers t sorted later = record {
  ordered = placed_in_order transfers t sorted.ordered (all_weaker (λ x. x.timestamp ≤ moment) (λ x. x.timestamp ≢ t.timestamp) (λ x p. omega arith) transfers sorted.earlier);
  earlier = placed_all (λ x. x.timestamp ≤ t.timestamp) transfers t (omega arith) (all_weaker (λ x. x.timestamp ≤ moment) (λ x. x.timestamp ≤ t.timestamp) (λ x p. omega arith) transfers sorted.earlier);
}

-- transfers put in their places one after another
sorted_all : (moment : ℕ) (sorted transfers : List Transfer) → IsSorted moment sorted → IsRising moment transfers → IsInOrder (fold with_expiring sorted transfers)
sorted_all moment sorted [] is rising = is.ordered
sorted_all moment sorted (t ∷ transfers) is rising = sorted_all t.timestamp (with_expiring sorted t) transfers (sorted_more moment sorted t is rising.0) rising.1

filter_all : (moment : ℕ) (q : Transfer → Bool) (sorted transfers : List Transfer) → IsSorted moment sorted → IsRising moment transfers
    → filter q (fold with_expiring sorted transfers) ≡ fold with_expiring (filter q sorted) (filter q transfers)
filter_all moment q sorted [] is rising = refl
filter_all moment q sorted (t ∷ transfers) is rising =
    let more = filter_all t.timestamp q (with_expiring sorted t) transfers (sorted_more moment sorted t is rising.0) rising.1 in
    cond_both (q t) (t ∷ filter q transfers) (filter q transfers) (λ xs. filter q (fold with_expiring (with_expiring sorted t) transfers) ≡ fold with_expiring (filter q sorted) xs)
    (λ kept. more ∙ ap (λ xs. fold with_expiring xs (filter q transfers)) (placed_kept q sorted t is.ordered kept))
    (λ dropped. more ∙ ap (λ xs. fold with_expiring xs (filter q transfers)) (placed_dropped q sorted t dropped))

nothing_sorted : IsSorted 0 []
nothing_sorted = record { ordered = tt; earlier = tt }

-- by expiry, each of transfers whose timestamps rise precedes all those behind it
pub by_expiry_ordered : (transfers : List Transfer) → IsRising 0 transfers → IsInOrder (by_expiry transfers)
by_expiry_ordered transfers rising = sorted_all 0 [] transfers nothing_sorted rising

-- those that are kept stand in the same order
pub by_expiry_filter : (q : Transfer → Bool) (transfers : List Transfer) → IsRising 0 transfers → filter q (by_expiry transfers) ≡ by_expiry (filter q transfers)
by_expiry_filter q transfers rising = filter_all 0 q [] transfers nothing_sorted rising

-- what holds of transfers holds of them in the order of their expiry
all_placed : (P : Transfer → Type 0) (sorted transfers : List Transfer) → AllByRecursion P sorted → AllByRecursion P transfers → AllByRecursion P (fold with_expiring sorted transfers)
all_placed P sorted [] all more = all
all_placed P sorted (t ∷ transfers) all more = all_placed P (with_expiring sorted t) transfers (placed_all P sorted t more.0 all) more.1

pub by_expiry_all : (P : Transfer → Type 0) (transfers : List Transfer) → AllByRecursion P transfers → AllByRecursion P (by_expiry transfers)
by_expiry_all P transfers all = all_placed P [] transfers tt all
