-- All seats of a queue, added up one after another.
use Rattle.std.proofs.Common.{◌≡◌, ℕ, ◌+◌, ◌-◌, ◌<◌, ◌≤◌, ◌^◌, List, [], ◌∷◌, ◌++◌, length, length-append, min, flat_map, sym, refl, ap, ◌∙◌, sum_by, arith}
use Rattle.std.proofs.lemmas.List.Sums.{sum_by-append}
use Rattle.std.proofs.lemmas.List.{flat_map_more}
use Rattle.tf_jobs.specs.declared.known.Known.{Known}
use Rattle.tf_jobs.specs.Jobs.{IsBalanced, SeatView, all_offered, all_taken, capped}
use Rattle.tf_jobs.specs.Reckon.{IsSoFar}
use Rattle.tf_jobs.specs.Rule.{known}

weighed : {X A : Type 0} (f : X → List A) (h : A → ℕ) (xs : List X) (x : X) → sum_by h (flat_map f (xs ++ x ∷ [])) ≡ sum_by h (flat_map f xs) + sum_by h (f x)
weighed f h xs x = ap (sum_by h) (sym (flat_map_more f [] xs x)) ∙ sum_by-append h (flat_map f xs) (f x)

counted : {X A : Type 0} (f : X → List A) (xs : List X) (x : X) → length (flat_map f (xs ++ x ∷ [])) ≡ length (flat_map f xs) + length (f x)
counted f xs x = ap length (sym (flat_map_more f [] xs x)) ∙ length-append (flat_map f xs) (f x)

module _ {T : Type 0} where
  abbrev offered_by : SeatView T → List T
  offered_by s = s.offered

  abbrev taken_by : SeatView T → List T
  taken_by s = s.taken

  -- the last seat alone
  pub first_seat : (all rest : List (SeatView T)) (s : SeatView T) (v : Known T) (o t : ℕ) → all ≡ rest ++ s ∷ [] → v.parts ≡ 1 → v.whole ≡ length all
      → s.offered ≡ v.offered → s.taken ≡ v.taken → o ≡ capped (length v.offered) → t ≡ capped (length v.taken) → IsSoFar all rest v o t
  first_seat all rest s v o t is part whole offered taken offers takes = record {
    some = omega arith;
    parts = omega (arith, part, ap length is, length-append rest (s ∷ []));
    whole = whole;
    put = λ h. omega (arith, ap (λ (l : List (SeatView T)). sum_by h (all_offered l)) is, weighed offered_by h rest s, ap (sum_by h) offered);
    taken = λ h. omega (arith, ap (λ (l : List (SeatView T)). sum_by h (all_taken l)) is, weighed taken_by h rest s, ap (sum_by h) taken);
    put_count = omega (arith, ap (λ (l : List (SeatView T)). length (all_offered l)) is, counted offered_by rest s, ap length offered);
    taken_count = omega (arith, ap (λ (l : List (SeatView T)). length (all_taken l)) is, counted taken_by rest s, ap length taken);
    offers_is = offers;
    takes_is = takes;
  }

  -- one seat more
  pub next_seat : (all before rest : List (SeatView T)) (s : SeatView T) (v w : Known T) (o t p q o' t' : ℕ) → before ≡ rest ++ s ∷ [] → IsSoFar all before v o t
      → w.parts ≡ 1 → s.offered ≡ w.offered → s.taken ≡ w.taken → p ≡ capped (length w.offered) → q ≡ capped (length w.taken)
      → o' ≡ min (o + p) (2 ^ 64 - 1) → t' ≡ min (t + q) (2 ^ 64 - 1)
      → IsSoFar all rest (known (v.parts + w.parts) v.whole (v.offered ++ w.offered) (v.taken ++ w.taken)) o' t'
  next_seat all before rest s v w o t p q o' t' is far part offered taken p-is q-is offers takes = record {
    some = let p = far.some in omega arith;
    parts = omega (arith, far.parts, part, ap length is, length-append rest (s ∷ []));
    whole = far.whole;
    put = λ h. omega (arith, far.put h, ap (λ (l : List (SeatView T)). sum_by h (all_offered l)) is, weighed offered_by h rest s, sum_by-append h v.offered w.offered, ap (sum_by h) offered);
    taken = λ h. omega (arith, far.taken h, ap (λ (l : List (SeatView T)). sum_by h (all_taken l)) is, weighed taken_by h rest s, sum_by-append h v.taken w.taken, ap (sum_by h) taken);
    put_count = omega (arith, far.put_count, ap (λ (l : List (SeatView T)). length (all_offered l)) is, counted offered_by rest s, length-append v.offered w.offered, ap length offered);
    taken_count = omega (arith, far.taken_count, ap (λ (l : List (SeatView T)). length (all_taken l)) is, counted taken_by rest s, length-append v.taken w.taken, ap length taken);
    offers_is = omega (arith, offers, far.offers_is, p-is, length-append v.offered w.offered);
    takes_is = omega (arith, takes, far.takes_is, q-is, length-append v.taken w.taken);
  }

  -- all seats
  pub all_seats : (all left : List (SeatView T)) (v : Known T) (o t : ℕ) (items : List T) → left ≡ [] → IsSoFar all left v o t → IsBalanced v.offered v.taken items → IsBalanced (all_offered all) (all_taken all) items
  all_seats all left v o t items none far balanced h =
      let p = far.put h in
      let q = far.taken h in
      let b = balanced h in
      let x = ap (λ (l : List (SeatView T)). sum_by h (all_offered l)) none in
      let y = ap (λ (l : List (SeatView T)). sum_by h (all_taken l)) none in
      omega arith
