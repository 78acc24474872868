-- Each step of a queue of jobs keeps its rule.
use Rattle.std.proofs.Common.{◌≡◌, ◌≢◌, ℕ, zero, suc, ◌+◌, ◌-◌, ◌<◌, ◌≤◌, List, [], ◌∷◌, ◌++◌, length, set, sym, refl, ap, ◌∙◌, subst, ⊎_elim, sum_by, arith}
use Rattle.std.proofs.lemmas.List.Sums.{sum_by-append, sum_by_push}
use mathlib.Core.Option.{some, some-injective, some-ne-none}
use lib.ListN.{get_elem?}
use Rattle.crossbeam_queue.specs.Fifo.{Pushes, Pops, Forks, Merges, Learns}
use Rattle.crossbeam_queue.proofs.Lists.{at_set, at_snoc, set_else}
use Rattle.tf_jobs.specs.declared.known.Known.{Known}
use Rattle.tf_jobs.specs.Rule.{known, total, Fits, IsFair, IsAllowed}
use Rattle.tf_jobs.specs.Jobs.{IsBalanced}

-- the total after a change of one view
total_set : {X : Type 0} (f : X → ℕ) (xs : List X) (i : ℕ) (v w : X) → get_elem? xs i ≡ some v → total f (set xs i w) + f v ≡ total f xs + f w
total_set f [] i v w at = absurd (some-ne-none v (sym at))
total_set f (x ∷ xs) zero v w at = omega (arith, ap f (some-injective x v at))
total_set f (x ∷ xs) (suc i) v w at = omega (arith, total_set f xs i v w at)

total_snoc : {X : Type 0} (f : X → ℕ) (xs : List X) (y : X) → total f (xs ++ y ∷ []) ≡ total f xs + f y
total_snoc f [] y = omega arith
total_snoc f (x ∷ xs) y = omega (arith, total_snoc f xs y)

-- one view counts at most as much as all
total_least : {X : Type 0} (f : X → ℕ) (xs : List X) (i : ℕ) (v : X) → get_elem? xs i ≡ some v → f v ≤ total f xs
total_least f [] i v at = absurd (some-ne-none v (sym at))
total_least f (x ∷ xs) zero v at = omega (arith, ap f (some-injective x v at))
total_least f (x ∷ xs) (suc i) v at = omega (arith, total_least f xs i v at)

module _ {T : Type 0} where
  abbrev parts_of : Known T → ℕ
  parts_of v = v.parts

  abbrev Each : (Known T → Type 0) → List (Known T) → Type 0
  Each F views = (port : ℕ) (v : Known T) → get_elem? views port ≡ some v → F v

  -- what counts nothing without parts counts nothing where there are no parts
  total_none : (f : Known T → ℕ) (views : List (Known T)) → Each (λ u. u.parts ≡ 0 → f u ≡ 0) views → total parts_of views ≡ 0 → total f views ≡ 0
  total_none f [] idle none = refl
  total_none f (x ∷ xs) idle none = omega (arith, idle zero x refl (omega arith), total_none f xs (λ j u at. idle (suc j) u at) (omega arith))

  -- and else is counted by the one pass that has all parts
  total_only : (f : Known T → ℕ) (views : List (Known T)) (port : ℕ) (v : Known T) → get_elem? views port ≡ some v → Each (λ u. u.parts ≡ 0 → f u ≡ 0) views → total parts_of views ≡ v.parts → total f views ≡ f v
  total_only f [] port v at idle all = absurd (some-ne-none v (sym at))
  total_only f (x ∷ xs) zero v at idle all =
      let e : x ≡ v = some-injective x v at in
      let p : x.parts ≡ v.parts = ap parts_of e in
      omega (arith, ap f e, total_none f xs (λ j u at'. idle (suc j) u at') (omega arith))
  total_only f (x ∷ xs) (suc port) v at idle all =
      let least : v.parts ≤ total parts_of xs = total_least parts_of xs port v at in
      let none : x.parts ≡ 0 = omega arith in
      omega (arith, idle zero x refl none, total_only f xs port v at (λ j u at'. idle (suc j) u at') (omega arith))

  -- beside a pass that has all parts no other has one
  others_none : (views : List (Known T)) (port : ℕ) (v : Known T) → get_elem? views port ≡ some v → total parts_of views ≡ v.parts → (j : ℕ) (u : Known T) → j ≢ port → get_elem? views j ≡ some u → u.parts ≡ 0
  others_none views port v at all j u apart at' =
      let idle : Known T = known 0 0 [] [] in
      let s = total_set parts_of views port v idle at in
      let least = total_least parts_of (set views port idle) j u (set_else views port j idle apart ∙ at') in
      omega arith

  -- one view is changed, and fits
  fits_set : (F : Known T → Type 0) (views : List (Known T)) (port : ℕ) (w : Known T) → F w → ((j : ℕ) (u : Known T) → j ≢ port → get_elem? views j ≡ some u → F u) → Each F (set views port w)
  fits_set F views port w mine others j u at = ⊎_elim (λ (x : (j ≡ port) × (w ≡ u)). subst F x.1 mine) (λ (x : (j ≢ port) × (get_elem? views j ≡ some u)). others j u x.0 x.1) (at_set views port j w u at)

  -- one view more, which fits
  fits_snoc : (F : Known T → Type 0) (views : List (Known T)) (w : Known T) → Each F views → F w → Each F (views ++ w ∷ [])
  fits_snoc F views w others mine j u at = ⊎_elim (λ x. others j u x) (λ (x : w ≡ u). subst F x mine) (at_snoc views w u j at)

  fits_whole : (n : ℕ) (v : Known T) (parts : ℕ) (put taken : List T) → 0 < v.parts → 0 < parts → Fits n v → Fits n (known parts v.whole put taken)
  fits_whole n v parts put taken some_part more fits = ((λ none. absurd (omega arith)), λ _. fits.1 some_part)

  fits_at : (m n : ℕ) → n ≡ m → (views : List (Known T)) → Each (Fits n) views → Each (Fits m) views
  fits_at m n e views fits j u at = subst (λ k. Fits k u) e (fits j u at)

  pub begins : IsFair {T = T} [] (known 1 1 [] [] ∷ [])
  begins = ((λ h. refl), λ port v at. fits_snoc (Fits 1) [] (known 1 1 [] []) (λ j u none. absurd (some-ne-none u (sym none))) ((λ none. absurd (omega arith)), λ _. refl) port v at)

  pub allowed : (port : ℕ) (v : Known T) → Learns IsFair port v IsAllowed
  allowed port v items views b at = (views, b)

  pub puts : (n port : ℕ) (v : Known T) (x : T) → 0 < v.parts → Pushes IsFair n port v x (λ w. w ≡ known v.parts v.whole (v.offered ++ x ∷ []) v.taken)
  puts n port v x some_part items views room b at =
      let w : Known T = known v.parts v.whole (v.offered ++ x ∷ []) v.taken in
      let p = total_set parts_of views port v w at in
      let same : total parts_of views ≡ total parts_of (set views port w) = omega arith in (
        w,
        (
          (λ h.
              let s = total_set (λ u. sum_by h u.offered) views port v w at in
              let t = total_set (λ u. sum_by h u.taken) views port v w at in
              let q = b.0 h in
              omega (arith, sum_by_push h v.offered x, sum_by_push h items x)),
          fits_at _ _ same (set views port w) (fits_set (Fits (total parts_of views)) views port w (fits_whole _ v v.parts _ _ some_part some_part (b.1 port v at)) (λ j u _ e. b.1 j u e)),
        ),
        refl,
      )

  pub takes : (port : ℕ) (v : Known T) → 0 < v.parts → Pops IsFair port v (λ x w. w ≡ known v.parts v.whole v.offered (v.taken ++ x ∷ []))
  takes port v some_part x items views b at =
      let w : Known T = known v.parts v.whole v.offered (v.taken ++ x ∷ []) in
      let p = total_set parts_of views port v w at in
      let same : total parts_of views ≡ total parts_of (set views port w) = omega arith in (
        w,
        (
          (λ h.
              let s = total_set (λ u. sum_by h u.offered) views port v w at in
              let t = total_set (λ u. sum_by h u.taken) views port v w at in
              let q = b.0 h in
              omega (arith, sum_by_push h v.taken x, sum_by-append h (x ∷ []) items)),
          fits_at _ _ same (set views port w) (fits_set (Fits (total parts_of views)) views port w (fits_whole _ v v.parts _ _ some_part some_part (b.1 port v at)) (λ j u _ e. b.1 j u e)),
        ),
        refl,
      )

  pub grows : (port : ℕ) (v : Known T) → 0 < v.parts → v.parts ≡ v.whole → Forks IsFair port v (known (v.parts + 1) (v.whole + 1) v.offered v.taken) (known 0 0 [] [])
  grows port v some_part all items views b at =
      let l : Known T = known (v.parts + 1) (v.whole + 1) v.offered v.taken in
      let r : Known T = known 0 0 [] [] in
      let vs : List (Known T) = set views port l in
      let p = total_set parts_of views port v l at in
      let whole : v.whole ≡ total parts_of views = (b.1 port v at).1 some_part in
      let sum : total parts_of (vs ++ r ∷ []) ≡ total parts_of views + 1 = omega (arith, total_snoc parts_of vs r) in (
        (λ h.
            let s = total_set (λ u. sum_by h u.offered) views port v l at in
            let t = total_set (λ u. sum_by h u.taken) views port v l at in
            let q = b.0 h in
            omega (arith, total_snoc (λ u. sum_by h u.offered) vs r, total_snoc (λ u. sum_by h u.taken) vs r)),
        fits_at _ _ (sym sum) (vs ++ r ∷ []) (fits_snoc (Fits (total parts_of views + 1)) vs r
            (fits_set (Fits (total parts_of views + 1)) views port l ((λ none. absurd (omega arith)), λ _. omega arith)
            (λ j u apart e. let none = others_none views port v at (omega arith) j u apart e in ((b.1 j u e).0, λ some. absurd (omega arith))))
            ((λ _. (refl, refl)), λ some. absurd (omega arith))),
      )

  pub cuts : (port : ℕ) (v : Known T) → 1 < v.parts → Forks IsFair port v (known (v.parts - 1) v.whole v.offered v.taken) (known 1 v.whole [] [])
  cuts port v more items views b at =
      let l : Known T = known (v.parts - 1) v.whole v.offered v.taken in
      let r : Known T = known 1 v.whole [] [] in
      let vs : List (Known T) = set views port l in
      let p = total_set parts_of views port v l at in
      let whole : v.whole ≡ total parts_of views = (b.1 port v at).1 (omega arith) in
      let sum : total parts_of (vs ++ r ∷ []) ≡ total parts_of views = omega (arith, total_snoc parts_of vs r) in (
        (λ h.
            let s = total_set (λ u. sum_by h u.offered) views port v l at in
            let t = total_set (λ u. sum_by h u.taken) views port v l at in
            let q = b.0 h in
            omega (arith, total_snoc (λ u. sum_by h u.offered) vs r, total_snoc (λ u. sum_by h u.taken) vs r)),
        fits_at _ _ (sym sum) (vs ++ r ∷ []) (fits_snoc (Fits (total parts_of views)) vs r
            (fits_set (Fits (total parts_of views)) views port l ((λ none. absurd (omega arith)), λ _. whole) (λ j u _ e. b.1 j u e))
            ((λ none. absurd (omega arith)), λ _. whole)),
      )

  pub merges : (port : ℕ) (v : Known T) (other : ℕ) (w : Known T) → 0 < v.parts
      → Merges IsFair port v other w (known (v.parts + w.parts) v.whole (v.offered ++ w.offered) (v.taken ++ w.taken)) (known 0 0 [] [])
  merges port v other w some_part items views b at apart at' =
      let l : Known T = known (v.parts + w.parts) v.whole (v.offered ++ w.offered) (v.taken ++ w.taken) in
      let r : Known T = known 0 0 [] [] in
      let vs : List (Known T) = set views port l in
      let p = total_set parts_of views port v l at in
      let q = total_set parts_of vs other w r at' in
      let whole : v.whole ≡ total parts_of views = (b.1 port v at).1 some_part in
      let same : total parts_of views ≡ total parts_of (set vs other r) = omega arith in (
        (λ h.
            let s = total_set (λ u. sum_by h u.offered) views port v l at in
            let s' = total_set (λ u. sum_by h u.offered) vs other w r at' in
            let t = total_set (λ u. sum_by h u.taken) views port v l at in
            let t' = total_set (λ u. sum_by h u.taken) vs other w r at' in
            let k = b.0 h in
            omega (arith, sum_by-append h v.offered w.offered, sum_by-append h v.taken w.taken)),
        fits_at _ _ same (set vs other r) (fits_set (Fits (total parts_of views)) vs other r ((λ _. (refl, refl)), λ some. absurd (omega arith))
            (λ j u _ e. fits_set (Fits (total parts_of views)) views port l ((λ none. absurd (omega arith)), λ _. whole) (λ i y _ e'. b.1 i y e') j u e)),
      )

  pub reckons : (port : ℕ) (v : Known T) → 0 < v.parts → v.parts ≡ v.whole → Learns IsFair port v (λ items. IsBalanced v.offered v.taken items)
  reckons port v some_part all items views b at h =
      let whole : v.whole ≡ total parts_of views = (b.1 port v at).1 some_part in
      let put = total_only (λ u. sum_by h u.offered) views port v at (λ j u e none. ap (sum_by h) ((b.1 j u e).0 none).0) (omega arith) in
      let taken = total_only (λ u. sum_by h u.taken) views port v at (λ j u e none. ap (sum_by h) ((b.1 j u e).0 none).1) (omega arith) in
      let q = b.0 h in
      omega arith
