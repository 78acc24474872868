-- The rule of a queue of jobs.
use Rattle.std.specs.Prelude.{◌≡◌, ℕ, ◌+◌, ◌<◌, List, [], ◌∷◌, sum_by}
use mathlib.Core.Option.{some}
use lib.ListN.{get_elem?}
use Rattle.tf_jobs.specs.declared.known.Known.{Known}

abbrev pub known : {T : Type 0} → ℕ → ℕ → List T → List T → Known T
known parts whole offered taken = record { parts = parts; whole = whole; offered = offered; taken = taken }

-- f of each pass, added up
abbrev pub total : {X : Type 0} → (X → ℕ) → List X → ℕ
total f [] = 0
total f (v ∷ vs) = f v + total f vs

-- a pass with no part has offered and taken nothing, and one with a part knows how many parts there are
abbrev pub Fits : {T : Type 0} → ℕ → Known T → Type 0
Fits n v = (v.parts ≡ 0 → (v.offered ≡ []) × (v.taken ≡ [])) × (0 < v.parts → v.whole ≡ n)

-- what all passes offered is what they took and what the queue holds
abbrev pub IsFair : {T : Type 0} → List T → List (Known T) → Type 0
IsFair {T} items views =
    ((h : T → ℕ) → total (λ v. sum_by h v.offered) views ≡ total (λ v. sum_by h v.taken) views + sum_by h items)
    × ((port : ℕ) (v : Known T) → get_elem? views port ≡ some v → Fits (total (λ u. u.parts) views) v)

-- the rule allows that the queue holds these
abbrev pub IsAllowed : {T : Type 0} → List T → Type 0
IsAllowed {T} items = (views : List (Known T)) × IsFair items views
