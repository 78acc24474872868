-- Rows that are no heavier than so many pushes.
use Rattle.std.proofs.Common.{◌≡◌, ℕ, ◌+◌, ◌^◌, ◌<◌, ◌≤◌, List, [], ◌∷◌, length, sym, subst, arith}
use Rattle.std.specs.Prelude.{slice_index_or, slice_set}
use Rattle.std.proofs.lemmas.List.Elements.{All-set}
use Rattle.tf_registry.specs.Row.{weight}
use Rattle.tf_registry.specs.Table.{Shown}
use Rattle.tf_manifest.specs.View.{AreLight}

one_heavier : (level weighs pushes : ℕ) → level ≡ 0 → weighs ≤ pushes → 2 ^ level + weighs ≤ pushes + 1
one_heavier level weighs pushes sealed light =
    subst (λ (l : ℕ). 2 ^ l + weighs ≤ pushes + 1) (sym sealed) (omega (arith, light))

module _ {V : Type 0} where
  pub light_at : (pushes : ℕ) (rows : List (List (Shown V))) (at : ℕ) → at < length rows → AreLight pushes rows → weight (slice_index_or rows at []) ≤ pushes
  light_at pushes rows at within light = light at [] within

  -- one more push, and a table that was just sealed in front of one of the rows
  pub light_with : (pushes : ℕ) (old new : List (List (Shown V))) (at : ℕ) (t : Shown V) → at < length old → AreLight pushes old → t.table.level ≡ 0 → new ≡ slice_set old at (t ∷ slice_index_or old at []) → AreLight (pushes + 1) new
  light_with pushes old new at t within light sealed is =
      subst (AreLight (pushes + 1)) (sym is)
      (All-set (λ (tables : List (Shown V)). weight tables ≤ pushes + 1) old at (t ∷ slice_index_or old at [])
      (one_heavier t.table.level (weight (slice_index_or old at [])) pushes sealed (light_at pushes old at within light))
      (λ i d here. let lighter = light i d here in omega (arith, lighter)))
