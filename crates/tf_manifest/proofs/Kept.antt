-- What always holds of a manifest, and an install of its rows keeps.
use Rattle.std.proofs.Common.{◌≡◌, ℕ, ◌<◌, ◌≤◌, List, [], length, Ok, Err, Result, OnOk, OnErr, sym, ap, subst, arith}
use Rattle.std.proofs.lemmas.List.Elements.{All-set}
use Rattle.tf_registry.specs.Limit.{Pushed, one_more}
use Rattle.tf_registry.specs.Row.{weight}
use Rattle.tf_registry.specs.Run.{Output}
use Rattle.tf_registry.specs.Table.{Shown}
use Rattle.tf_manifest.specs.KindRows.{InstallsAt}
use Rattle.tf_manifest.specs.View.{AreLight}

module _ {V : Type 0} where
  pub lighter : (few many : ℕ) (rows : List (List (Shown V))) → few ≤ many → AreLight few rows → AreLight many rows
  lighter few many rows le light = λ k d within. let lt = light k d within in omega (arith, lt)

  installed : (pushes : ℕ) (old : List (List (Shown V))) (at : ℕ) (out : Output V) (new : List (List (Shown V))) → at < length old → InstallsAt old at out new → AreLight pushes old → AreLight pushes new
  installed pushes old at out new within i light =
      subst (AreLight pushes) (sym i.is)
      (All-set (λ (tables : List (Shown V)). weight tables ≤ pushes) old at i.tables
      (subst (λ w. w ≤ pushes) (sym i.installs.weighs) (light at [] within)) light)

-- no push is taken back
pub counted : {E : Type 0} (was now : Pushed) (answer : Result (Unit {0}) E) (P : Type 0) → OnOk answer (now ≡ one_more was) → OnErr answer (P × (now ≡ was)) → was.count ≤ now.count
counted was now (Ok done) P ok err = let more = ap (λ (p : Pushed). p.count) ok in omega (arith, more)
counted was now (Err e) P ok err = let same = ap (λ (p : Pushed). p.count) err.1 in omega (arith, same)

-- rows stay as light as the tables pushed
pub answered : {V E : Type 0} (was now : Pushed) (old : List (List (Shown V))) (at : ℕ) (out : Output V) (answer : Result (Unit {0}) E) (new : List (List (Shown V)))
    → at < length old → OnOk answer (InstallsAt old at out new) → OnOk answer (now ≡ one_more was) → OnErr answer ((new ≡ old) × (now ≡ was)) → AreLight was.count old → AreLight now.count new
answered {V} was now old at out (Ok done) new within installs pushed err light =
    let more = ap (λ (p : Pushed). p.count) pushed in
    let le : was.count ≤ now.count = omega (arith, more) in
    lighter was.count now.count new le (installed was.count old at out new within installs light)
answered {V} was now old at out (Err e) new within installs pushed err light =
    let same = ap (λ (p : Pushed). p.count) err.1 in
    let le : was.count ≤ now.count = omega (arith, same) in
    lighter was.count now.count new le (subst (AreLight was.count) (sym err.0) light)
