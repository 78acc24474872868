-- Installs that are refused for want of memory alone.
use Rattle.std.proofs.Common.{◌≡◌, ℕ, ◌<◌, Result, Ok, Err, OnOk, OnErr, arith}
use Rattle.std.specs.Prelude.{IfErr}
use Rattle.std.specs.Result.{is_ok}
use Rattle.tf_registry.specs.declared.uninstalled.Uninstalled.{Uninstalled}
use Rattle.tf_registry.specs.declared.uninstalled.Uninstalled.TheVariants.{NoMemory, Stale, RegistryFull}
use Rattle.tf_registry.specs.Install.{OnFull, OnStale}

module _ {M : Type 0} where
  -- what stands isn't stale
  pub never_stale : (r : Result (Unit {0}) (Uninstalled M)) (P : Type 0) → IfErr r (λ e. OnStale e (P → ⊥)) → P → IfErr r (λ e. OnStale e ⊥)
  never_stale (Ok done) P stale stands = tt
  never_stale (Err (NoMemory m)) P stale stands = tt
  never_stale (Err Stale) P stale stands = stale stands
  never_stale (Err RegistryFull) P stale stands = tt

  -- and where fewer were pushed than may be, the limit isn't reached
  pub never_full : (r : Result (Unit {0}) (Uninstalled M)) (P : Type 0) (count limit : ℕ) → IfErr r (λ e. OnFull e (P × (count ≡ limit))) → count < limit → IfErr r (λ e. OnFull e ⊥)
  never_full (Ok done) P count limit full room = tt
  never_full (Err (NoMemory m)) P count limit full room = tt
  never_full (Err Stale) P count limit full room = tt
  never_full (Err RegistryFull) P count limit full room = let same = full.1 in omega (arith, same, room)

-- what follows an answer follows one that is as good
module _ {X Y E F : Type 0} where
  pub ok_as : (a : Result X E) (b : Result Y F) (P Q : Type 0) → is_ok a ≡ is_ok b → (P → Q) → OnOk b P → OnOk a Q
  ok_as (Ok x) (Ok y) P Q same f h = f h
  ok_as (Ok x) (Err e) P Q same f h = absurd (cc)
  ok_as (Err e) b P Q same f h = tt

  pub ok_as_both : (a : Result X E) (b : Result Y F) (P Q R : Type 0) → is_ok a ≡ is_ok b → (P → Q → R) → OnOk b P → OnOk b Q → OnOk a R
  ok_as_both (Ok x) (Ok y) P Q R same f p q = f p q
  ok_as_both (Ok x) (Err e) P Q R same f p q = absurd (cc)
  ok_as_both (Err e) b P Q R same f p q = tt

  pub err_as : (a : Result X E) (b : Result Y F) (P : Type 0) → is_ok a ≡ is_ok b → OnErr b P → OnErr a P
  err_as (Ok x) b P same h = tt
  err_as (Err e) (Ok y) P same h = absurd (cc)
  err_as (Err e) (Err f) P same h = h
