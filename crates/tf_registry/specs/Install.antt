-- What a refused install says.
use Rattle.std.specs.Prelude.{⊤}
use Rattle.tf_registry.specs.declared.uninstalled.Uninstalled.{Uninstalled}
use Rattle.tf_registry.specs.declared.uninstalled.Uninstalled.TheVariants.{NoMemory, Stale, RegistryFull}

module _ {M : Type 0} where
  -- P, if the run wasn't there
  abbrev pub OnStale : Uninstalled M → Type 0 → Type 0
  OnStale (NoMemory m) P = ⊤
  OnStale Stale P = P
  OnStale RegistryFull P = ⊤

  -- P, if the limit was reached
  abbrev pub OnFull : Uninstalled M → Type 0 → Type 0
  OnFull (NoMemory m) P = ⊤
  OnFull Stale P = ⊤
  OnFull RegistryFull P = P

  -- P of the merged table that is handed back, if there was no memory
  abbrev pub IfNoMemory : Uninstalled M → (M → Type 0) → Type 0
  IfNoMemory (NoMemory m) P = P m
  IfNoMemory Stale P = ⊤
  IfNoMemory RegistryFull P = ⊤
