-- What a refused install says.
use Rattle.std.specs.Prelude.{◌≡◌, Result, Ok, Err, ⊤}
use Rattle.tf_registry.specs.declared.uninstalled.Uninstalled.{Uninstalled}
use Rattle.tf_registry.specs.declared.uninstalled.Uninstalled.TheVariants.{NoMemory, Stale, RegistryFull}

-- what an answer hands back, and else the same answer
abbrev pub AreParts : {M K : Type 0} → Result (Unit {0}) (Uninstalled M) → Result (Result (Unit {0}) (Uninstalled K)) M → Type 0
AreParts (Ok done) (Ok (Ok told)) = ⊤
AreParts (Err (NoMemory m)) (Err back) = back ≡ m
AreParts (Err Stale) (Ok (Err Stale)) = ⊤
AreParts (Err RegistryFull) (Ok (Err RegistryFull)) = ⊤
AreParts answer parts = ⊥
