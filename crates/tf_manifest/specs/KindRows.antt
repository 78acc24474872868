-- What an install leaves of several rows.
use Rattle.std.specs.Prelude.{◌≡◌, ℕ, List, [], slice_index_or, slice_set}
use Rattle.tf_registry.specs.Run.{Output, Installs}
use Rattle.tf_registry.specs.Table.{Shown}

-- one of several rows has a merged table in the place of its run, and the others are as they were
pub record InstallsAt {V : Type 0} (old : List (List (Shown V))) (at : ℕ) (out : Output V) (new : List (List (Shown V))) : Type 0 where
  pub tables : List (Shown V)
  pub is : new ≡ slice_set old at tables
  pub installs : Installs (slice_index_or old at []) out.run out.table tables
