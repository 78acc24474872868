-- Which registries a name names.
use Rattle.std.specs.Prelude.{◌≡◌, ℕ, List, [], ◌∷◌, slice_index_or}
use Rattle.std.specs.Arc.{arc_value}
use Rattle.boxcar.specs.Table.{Shelves}
use Rattle.tf_manifest.specs.declared.registries.Registries.{Registries}

-- the registry of each kind of value
abbrev pub shelf_of : {A : Type 0} → Registries A → ℕ → Shelves
shelf_of registries kind =
    let shelves : List Shelves =
    arc_value registries.stamps
    ∷ arc_value registries.accounts
    ∷ arc_value registries.transfers
    ∷ arc_value registries.ids
    ∷ arc_value registries.units
    ∷ arc_value registries.states
    ∷ arc_value registries.sums
    ∷ arc_value registries.statuses
    ∷ []
    in
    slice_index_or shelves kind record { tag = []; buckets = [] }

-- the name is that of these registries
pub record AreShelves {A : Type 0} (shelf : ℕ → Shelves) (registries : Registries A) : Type 0 where
  pub stamps : arc_value registries.stamps ≡ shelf 0
  pub accounts : arc_value registries.accounts ≡ shelf 1
  pub transfers : arc_value registries.transfers ≡ shelf 2
  pub ids : arc_value registries.ids ≡ shelf 3
  pub units : arc_value registries.units ≡ shelf 4
  pub states : arc_value registries.states ≡ shelf 5
  pub sums : arc_value registries.sums ≡ shelf 6
  pub statuses : arc_value registries.statuses ≡ shelf 7
