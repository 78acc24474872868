-- What a walk over a journal makes of each entry.
use Rattle.std.specs.Prelude.{Option, Some, Bool, None, if◌then◌else◌}
use Rattle.std.specs.Option.{option_and_then}

-- the row of an entry, where it has a record that is accepted
abbrev pub accepted_row : {E X Y : Type 0} → (E → Option X) → (X → Bool) → (X → Y) → E → Option Y
accepted_row found_in accepts row_of entry = option_and_then (λ found. if accepts found then Some (row_of found) else None) (found_in entry)
