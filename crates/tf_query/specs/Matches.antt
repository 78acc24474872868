-- The records that a test accepts and their timestamps, in a direction.
use Rattle.std.specs.Prelude.{ℕ, ◌==◌, Bool, false, List, filter, find, map, reverse, Option, if◌then◌else◌}
use Rattle.std.specs.Option.{option_map_or}
use Rattle.tf_records.specs.declared.account.Account.{Account}
use Rattle.tf_records.specs.declared.transfer.Transfer.{Transfer}
use Rattle.tf_scan.specs.declared.direction.Direction.{Direction}
use Rattle.tf_scan.specs.declared.direction.Direction.TheVariants.{Rising, Falling}
use Rattle.tf_scan.specs.Order.{IsInOrder}

abbrev pub account_timestamp : Account → ℕ
account_timestamp account = account.timestamp

abbrev pub transfer_timestamp : Transfer → ℕ
transfer_timestamp transfer = transfer.timestamp

-- records stand oldest first, no two with one timestamp
abbrev pub AreDated : {X : Type 0} → (X → ℕ) → List X → Type 0
AreDated timestamp records = IsInOrder Rising (map timestamp records)

-- the record with a timestamp
abbrev pub record_at : {X : Type 0} → (X → ℕ) → List X → ℕ → Option X
record_at timestamp records t = find (λ x. timestamp x == t) records

-- whether there is one, and a test accepts it
abbrev pub holds_at : {X : Type 0} → (X → ℕ) → (X → Bool) → List X → ℕ → Bool
holds_at timestamp accepts records t = option_map_or accepts (record_at timestamp records t) false

-- the direction in which a search takes records
abbrev pub direction_of : Bool → Direction
direction_of is_reversed = if is_reversed then Falling else Rising

-- records that stand oldest first, in a direction: where timestamps fall, the newest first
abbrev pub in_direction : {X : Type 0} → Direction → List X → List X
in_direction Rising records = records
in_direction Falling records = reverse records

-- those of them that a test accepts
abbrev pub accepted_in : {X : Type 0} → Direction → (X → Bool) → List X → List X
accepted_in d accepts records = in_direction d (filter accepts records)

-- their timestamps
abbrev pub matches_of : {X : Type 0} → (X → ℕ) → Direction → (X → Bool) → List X → List ℕ
matches_of timestamp d accepts records = map timestamp (accepted_in d accepts records)
