-- What the entries of a table's rows are, in either form.
use Rattle.std.specs.Prelude.{◌≡◌, ℕ, ◌<◌, ◌≤◌, List, Option, None, length, replicate, vec_capacity}
use Rattle.std.specs.List.{All}
use Rattle.tf_table.specs.declared.entries.Entries.{Entries}
use Rattle.tf_table.specs.declared.entries.Entries.TheVariants.{Same, Each}

-- the entries of so many rows, in the order of the rows
abbrev pub entries_of : {V A : Type 0} → ℕ → Entries V A → List (Option V)
entries_of n (Same entry) = replicate n entry
entries_of n (Each entries) = entries.items

-- there is an entry at the place, whatever the number of rows
abbrev pub HasEntry : {V A : Type 0} → ℕ → Entries V A → Type 0
HasEntry place (Same entry) = Unit {0}
HasEntry place (Each entries) = place < length entries.items

-- there are entries up to the place, whatever the number of rows
abbrev pub HasEntries : {V A : Type 0} → ℕ → Entries V A → Type 0
HasEntries to (Same entry) = Unit {0}
HasEntries to (Each entries) = to ≤ length entries.items

-- none of the entries is a value
abbrev pub HaveNoValue : {V : Type 0} → List (Option V) → Type 0
HaveNoValue entries = All (λ entry. entry ≡ None) entries

-- a run of entries has room for just so many, and isn't one of tombstones alone
abbrev pub IsStored : {V A : Type 0} → ℕ → Entries V A → Type 0
IsStored room (Same entry) = Unit {0}
IsStored room (Each entries) = (vec_capacity entries ≡ room) × (HaveNoValue entries.items → ⊥)
