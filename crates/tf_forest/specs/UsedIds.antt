-- Ids that a journal uses, each known to a filter, which may know others.
use Rattle.std.specs.Prelude.{ℕ, List, Option, Some, None, IfSome}
use Rattle.std.specs.List.{All}
use Rattle.tf_journal.specs.declared.entry.Entry.{Entry}
use Rattle.tf_journal.specs.declared.entry.Entry.TheVariants as entry
use Rattle.tf_table.specs.GrowingFilter.{Knows}

-- the transfer id that an entry uses, stored or failed, if it uses one
abbrev pub used_id : Entry → Option ℕ
used_id (entry.Transfer transfer) = Some transfer.id
used_id (entry.Failed timestamp id) = Some id
used_id _ = None

-- the id that an entry uses is known
abbrev pub IsKnown : List (List ℕ) → Entry → Type 0
IsKnown parts e = IfSome (used_id e) (Knows parts)

-- each id that the journal uses is known
abbrev pub AreKnown : List (List ℕ) → List Entry → Type 0
AreKnown parts journal = All (IsKnown parts) journal
