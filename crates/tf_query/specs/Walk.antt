-- Rows of tables that are still to come, and what they say of their keys.
use Rattle.std.specs.Prelude.{◌≡◌, List, Option, Some, length}
use Rattle.std.specs.List.{AllByRecursion, zip}
use Rattle.tf_table.specs.declared.key.Key.{Key}
use Rattle.tf_table.specs.Content.{entry_at, entry_of}
use Rattle.tf_look_ups.specs.declared.finder.Part.{Part}
use Rattle.tf_look_ups.specs.Finder.{IsInPart}

-- each row has the entry of its key in a table
abbrev pub AreEntries : {V : Type 0} → List (Key × Option V) → List (Key × Option V) → Type 0
AreEntries table rows = AllByRecursion (λ row. entry_at row.0 table ≡ Some row.1) rows

-- in a part of time each row has the entry of its key in lists, newest first
abbrev pub AreKnown : {V : Type 0} → List (List (Key × Option V)) → Part → List (Key × Option V) → Type 0
AreKnown lists part rows = AllByRecursion (λ row. IsInPart part row.0.timestamp → entry_of row.0 lists ≡ Some row.1) rows

-- rows with these keys and entries have those of a table
pub record AreTableRows {V : Type 0} (table : List (Key × Option V)) (keys : List Key) (entries : List (Option V)) : Type 0 where
  pub paired : length keys ≡ length entries
  pub entries_are : AreEntries table (zip keys entries)

-- in a part of time rows with these keys and entries have those of lists, newest first
pub record AreComing {V : Type 0} (lists : List (List (Key × Option V))) (part : Part) (keys : List Key) (entries : List (Option V)) : Type 0 where
  pub paired : length keys ≡ length entries
  pub known : AreKnown lists part (zip keys entries)
