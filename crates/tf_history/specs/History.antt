-- The journal that publications make.
use Rattle.std.specs.Prelude.{List}
use Rattle.std.specs.List.{flat_map}
use Rattle.tf_journal.specs.declared.entry.Entry.{Entry}
use Rattle.tf_history.specs.declared.law.Chunk.{Chunk}

-- the entries that these publications added, one after another
abbrev pub entries_of : List Chunk → List Entry
entries_of log = flat_map (λ (c : Chunk). c.entries) log
