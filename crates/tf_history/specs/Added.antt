-- What a publication adds.
use Rattle.std.specs.Prelude.{List, drop}
use Rattle.tf_journal.specs.declared.entry.Entry.{Entry}
use Rattle.tf_history.specs.declared.law.Addition.{Addition}
use Rattle.tf_history.specs.declared.law.Chunk.{Chunk}

-- the entries of a ledger's journal but the first ones
abbrev pub chunk_of : {L : Type 0} → (L → List Entry) → Addition L → Chunk
chunk_of journal addition = record { entries = drop addition.from (journal addition.whole.value) }
