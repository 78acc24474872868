use Rattle.std.proofs.Common.{take}
use Rattle.tf_table.specs.Content.{entry_of}
use Rattle.tf_table.specs.First.{IsFirstAbove}
use Rattle.tf_registry.specs.Row.{lists_of}
use Rattle.tf_registry.proofs.tables.first_entry.Given as goal

abbrev pub invariant-loop-reference : goal.invariant-loop-reference
invariant-loop-reference g l = IsFirstAbove l.key (λ found. entry_of found (lists_of (take l.reference-index l.references))) l.first
