use Rattle.std.proofs.Common.{◌≡◌, drop}
use Rattle.tf_table.specs.Content.{entry_of}
use Rattle.tf_registry.specs.Row.{lists_of}
use Rattle.tf_registry.proofs.tables.newest_entry.Given as goal

abbrev pub invariant-loop-reference : goal.invariant-loop-reference
invariant-loop-reference g l =
    entry_of l.key (lists_of (drop l.reference-index l.references)) ≡ entry_of l.key (lists_of l.references)
