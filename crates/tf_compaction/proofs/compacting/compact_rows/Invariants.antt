use Rattle.std.proofs.Common.{◌<◌}
use Rattle.tf_manifest.specs.declared.row.Row.{Row}
use Rattle.tf_rows.specs.Parts.{place_of}
use Rattle.tf_compaction.specs.Compaction.{IsMergedOut, KeepsRest, Stays}
use Rattle.tf_compaction.proofs.compacting.compact_rows.Given as goal

abbrev pub invariant-loop-number : goal.invariant-loop-number
invariant-loop-number g l = record {
  stays : Stays l.initial.store.forest l.store.forest;
  rest : KeepsRest l.initial.store l.store;
  merged : (row : Row) → place_of row < l.number → IsMergedOut l.store.forest row;
}
