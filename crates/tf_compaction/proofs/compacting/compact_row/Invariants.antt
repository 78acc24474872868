use Rattle.std.proofs.Common.{◌-◌}
use Rattle.tf_publish.specs.Tables.{KeepsOthers}
use Rattle.tf_compaction.specs.Compaction.{KeepsRest, Stays}
use Rattle.tf_compaction.proofs.compacting.compact_row.Given as goal

abbrev pub invariant-loop : goal.invariant-loop
invariant-loop g l = record {
  stays : Stays l.initial.store.forest l.store.forest;
  rest : KeepsRest l.initial.store l.store;
  others : KeepsOthers l.row l.initial.store.forest.sealed.tables l.store.forest.sealed.tables;
}

abbrev pub decreases-loop : goal.decreases-loop
decreases-loop g l = l.store.forest.sealed.tables.pushed.limit - l.store.forest.sealed.tables.pushed.count
