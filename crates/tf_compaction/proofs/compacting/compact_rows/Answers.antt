use Rattle.std.proofs.Common.{arith}
use Rattle.tf_publish.proofs.PublishRows.{place_within}
use Rattle.tf_compaction.proofs.Merging.{merged_on, rest_on, stays_on}
use Rattle.tf_compaction.proofs.compacting.compact_rows.Goals as goal

pub loop-number-preserved : goal.loop-number-preserved
loop-number-preserved g c = record {
  stays = stays_on _ _ _ c.loop-number.invariant.stays c.compact_row.ensures.compacted.stays;
  rest = rest_on _ _ _ c.loop-number.invariant.rest c.compact_row.ensures.rest;
  merged = merged_on c.loop-number.store.forest c.compact_row.new.store.forest c.loop-number.number c.row_at-row.result c.row_at-row.ensures c.loop-number.invariant.merged c.compact_row.ensures.others c.in_ok-compact_row.ensures.merged;
}

pub returns-clause-merged : goal.returns-clause-merged
returns-clause-merged g c = λ row. c.loop-number.invariant.merged row (let within = place_within row in omega (arith, within, c.loop-number-test.false))
