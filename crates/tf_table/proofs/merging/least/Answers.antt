use Rattle.std.proofs.Common.{◌-◌, arith, ◌∙◌}
use Rattle.tf_table.specs.Key.{key_cmp}
use Rattle.tf_table.proofs.Walks.{least_at_more}
use Rattle.tf_table.proofs.merging.least.Goals as goal

pub loop-rest-preserved : goal.loop-rest-preserved
loop-rest-preserved g c = record {
  within = omega arith;
  found = c.lesser_row-found.ensures
      ∙ least_at_more key_cmp c.args.tables.now c.args.places.now c.loop-rest.rest (c.loop-rest.rest - 1) c.index-tables-rest.result (omega arith) (omega arith) c.requires c.index-tables-rest.is
      c.front_at.result c.loop-rest.found c.front_at.ensures.value c.loop-rest.invariant.found;
}
