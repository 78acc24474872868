use Rattle.tf_manifest.specs.View.{no_tables}
use Rattle.tf_manifest.proofs.Halves.{states}
use Rattle.tf_manifest.proofs.making.new_states.Goals as goal

pub returns : goal.returns
returns g c =
    states (no_tables c.args.registries.now.limit) c.new_rows-units.result c.new_rows-states.result c.new_rows-sums.result c.new_rows-statuses.result c.four.result
    c.new_rows-units.ensures c.new_rows-states.ensures c.new_rows-sums.ensures c.new_rows-statuses.ensures c.four.ensures
