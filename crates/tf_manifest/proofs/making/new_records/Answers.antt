use Rattle.tf_manifest.specs.View.{no_tables}
use Rattle.tf_manifest.proofs.Halves.{records}
use Rattle.tf_manifest.proofs.making.new_records.Goals as goal

pub returns : goal.returns
returns g c =
    records (no_tables c.args.registries.now.limit) c.new_rows-stamps.result c.new_rows-accounts.result c.new_rows-transfers.result c.new_rows-ids.result c.four.result
    c.new_rows-stamps.ensures c.new_rows-accounts.ensures c.new_rows-transfers.ensures c.new_rows-ids.ensures c.four.ensures
