use Rattle.tf_scan.proofs.Runs.{rows-both}
use Rattle.tf_scan.proofs.run.take_rows.Goals as goal

pub returns : goal.returns
returns g c =
    rows-both c.args.direction c.args.turn.until c.args.from c.take_entries-entries_to.result c.take_each.result c.args.rows.now c.take_entries-entries_to.new.rows c.take_each.new.rows c.args.out.now c.take_entries-entries_to.new.out c.take_each.new.out
    (rows-both c.args.direction c.args.turn.until c.args.from c.take_values-values_to.result c.take_entries-entries_to.result c.args.rows.now c.take_values-values_to.new.rows c.take_entries-entries_to.new.rows c.args.out.now c.take_values-values_to.new.out c.take_entries-entries_to.new.out
    c.take_values-values_to.ensures c.take_entries-entries_to.ensures)
    c.take_each.ensures
