use Rattle.tf_scan.proofs.Runs.{run-open, run-none}
use Rattle.tf_scan.proofs.place.Place.take_run.Goals as goal

pub returns-in-Open : goal.returns-in-Open
returns-in-Open g c =
    rw c.in-Open.is (run-open c.args.direction c.args.turn.until c.args.from c.take_rows.result c.in-Open.rows c.take_rows.new.rows c.args.out.now c.take_rows.new.out c.take_rows.ensures)

pub returns-in_default : goal.returns-in_default
returns-in_default g c = run-none c.args.direction c.args.turn.until c.args.from c.args.self.now c.args.out.now c.requires
