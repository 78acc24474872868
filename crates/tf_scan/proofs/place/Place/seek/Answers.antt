use Rattle.std.proofs.Common.{subst, sym, ◌∙◌}
use Rattle.tf_scan.specs.Place.{IsPlace, Seeks}
use Rattle.tf_scan.specs.declared.place.Place.TheVariants.{Open}
use Rattle.tf_scan.proofs.Taking.{seek-closed, seek-ends, seek-stays, seek-open}
use Rattle.tf_scan.proofs.place.Place.seek.Goals as goal

pub returns-then-ends_before : goal.returns-then-ends_before
returns-then-ends_before g c =
    rw c.in-Closed.is (seek-ends c.args.direction c.args.value c.in-Closed.table c.in-Closed.bound c.in-Closed._expected c.args.timestamp (c.ends_before.ensures c.if-ends_before.true))

pub returns-else-ends_before : goal.returns-else-ends_before
returns-else-ends_before g c =
    rw c.in-Closed.is (seek-closed c.args.direction c.args.value c.in-Closed.table c.in-Closed.bound c.in-Closed._expected c.args.timestamp (subst (IsPlace c.args.direction c.args.value) c.in-Closed.is c.requires) (sym c.is_before.ensures ∙ c.if-is_before.true))

pub returns-else-is_before : goal.returns-else-is_before
returns-else-is_before g c =
    rw c.in-Closed.is (seek-stays c.args.direction c.args.value c.in-Closed.table c.in-Closed.bound c.in-Closed._expected c.args.timestamp (subst (IsPlace c.args.direction c.args.value) c.in-Closed.is c.requires) (sym c.is_before.ensures ∙ c.if-is_before.false))

pub returns-in-Open : goal.returns-in-Open
returns-in-Open g c =
    rw c.in-Open.is (subst (λ rows. Seeks c.args.direction c.args.value c.args.timestamp (Open c.in-Open.rows) (Open rows)) (sym c.seek.ensures)
    (seek-open c.args.direction c.args.value c.in-Open.rows c.args.timestamp (subst (IsPlace c.args.direction c.args.value) c.in-Open.is c.requires)))
