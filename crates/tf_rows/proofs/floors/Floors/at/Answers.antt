use Rattle.std.proofs.Common.{sym, subst, length}
use Rattle.tf_table.specs.declared.key.Key.{Key}
use Rattle.tf_manifest.specs.declared.row.Row.TheVariants as row
use Rattle.tf_rows.specs.Floors.{HaveFloors}
use Rattle.tf_rows.proofs.BelowFloors.{first_floors}
use Rattle.tf_rows.proofs.floors.Floors.at.Goals as goal

pub returns-clause-holds : goal.returns-clause-holds
returns-clause-holds c = λ journal content floor shows is found.
    subst (λ (key : Key). HaveFloors (record { present = key; undone = key }) journal (length journal)) (sym c.unwrap_or-floor.ensures)
    (first_floors journal (content row.Expiry) (shows row.Expiry) floor is c.args.first found)
