use Rattle.tf_rows.proofs.PartiesAfter.{parties_after, parties_before}
use Rattle.tf_rows.proofs.laws.accounts_change_as_found.Goals as goal

pub returns-clause-after : goal.returns-clause-after
returns-clause-after c = parties_after c.rows_are_maps.ensures

pub returns-clause-before : goal.returns-clause-before
returns-clause-before c = parties_before c.rows_are_maps.ensures
