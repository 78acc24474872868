use Rattle.tf_manifest.specs.declared.row.Row.TheVariants as row
use Rattle.tf_rows.specs.Parts.{value_of_part}
use Rattle.tf_rows.proofs.KeyWalks.{HasComeTo, keys_above}
use Rattle.tf_rows.proofs.due_set.DueSet.first_from.Given as goal

abbrev pub invariant-loop-self : goal.invariant-loop-self
invariant-loop-self g l = HasComeTo (value_of_part (g.S.RowSet.parts l.rows row.Expiry)) l.from l.place

abbrev pub decreases-loop-self : goal.decreases-loop-self
decreases-loop-self g l = keys_above l.self l.place
