use Rattle.std.proofs.Common.{[], ◌∷◌, ◌++◌}
use Rattle.tf_journal.proofs.Sound.{sound_push}
use Rattle.tf_rows.specs.Edits.{edits}
use Rattle.tf_rows.proofs.Changes.{edits_right, value_edited}
use Rattle.tf_rows.proofs.Entries.{entry_changes}
use Rattle.tf_rows.proofs.laws.rows_change_by_edits.Goals as goal

pub returns-clause-rows : goal.returns-clause-rows
returns-clause-rows c journal e sound grows r =
    value_edited c.rows_are_maps.ensures journal (journal ++ e ∷ []) sound (sound_push journal e sound grows) r (edits journal e r) (entry_changes journal e sound grows r)

pub returns-clause-agree : goal.returns-clause-agree
returns-clause-agree c journal e sound grows r =
    edits_right c.rows_are_maps.ensures journal (journal ++ e ∷ []) sound (sound_push journal e sound grows) r (edits journal e r) (entry_changes journal e sound grows r)
