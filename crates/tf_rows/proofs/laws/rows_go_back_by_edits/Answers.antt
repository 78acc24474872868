use Rattle.std.proofs.Common.{[], ◌∷◌, ◌++◌}
use Rattle.tf_journal.proofs.Sound.{sound_push}
use Rattle.tf_rows.specs.Back.{edits_back}
use Rattle.tf_rows.proofs.GoingBack.{entry_back}
use Rattle.tf_rows.proofs.Changes.{edits_right, value_edited}
use Rattle.tf_rows.proofs.laws.rows_go_back_by_edits.Goals as goal

pub returns-clause-rows : goal.returns-clause-rows
returns-clause-rows c journal e sound grows r =
    value_edited c.rows_are_maps.ensures (journal ++ e ∷ []) journal (sound_push journal e sound grows) sound r (edits_back journal e r) (entry_back journal e sound grows r)

pub returns-clause-agree : goal.returns-clause-agree
returns-clause-agree c journal e sound grows r =
    edits_right c.rows_are_maps.ensures (journal ++ e ∷ []) journal (sound_push journal e sound grows) sound r (edits_back journal e r) (entry_back journal e sound grows r)
