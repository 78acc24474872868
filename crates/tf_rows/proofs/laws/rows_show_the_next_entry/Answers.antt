use Rattle.std.proofs.Common.{[], ◌∷◌, ◌++◌}
use Rattle.tf_manifest.specs.Shows.{value_of}
use Rattle.tf_rows.specs.Edits.{edits}
use Rattle.tf_rows.proofs.Next.{each_listed, edits-shown}
use Rattle.tf_rows.proofs.laws.rows_show_the_next_entry.Goals as goal

pub returns : goal.returns
returns c rows journal e sound grows shows =
    edits-shown (edits journal e) (value_of journal) (value_of (journal ++ e ∷ [])) rows each_listed shows
    (c.rows_change_by_edits.ensures.rows journal e sound grows) (c.rows_change_by_edits.ensures.agree journal e sound grows)
